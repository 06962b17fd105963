-- One operation more.
use Rattle.std.proofs.Common.{◌+◌, ◌<◌, ◌++◌, ◌&&◌, not, cond, length, take, drop, Some, None, sym, ap, ap₂, ◌∙◌, subst, arith, take_all}
use Rattle.std.proofs.lemmas.List.{drop_all}
use Rattle.std.specs.Option.{option_or}
use Rattle.rdb_model.specs.Story.{same_reply, after}
use Rattle.rdb_model.specs.Answer.{answer}
use Rattle.rdb_model.specs.Journal.{wrong_reply, made_in}
use Rattle.rdb_model.specs.Tallies.{HasMade}
use Rattle.rdb_model.proofs.AnsweringLemmas.{made_in_more, after_more, wrong_more, answer_classes, or_nothing}
use Rattle.rdb_model.proofs.answering.wrong_in_commit.Goals as goal

pub loop-place-preserved : goal.loop-place-preserved
loop-place-preserved c =
    let schema = c.args.schema.now in
    let done = c.as_slice-operations.result.now in
    let i = c.loop-place.place in
    let d = c.index-operations-place.result in
    let is = c.index-operations-place.is in
    let so = c.loop-place.invariant in
    let within : i < length done = omega arith in
    let db = c.loop-place.db in
    let told = c.in_ok-answer.ensures in
    let same = c.same_reply-same.ensures ∙ ap (λ r. same_reply r d.1) told.reply in
    record {
      classes = ap length told.next ∙ answer_classes schema db d.0 ∙ so.classes;
      next = ap (λ b. after schema b (drop (i + 1) done)) told.next ∙ sym (after_more schema db done i d within is) ∙ so.next;
      objects = λ objects have. subst (λ l. HasMade l c.makes_again.new.made) (sym (made_in_more objects done i d within is)) (c.in_ok-again.ensures.made (objects ++ made_in (take i done)) (so.objects objects have));
      left = λ objects have.
          ap₂ (λ w b. option_or w (wrong_reply schema b (objects ++ made_in (take (i + 1) done)) (i + 1 + 1) (drop (i + 1) done))) c.first_wrong-wrong.ensures told.next
          ∙ ap (λ l. option_or (option_or c.loop-place.wrong (cond (c.same_reply-same.result && not c.in_ok-again.again) None (Some (i + 1)))) (wrong_reply schema (answer schema db d.0).1 l (i + 1 + 1) (drop (i + 1) done))) (made_in_more objects done i d within is)
          ∙ wrong_more schema db (objects ++ made_in (take i done)) done i d c.loop-place.wrong c.same_reply-same.result c.in_ok-again.again within is same (c.in_ok-again.ensures.again (objects ++ made_in (take i done)) (so.objects objects have))
          ∙ so.left objects have;
    }

pub returns : goal.returns
returns c =
    let schema = c.args.schema.now in
    let done = c.as_slice-operations.result.now in
    let i = c.loop-place.place in
    let so = c.loop-place.invariant in
    let none = drop_all i done c.loop-place-test.false in
    let whole = take_all i done c.loop-place-test.false in
    record {
      wrong = λ objects have.
          or_nothing c.loop-place.wrong
          ∙ ap (λ l. option_or c.loop-place.wrong (wrong_reply schema c.loop-place.db (objects ++ made_in (take i done)) (i + 1) l)) (sym none)
          ∙ so.left objects have;
      next = ap (after schema c.loop-place.db) (sym none) ∙ so.next;
      made = λ objects have. subst (λ l. HasMade (objects ++ made_in l) c.loop-place.made) (whole ∙ c.as_slice-operations.ensures) (so.objects objects have);
      classes = so.classes;
    }

pub returns-in_err-again-clause-classes : goal.returns-in_err-again-clause-classes
returns-in_err-again-clause-classes c =
    ap length c.in_ok-answer.ensures.next ∙ answer_classes c.args.schema.now c.loop-place.db c.index-operations-place.result.0 ∙ c.loop-place.invariant.classes
