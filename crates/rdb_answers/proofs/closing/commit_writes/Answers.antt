use Rattle.std.proofs.Common.{◌≡◌, ◌≤◌, [], length, sym, subst, ◌∙◌}
use Rattle.rdb_base.specs.declared.identity.Kind.TheVariants as kind
use Rattle.rdb_base.specs.declared.identity.Phase.TheVariants as phase
use Rattle.rdb_base.specs.declared.limits.TheConstants.{MAX_OPERATIONS}
use Rattle.rdb_base.specs.declared.operation.Op.{Op}
use Rattle.rdb_base.specs.declared.operation.Reply.{Reply}
use Rattle.std.specs.Prelude.{List, IsSome}
use Rattle.rdb_model.specs.Fits.{AllFit}
use Rattle.rdb_mvcc.specs.declared.validation.Checked.TheVariants as checked
use Rattle.rdb_registry.specs.declared.seat.Seat.{Seat}
use Rattle.rdb_answers.specs.Callers.{FitsSchema}
use Rattle.rdb_answers.specs.Ends.{refuses}
use Rattle.rdb_answers.proofs.CallLemmas.{moves_two}
use Rattle.rdb_answers.proofs.CommitLemmas.{moved_is, moved_out, running_open, story_done, commit_from_mark, checked_before, refuses_alike}
use Rattle.rdb_transactions.specs.Hands.{without_story}
use Rattle.rdb_transactions.specs.Records.{on_hand}
use Rattle.rdb_transactions.proofs.EditLemmas.{of_held, has_seat}
use Rattle.rdb_answers.proofs.closing.commit_writes.Goals as goal

pub story_of-story-requires-clause-opened : goal.story_of-story-requires-clause-opened
story_of-story-requires-clause-opened c = running_open c.args.t.now c.args.c c.requires.sound c.requires.running

pub checked-requires-clause-fits : goal.checked-requires-clause-fits
checked-requires-clause-fits c =
    let before = c.args.t.now in
    let there = of_held before.registry.seats c.args.c (FitsSchema c.args.schema.now) c.requires.fits in
    let opened = has_seat before.registry.seats c.args.c (λ (s : Seat). IsSome s.transaction) there.0 (running_open before c.args.c c.requires.sound c.requires.running) there.1.0 in
    let is = story_done before c.args.c c.story_of-story.result there.0 opened c.story_of-story.ensures.story there.1.0 in
    subst (λ (d : List (Op × Reply)). AllFit c.args.schema.now kind.ReadWrite d) (sym is) there.1.1.fits

pub checked-requires-clause-few : goal.checked-requires-clause-few
checked-requires-clause-few c =
    let before = c.args.t.now in
    let there = of_held before.registry.seats c.args.c (FitsSchema c.args.schema.now) c.requires.fits in
    let opened = has_seat before.registry.seats c.args.c (λ (s : Seat). IsSome s.transaction) there.0 (running_open before c.args.c c.requires.sound c.requires.running) there.1.0 in
    let is = story_done before c.args.c c.story_of-story.result there.0 opened c.story_of-story.ensures.story there.1.0 in
    subst (λ (d : List (Op × Reply)). length d ≤ MAX_OPERATIONS) (sym is) there.1.1.few

pub mark_story-requires-clause-moved : goal.mark_story-requires-clause-moved
mark_story-requires-clause-moved c = moved_out c.args.t.now c.story_of-story.new.self c.args.c c.sound.ensures c.requires.live c.requires.running c.story_of-story.ensures.moves

pub refuse-requires-clause-moved : goal.refuse-requires-clause-moved
refuse-requires-clause-moved c = moved_out c.args.t.now c.story_of-story.new.self c.args.c c.sound.ensures c.requires.live c.requires.running c.story_of-story.ensures.moves

pub returns-in-Clear-clause-answer : goal.returns-in-Clear-clause-answer
returns-in-Clear-clause-answer c =
    let before = c.args.t.now in
    let moved = c.story_of-story.new.self in
    let known = moved_is before moved c.args.c c.story_of-story.result c.requires.sound c.requires.live c.requires.running c.story_of-story.ensures.story c.story_of-story.ensures.moves c.story_of-story.ensures.spare in
    commit_from_mark c.args.schema.now before moved c.mark_story.new.t c.args.c c.story_of-story.result c.mark_story.result known c.in-Clear.ensures c.mark_story.ensures.answer

pub returns-in-Conflict-clause-answer : goal.returns-in-Conflict-clause-answer
returns-in-Conflict-clause-answer c =
    let before = c.args.t.now in
    let moved = c.story_of-story.new.self in
    let after = c.refuse.new.t in
    let commit = c.in-Conflict.commit in
    let operation = c.in-Conflict.operation in
    let known = moved_is before moved c.args.c c.story_of-story.result c.requires.sound c.requires.live c.requires.running c.story_of-story.ensures.story c.story_of-story.ensures.moves c.story_of-story.ensures.spare in
    let there = of_held before.registry.seats c.args.c (λ (s : Seat). s.hand.phase ≡ phase.Running kind.ReadWrite) c.requires.running in
    let opened = has_seat before.registry.seats c.args.c (λ (s : Seat). IsSome s.transaction) there.0 (running_open before c.args.c c.requires.sound c.requires.running) there.1.0 in
    let is = story_done before c.args.c c.story_of-story.result there.0 opened c.story_of-story.ensures.story there.1.0 in
    rw c.refuse.ensures.answer
    (record {
      live = c.requires.live;
      writes = known.writes;
      touched = checked_before c.args.schema.now before moved c.args.c c.story_of-story.result (checked.Conflict commit operation) known c.in-Conflict.ensures;
      moves =
          refuses_alike before moved after c.args.c there.0 c.story_of-story.result.done commit operation there.1.0 is (sym c.story_of-story.ensures.moves.manager)
          (moves_two before moved after c.args.c (on_hand without_story) (refuses moved.manager c.story_of-story.result.done commit operation) [] [] c.story_of-story.ensures.moves c.refuse.ensures.moves);
      spare = c.refuse.ensures.spare ∙ c.story_of-story.ensures.spare;
    })
