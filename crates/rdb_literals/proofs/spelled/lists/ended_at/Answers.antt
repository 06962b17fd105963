use Rattle.std.proofs.Common.{◌≡◌, [], ◌++◌, sym, ◌∙◌}
use Rattle.std.proofs.lemmas.List.{append-nil}
use Rattle.rdb_literals.proofs.ListLemmas.{next_of, none_there, completes_more, left_more, end_close, ends_of, at_some, if_some, at_none}
use Rattle.rdb_literals.proofs.spelled.lists.ended_at.Goals as goal

pub returns-in_default-2-clause-exact : goal.returns-in_default-2-clause-exact
returns-in_default-2-clause-exact g c = λ spelled rest more is e.
    let comma = c.in-Some.ensures.found in
    let n = next_of g.T.Written.is_text c.args.close (c.args.elements ++ more) c.loop-next.elements c.loop-next.rest.now c.in-Some.next.now rest comma.0 comma.1 c.requires g.met.T.Written.begins comma.2 comma.4
    (λ b a r hb ha hr e'. c.in-Some.ensures.exact b a r hb ha hr e') (c.loop-next.invariant.on spelled rest more is e) in
    none_there g.T.Written.is_text c.args.close (c.args.elements ++ more) c.loop-next.elements c.in-Some.next.now rest c.requires
    (λ s r v h d e'. at_none c.in_ok-element.field-0 (λ p. (p.0 ≡ v) × (p.1.now ≡ r)) (c.in_ok-element.ensures.exact s r v h d e') c.in_default-2.is) n

pub loop-next-preserved : goal.loop-next-preserved
loop-next-preserved g c =
    let comma = c.in-Some.ensures.found in
    let read = if_some c.in_ok-element.field-0 (c.in-Some-2.element, c.in-Some-2.behind) (λ p. (s : _) × g.T.Written.is_text s p.0 × (c.in-Some.next.now ≡ s ++ p.1.now)) c.in_ok-element.ensures.found c.in-Some-2.is in
    rw c.in_ok-push.ensures.ok (record {
      read = completes_more g.T.Written.is_text c.args.close c.args.elements c.loop-next.elements c.in-Some-2.element c.args.text.now c.loop-next.rest.now comma.0 comma.1 c.in-Some.next.now read.0 c.in-Some-2.behind.now
          c.loop-next.invariant.read comma.2 comma.3 comma.4 read.1 read.2;
      on = λ spelled after more is e.
          left_more g.T.Written.is_text c.args.close (c.args.elements ++ more) c.loop-next.elements c.in-Some-2.element c.in-Some.next.now c.in-Some-2.behind.now after c.requires
          (λ s r v h d e'. at_some c.in_ok-element.field-0 (c.in-Some-2.element, c.in-Some-2.behind) (λ p. (p.0 ≡ v) × (p.1.now ≡ r)) (c.in_ok-element.ensures.exact s r v h d e') c.in-Some-2.is)
          (next_of g.T.Written.is_text c.args.close (c.args.elements ++ more) c.loop-next.elements c.loop-next.rest.now c.in-Some.next.now after comma.0 comma.1 c.requires g.met.T.Written.begins comma.2 comma.4
          (λ b a r hb ha hr e'. c.in-Some.ensures.exact b a r hb ha hr e') (c.loop-next.invariant.on spelled after more is e));
    })

pub returns-in-Some-closed_at-clause-found : goal.returns-in-Some-closed_at-clause-found
returns-in-Some-closed_at-clause-found g c =
    let closed = c.in-Some-closed_at.ensures.found in
    let end = end_close g.T.Written.is_text c.args.close c.loop-next.rest.now c.in-Some-closed_at.behind.now closed.0 closed.1 closed.2 in
    let whole = c.loop-next.invariant.read [] end.0 c.in-Some-closed_at.behind.now end.1 end.2 in
    (whole.0, whole.1, whole.2, sym (append-nil c.loop-next.elements) ∙ whole.3, whole.4)

pub returns-in-Some-closed_at-clause-exact : goal.returns-in-Some-closed_at-clause-exact
returns-in-Some-closed_at-clause-exact g c = λ spelled rest more is e.
    let ends = ends_of g.T.Written.is_text c.args.close (c.args.elements ++ more) c.loop-next.elements c.loop-next.rest.now rest g.met.T.Written.begins (λ b a r hb ha hr e'. c.in_default.ensures.exact b a r hb ha hr e')
    (c.loop-next.invariant.on spelled rest more is e) in
    (ends.all, c.in-Some-closed_at.ensures.exact ends.blanks rest ends.are ends.left)

pub returns-clause-exact : goal.returns-clause-exact
returns-clause-exact g c = λ spelled rest more is e.
    let ends = ends_of g.T.Written.is_text c.args.close (c.args.elements ++ more) c.loop-next.elements c.loop-next.rest.now rest g.met.T.Written.begins (λ b a r hb ha hr e'. c.in_default.ensures.exact b a r hb ha hr e')
    (c.loop-next.invariant.on spelled rest more is e) in
    c.in-None.ensures.exact ends.blanks rest ends.are ends.left
