use Rattle.std.proofs.Common.{◌≡◌, refl, sym, ◌∙◌, subst, ap, Option}
use Rattle.std.specs.Option.{IsSome}
use Rattle.rdb_turn.proofs.Passing.{away_at, ends, ends_served, ends_sole}
use Rattle.rdb_turn.proofs.turn.Turn.close.Goals as goal
use Rattle.rdb_turn.proofs.turn.Turn.close.Goals.{Else-ticket-serving}

pub unwrap-requires : goal.unwrap-requires
unwrap-requires g c =
    let end = ends g.T.Chronicle _ _ _ _ _ _ _ _ _ _ c.close_with-closed.ensures.values.2 c.word-ticket.ensures c.word-serving.ensures c.if-ticket-serving.false c.take-value.ensures.value c.requires.seen_last in
    subst (λ (o : Option g.row.T.Denot). IsSome o) (sym end.1) refl

pub returns-clause-base : goal.returns-clause-base
returns-clause-base g c =
    let end = ends g.T.Chronicle _ _ _ _ _ _ _ _ _ _ c.close_with-closed.ensures.values.2 c.word-ticket.ensures c.word-serving.ensures c.if-ticket-serving.false c.take-value.ensures.value c.requires.seen_last in
    let same : c.unwrap.result ≡ end.0 = cc (end.1, c.unwrap.ensures) in
    ap g.T.Chronicle.base same ∙ end.2

pub returns-clause-later : goal.returns-clause-later
returns-clause-later g c =
    let end = ends g.T.Chronicle _ _ _ _ _ _ _ _ _ _ c.close_with-closed.ensures.values.2 c.word-ticket.ensures c.word-serving.ensures c.if-ticket-serving.false c.take-value.ensures.value c.requires.seen_last in
    let same : end.0 ≡ c.unwrap.result = cc (end.1, c.unwrap.ensures) in
    let h = end.3 in (h.0, h.1 ∙ ap g.T.Chronicle.history same)

pub returns-clause-served : goal.returns-clause-served
returns-clause-served g c = (ends_served g.T.Chronicle c.args.self c.args.pass _ _ _ _ _ _ c.close_with-closed.ensures.values.2 c.word-ticket.ensures c.word-serving.ensures c.if-ticket-serving.false c.take-value.ensures.value c.unwrap.ensures).0

pub returns-clause-away : goal.returns-clause-away
returns-clause-away g c = (ends_served g.T.Chronicle c.args.self c.args.pass _ _ _ _ _ _ c.close_with-closed.ensures.values.2 c.word-ticket.ensures c.word-serving.ensures c.if-ticket-serving.false c.take-value.ensures.value c.unwrap.ensures).1

pub returns-then-ticket-serving-clause-sole : goal.returns-then-ticket-serving-clause-sole
returns-then-ticket-serving-clause-sole g c = λ all away.
    absurd (ends_sole g.T.Chronicle c.args.self c.args.pass _ _ _ _ c.close_with-closed.ensures.values.2 c.word-ticket.ensures c.word-serving.ensures c.if-ticket-serving.true all (away_at _ _ _ c.requires.fits away).0)
