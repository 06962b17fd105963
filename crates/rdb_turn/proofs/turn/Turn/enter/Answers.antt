use Rattle.std.proofs.Common.{◌∙◌, ap}
use Rattle.rdb_turn.specs.declared.view.Stand.TheVariants.{Waits}
use Rattle.rdb_turn.specs.Steps.{Mine}
use Rattle.rdb_turn.proofs.Passing.{welcomed}
use Rattle.rdb_turn.proofs.turn.Turn.enter.Goals as goal

pub returns-clause-gone : goal.returns-clause-gone
returns-clause-gone g c =
    let drawn = c.get_ticket-ticket.ensures.drawn in
    let entered = c.wait_for.ensures.enters.2 in
    (welcomed g.T.Chronicle c.args.pass.now.place.me.0 (Waits drawn.0) c.get_ticket-ticket.new.place.me c.wait_for.new.place.me entered.0 c.take-value.result _ drawn.2 entered.2 (ap (λ (m : Mine g.row.T.Denot). m.1) entered.1) c.take-value.ensures.taken.0).0

pub returns-clause-alive : goal.returns-clause-alive
returns-clause-alive g c =
    let drawn = c.get_ticket-ticket.ensures.drawn in
    let entered = c.wait_for.ensures.enters.2 in
    λ boarded. (welcomed g.T.Chronicle c.args.pass.now.place.me.0 (Waits drawn.0) c.get_ticket-ticket.new.place.me c.wait_for.new.place.me entered.0 c.take-value.result _ drawn.2 entered.2 (ap (λ (m : Mine g.row.T.Denot). m.1) entered.1) c.take-value.ensures.taken.0).1
    (c.requires.pass.boarded ∙ boarded)
