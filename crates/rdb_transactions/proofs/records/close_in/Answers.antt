use Rattle.rdb_registry.specs.declared.seat.Seat.{Seat}
use Rattle.rdb_registry.specs.Seats.{with_latches, without_transaction}
use Rattle.rdb_transactions.specs.Hands.{at_rest}
use Rattle.rdb_transactions.specs.Records.{on_hand}
use Rattle.rdb_transactions.proofs.EditLemmas.{then_edited}
use Rattle.rdb_transactions.proofs.records.close_in.Goals as goal

pub returns : goal.returns
returns c =
    let roll = c.args.registry.now in
    let slot = c.args.c.slot in
    then_edited roll c.release_latches.new.self c.lay_down.new.registry slot (λ (s : Seat). with_latches 0 (without_transaction s)) (on_hand at_rest)
    (then_edited roll c.end.new.self c.release_latches.new.self slot without_transaction (with_latches 0) c.end.ensures c.release_latches.ensures)
    c.lay_down.ensures
