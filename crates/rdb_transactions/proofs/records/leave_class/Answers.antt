use Rattle.std.proofs.Common.{ap}
use Rattle.rdb_base.specs.declared.identity.Manager.{Manager}
use Rattle.rdb_registry.specs.Seats.{seat_of}
use Rattle.rdb_registry.proofs.SlotLemmas.{some_of}
use Rattle.rdb_transactions.specs.Records.{unlatched}
use Rattle.rdb_transactions.proofs.EditLemmas.{unedited}
use Rattle.rdb_transactions.proofs.records.leave_class.Goals as goal

pub returns-in-Mursiw : goal.returns-in-Mursiw
returns-in-Mursiw c =
    let roll = c.args.registry.now in
    let there = some_of (seat_of roll.seats c.args.c) c.requires in
    unedited roll c.args.c there.0 (unlatched c.args.manager) there.1 (ap (λ (m : Manager). unlatched m there.0) c.in-Mursiw.is)
