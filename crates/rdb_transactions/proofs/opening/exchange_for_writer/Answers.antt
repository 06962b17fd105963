use Rattle.std.proofs.Common.{sym, ◌∙◌, ◌≡◌}
use Rattle.rdb_registry.specs.declared.seat.Seat.{Seat}
use Rattle.rdb_transactions.specs.Records.{is_single_writer, exchanged}
use Rattle.rdb_transactions.proofs.EditLemmas.{of_held, unedited}
use Rattle.rdb_transactions.proofs.PhaseLemmas.{exchanged_not}
use Rattle.rdb_transactions.proofs.opening.exchange_for_writer.Goals as goal

pub returns-else-is_single_writers-clause-registry : goal.returns-else-is_single_writers-clause-registry
returns-else-is_single_writers-clause-registry c =
    let roll = c.args.registry.now in
    let there = of_held roll.seats c.args.c (λ (seat : Seat). c.is_single_writers.result ≡ is_single_writer c.args.manager seat) c.is_single_writers.ensures in
    unedited roll c.args.c there.0 (exchanged c.args.manager c.args.spare.now) there.1.0
    (exchanged_not c.args.manager c.args.spare.now there.0 (sym there.1.1 ∙ c.if-is_single_writers.false))
