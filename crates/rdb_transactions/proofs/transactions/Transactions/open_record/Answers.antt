use Rattle.std.proofs.Common.{◌≡◌, length, refl}
use Rattle.rdb_model.specs.Journal.{commits}
use Rattle.rdb_registry.specs.declared.seat.Seat.{Seat}
use Rattle.rdb_transactions.specs.Records.{spare_left, opened}
use Rattle.rdb_transactions.specs.Moves.{opens}
use Rattle.rdb_transactions.proofs.EditLemmas.{seat_edited, has_seat}
use Rattle.rdb_transactions.proofs.OpeningLemmas.{opens_two, opens_three}
use Rattle.rdb_transactions.proofs.PhaseLemmas.{latched_conn}
use Rattle.rdb_transactions.proofs.SoundLemmas.{nothing_more}
use Rattle.rdb_transactions.proofs.transactions.Transactions.open_record.Goals as goal

pub returns-clause-moves : goal.returns-clause-moves
returns-clause-moves c =
    let before = c.args.self.now in
    record {
      manager = refl;
      registry =
          opens_two before.registry c.begin.new.self c.enter_phase.new.registry c.take_latches.new.registry c.exchange_for_writer.new.registry c.args.c.slot before.manager before.spare_undo c.args.kind
          c.len-begun.result c.commits-snapshot.result (length before.journal.entries) (commits before.journal.entries) c.len-begun.ensures c.commits-snapshot.ensures
          c.begin.ensures c.enter_phase.ensures c.take_latches.ensures c.exchange_for_writer.ensures.registry;
      entries = nothing_more before.journal.entries;
    }

pub returns-clause-spare : goal.returns-clause-spare
returns-clause-spare c seat at =
    let before = c.args.self.now in
    let three =
    opens_three before.registry c.begin.new.self c.enter_phase.new.registry c.take_latches.new.registry c.args.c.slot before.manager c.args.kind
    c.len-begun.result c.commits-snapshot.result (length before.journal.entries) (commits before.journal.entries) c.len-begun.ensures c.commits-snapshot.ensures
    c.begin.ensures c.enter_phase.ensures c.take_latches.ensures in
    let own = seat_edited before.registry c.take_latches.new.registry c.args.c (opens before c.args.kind) seat
    (λ s. latched_conn before.manager before.registry.classes (opened c.args.kind (length before.journal.entries) (commits before.journal.entries) s)) three at in
    has_seat c.take_latches.new.registry.seats c.args.c (λ (s : Seat). c.exchange_for_writer.new.spare ≡ spare_left before.manager before.spare_undo s)
    (opens before c.args.kind seat) c.exchange_for_writer.ensures.spare own
