use Rattle.std.proofs.Common.{refl}
use Rattle.rdb_transactions.specs.Records.{exchanged, closed}
use Rattle.rdb_transactions.proofs.EditLemmas.{then_edited}
use Rattle.rdb_transactions.proofs.SoundLemmas.{nothing_more}
use Rattle.rdb_transactions.proofs.transactions.Transactions.close_transaction.Goals as goal

pub returns-clause-moves : goal.returns-clause-moves
returns-clause-moves c =
    let before = c.args.self.now in
    record {
      manager = refl;
      registry = then_edited before.registry c.exchange_for_writer.new.registry c.close_in.new.registry c.args.c.slot (exchanged before.manager before.spare_undo) closed c.exchange_for_writer.ensures.registry c.close_in.ensures;
      entries = nothing_more before.journal.entries;
    }
