use Rattle.rdb_transactions.proofs.EditLemmas.{hand_same}
use Rattle.rdb_transactions.proofs.SoundLemmas.{on_err_map}
use Rattle.rdb_transactions.proofs.records.push_watch.Goals as goal

pub returns-clause-err : goal.returns-clause-err
returns-clause-err c =
    on_err_map c.push_to.result (λ same. hand_same c.args.registry.now c.args.c c.seat_mut.result.now c.push_to.new.hand c.requires c.seat_mut.ensures.value same) c.push_to.ensures.err
