use Rattle.rdb_steps.proofs.BeginLemmas.{begins_kept}
use Rattle.rdb_steps.proofs.moves.a_transaction_that_begins_keeps_all.Goals as goal

pub returns : goal.returns
returns call = begins_kept
