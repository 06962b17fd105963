use Rattle.rdb_steps.proofs.IdleLemmas.{ends_kept}
use Rattle.rdb_steps.proofs.moves.a_transaction_that_ends_keeps_all.Goals as goal

pub returns : goal.returns
returns call = ends_kept
