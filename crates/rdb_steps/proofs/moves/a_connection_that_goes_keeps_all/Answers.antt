use Rattle.rdb_steps.proofs.IdleLemmas.{goes_kept}
use Rattle.rdb_steps.proofs.moves.a_connection_that_goes_keeps_all.Goals as goal

pub returns : goal.returns
returns call = goes_kept
