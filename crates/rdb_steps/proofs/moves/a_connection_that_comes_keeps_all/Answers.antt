use Rattle.rdb_steps.proofs.IdleLemmas.{comes_kept}
use Rattle.rdb_steps.proofs.moves.a_connection_that_comes_keeps_all.Goals as goal

pub returns : goal.returns
returns call = comes_kept
