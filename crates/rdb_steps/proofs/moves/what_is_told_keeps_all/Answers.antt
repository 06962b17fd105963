use Rattle.rdb_steps.proofs.AlikeLemmas.{told_kept}
use Rattle.rdb_steps.proofs.moves.what_is_told_keeps_all.Goals as goal

pub returns : goal.returns
returns call = told_kept
