-- It breaks no part.
use Rattle.rdb_model.proofs.KeptLaw.{abort_keeps}
use Rattle.rdb_model.proofs.laws.placed_abort_keeps_law.Goals as goal

pub returns : goal.returns
returns c = abort_keeps
