-- It breaks no part.
use Rattle.rdb_model.proofs.KeptLaw.{handled_keeps, closed_keeps}
use Rattle.rdb_model.proofs.laws.leave_keeps_law.Goals as goal

pub returns : goal.returns
returns c = record { handled = handled_keeps; closed = closed_keeps }
