-- It breaks no part.
use Rattle.rdb_model.proofs.KeptLaw.{read_keeps, reads_anew}
use Rattle.rdb_model.proofs.laws.placed_read_keeps_law.Goals as goal

pub returns : goal.returns
returns c = record { law = read_keeps; anew = reads_anew }
