use Rattle.rdb_cells.proofs.SettledLemmas.{settled_write}
use Rattle.rdb_cells.proofs.laws.unlogged_write_settles.Goals as goal

pub returns : goal.returns
returns c = settled_write
