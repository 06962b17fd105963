use Rattle.rdb_cells.proofs.IndexLemmas.{fewer_than}
use Rattle.rdb_cells.proofs.laws.fewer_cells_are_left.Goals as goal

pub returns : goal.returns
returns c = fewer_than
