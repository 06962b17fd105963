use Rattle.rdb_cells.proofs.SettledLemmas.{settled_by_one}
use Rattle.rdb_cells.proofs.laws.one_record_settles_its_cells.Goals as goal

pub returns : goal.returns
returns c = settled_by_one
