use Rattle.rdb_cells.proofs.VersionCellLemmas.{itself, turned, further, others_written}
use Rattle.rdb_cells.proofs.laws.version_cells_stay.Goals as goal

pub returns-clause-itself : goal.returns-clause-itself
returns-clause-itself c = itself

pub returns-clause-turned : goal.returns-clause-turned
returns-clause-turned c = turned

pub returns-clause-further : goal.returns-clause-further
returns-clause-further c = further

pub returns-clause-others : goal.returns-clause-others
returns-clause-others c = others_written
