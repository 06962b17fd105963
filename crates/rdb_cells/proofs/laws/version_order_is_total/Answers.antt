use Rattle.rdb_cells.proofs.VersionOrder.{version_order_total, version_level}
use Rattle.rdb_cells.proofs.laws.version_order_is_total.Goals as goal

pub returns-clause-total : goal.returns-clause-total
returns-clause-total c = version_order_total

pub returns-clause-same : goal.returns-clause-same
returns-clause-same c = version_level
