use Rattle.rdb_cells.specs.Work.{work}
use Rattle.rdb_store.proofs.OwnPlans.{own_none}
use Rattle.rdb_store.proofs.unlisting.take_replaced.Goals as goal

pub returns-in-None-clause-own : goal.returns-in-None-clause-own
returns-in-None-clause-own g c = own_none (work g.C.Cells c.args.cells.now)
