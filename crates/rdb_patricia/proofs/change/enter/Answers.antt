use Rattle.std.proofs.Common.{arith}
use Rattle.rdb_cells.specs.Work.{work}
use Rattle.rdb_cells.proofs.IndexLemmas.{fewer_than}
use Rattle.rdb_cells.proofs.WorkLemmas.{one_left}
use Rattle.rdb_patricia.proofs.change.enter.Goals as goal

pub take-place-requires : goal.take-place-requires
take-place-requires g c = one_left (work g.C.Cells c.args.cells.now) (fewer_than (work g.C.Cells c.args.cells.now) 1 2 (omega arith) c.requires.free)
