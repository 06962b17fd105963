use Rattle.std.proofs.Common.{◌-◌}
use Rattle.rdb_cells.proofs.FreeLemmas.{HasPassed}
use Rattle.rdb_cells.proofs.free.lowest_below.Given as goal

abbrev pub invariant-loop-next : goal.invariant-loop-next
invariant-loop-next g l = HasPassed (g.L.Layer.image l.layer) (g.C.Cells.image l.below) (g.L.Layer.class_of l.layer) (g.C.Cells.class_of l.below) l.class l.fn.above.number l.last.number

abbrev pub decreases-loop-next : goal.decreases-loop-next
decreases-loop-next g l = 4294967296 - l.last.number
