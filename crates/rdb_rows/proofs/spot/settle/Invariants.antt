use Rattle.std.proofs.Common.{◌<◌, ℕ, List, length}
use Rattle.rdb_rows.specs.Spots.{Stand}
use Rattle.rdb_rows.proofs.spot.settle.Given as goal

abbrev pub invariant-loop-settled : goal.invariant-loop-settled
invariant-loop-settled g l = (bytes : List ℕ) → 0 < length bytes → Stand (g.C.Cells.image l.cells) l.fn.spot bytes → Stand (g.C.Cells.image l.cells) l.settled bytes

abbrev pub decreases-loop-settled : goal.decreases-loop-settled
decreases-loop-settled g l = l.settled.place
