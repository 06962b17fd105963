use Rattle.std.proofs.Common.{◌≡◌, ℕ, length}
use Rattle.rdb_cells.specs.Images.{SameImage}
use Rattle.rdb_cells.specs.Overlays.{AreCells}
use Rattle.rdb_cells.specs.Records.{planned}
use Rattle.rdb_trials.proofs.write.write_out.Given as goal

abbrev pub invariant-loop-plan : goal.invariant-loop-plan
invariant-loop-plan g l =
    AreCells (g.C.Cells.image l.cells) l.plan.pairs
    × SameImage (planned l.plan.pairs (g.C.Cells.image l.cells)) (planned l.initial.plan.pairs (g.C.Cells.image l.initial.cells))
    × (l.plan.room ≡ l.initial.plan.room)
    × ((n : ℕ) → g.C.Cells.class_of l.cells n ≡ g.C.Cells.class_of l.initial.cells n)

abbrev pub decreases-loop-plan : goal.decreases-loop-plan
decreases-loop-plan g l = length l.plan.pairs
