use Rattle.std.proofs.Common.{length}
use Rattle.rdb_cells.specs.Images.{SameImage}
use Rattle.rdb_cells.specs.Memory.{memory_image}
use Rattle.rdb_cells.specs.Overlays.{AreCells}
use Rattle.rdb_cells.specs.Records.{planned}
use Rattle.rdb_objects.proofs.many_tests.write_out.Given as goal

abbrev pub invariant-loop-plan : goal.invariant-loop-plan
invariant-loop-plan l =
    AreCells (memory_image l.cells) l.plan.pairs
    × SameImage (planned l.plan.pairs (memory_image l.cells)) (planned l.initial.plan.pairs (memory_image l.initial.cells))

abbrev pub decreases-loop-plan : goal.decreases-loop-plan
decreases-loop-plan l = length l.plan.pairs
