use Rattle.std.proofs.Common.{◌≡◌}
use Rattle.rdb_cells.specs.Memory.{memory_image}
use Rattle.rdb_cells.specs.Records.{planned}
use Rattle.rdb_objects.specs.Slots.{HoldsSome}
use Rattle.rdb_objects.proofs.tests.churn.Given as goal

abbrev pub invariant-adding : goal.invariant-adding
invariant-adding g l = (l.cells.class ≡ 0) × HoldsSome (planned l.cells.plan.pairs (memory_image l.cells.cells)) 0

abbrev pub invariant-removing : goal.invariant-removing
invariant-removing g l = (l.cells.class ≡ 0) × HoldsSome (planned l.cells.plan.pairs (memory_image l.cells.cells)) 0
