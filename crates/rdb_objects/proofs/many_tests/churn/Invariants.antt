use Rattle.std.proofs.Common.{◌≡◌, []}
use Rattle.rdb_cells.specs.Memory.{memory_image}
use Rattle.rdb_objects.specs.Slots.{HoldsSome}
use Rattle.rdb_objects.proofs.many_tests.churn.Given as goal

abbrev pub invariant-adding : goal.invariant-adding
invariant-adding g l = HoldsSome (memory_image l.cells) 0 × (l.plan.pairs ≡ [])

abbrev pub invariant-removing : goal.invariant-removing
invariant-removing g l = HoldsSome (memory_image l.cells) 0 × (l.plan.pairs ≡ [])
