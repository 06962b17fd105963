use Rattle.std.proofs.Common.{ℕ}
use Rattle.rdb_cells.specs.Memory.{memory_image, memory_class}
use Rattle.rdb_writes.specs.Grounds.{IsWork}
use Rattle.rdb_writes.proofs.TestLemmas.{EachBelow}
use Rattle.rdb_writes.proofs.tests.are_works.Given as goal

abbrev pub invariant-loop-slot : goal.invariant-loop-slot
invariant-loop-slot g l =
    EachBelow l.registry.seats (λ seat. IsWork (record { image = memory_image l.cells; class_of = memory_class l.cells; seats = l.registry.seats }) seat) l.slot
