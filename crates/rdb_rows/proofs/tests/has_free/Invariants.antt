use Rattle.rdb_cells.specs.Memory.{memory_image, memory_class}
use Rattle.rdb_rows.proofs.Rooms.{IsCounted}
use Rattle.rdb_rows.proofs.tests.has_free.Given as goal

abbrev pub invariant-loop : goal.invariant-loop
invariant-loop g l = IsCounted (memory_image l.cells) (memory_class l.cells) l.class l.last.number l.counter
