use Rattle.rdb_cells.proofs.MemoryLemmas.{memory_bounded}
use Rattle.rdb_cells.proofs.doubles.memory.MemoryCellsCells.bounded.Goals as goal

pub returns : goal.returns
returns c = rw (← c.self.view_is) (memory_bounded _ c.self.invariant)
