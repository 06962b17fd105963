use Rattle.std.proofs.Common.{ℕ, ◌<◌}
use Rattle.rdb_cells.specs.Images.{IsFree}
use Rattle.rdb_cells.specs.Memory.{memory_image, memory_class}
use Rattle.rdb_cells.proofs.doubles.memory.MemoryCellsCells.free_after.Given as goal

abbrev pub invariant-loop-number : goal.invariant-loop-number
invariant-loop-number l = (n : ℕ) → l.fn.at.number < n → n < l.number → ¬ IsFree (memory_image l.self) (memory_class l.self) l.class n
