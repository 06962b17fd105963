use Rattle.std.proofs.Common.{◌≡◌, ℕ, take, true}
use Rattle.rdb_cells.specs.Images.{IsCell}
use Rattle.rdb_cells.specs.Memory.{memory_image}
use Rattle.rdb_cells.specs.Records.{names}
use Rattle.rdb_cells.proofs.tests.all_held.Given as goal

abbrev pub invariant-loop-pair : goal.invariant-loop-pair
invariant-loop-pair g l = (n : ℕ) → names (take l.pair-index l.pairs) n ≡ true → IsCell (memory_image l.cells) n
