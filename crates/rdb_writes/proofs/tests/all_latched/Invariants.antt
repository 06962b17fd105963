use Rattle.std.proofs.Common.{◌≡◌, ℕ, take, true, Some}
use Rattle.std.specs.Int.{bit_at}
use Rattle.rdb_cells.specs.Memory.{memory_class}
use Rattle.rdb_cells.specs.Records.{names}
use Rattle.rdb_writes.proofs.tests.all_latched.Given as goal

abbrev pub invariant-loop-pair : goal.invariant-loop-pair
invariant-loop-pair g l = (n : ℕ) → names (take l.pair-index l.pairs) n ≡ true →
    (class : ℕ) × (memory_class l.cells n ≡ Some class) × (bit_at l.latches class ≡ 1)
