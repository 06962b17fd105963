-- Sets of classes: a bit for each modulo 64.
use Rattle.std.specs.Prelude.{◌≡◌, ℕ, ◌%◌, List, slice_get, Some}
use Rattle.std.specs.Int.{bit_at}
use Rattle.rdb_base.specs.Operations.{class_of}
use Rattle.rdb_base.specs.declared.operation.Op.{Op}
use Rattle.rdb_base.specs.declared.operation.Reply.{Reply}

-- that a set has a class
abbrev pub HasClass : ℕ → ℕ → Type 0
HasClass classes class = bit_at classes (class % 64) ≡ 1

-- that a set has the class of each operation
abbrev pub LooksAt : ℕ → List (Op × Reply) → Type 0
LooksAt classes done = (k : ℕ) (d : Op × Reply) → slice_get done k ≡ Some d → HasClass classes (class_of d.0)
