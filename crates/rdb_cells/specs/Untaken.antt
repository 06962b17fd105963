-- The free cells that a plan hasn't taken yet.
use Rattle.std.specs.Prelude.{◌≡◌, ◌<◌, ℕ, List, length, slice_get, Option, Some, false}
use Rattle.std.specs.Ordering.{nat_cmp}
use Rattle.std.specs.List.Sorted.{IsStrictlySortedBy}
use Rattle.rdb_cells.specs.Images.{Image, IsFree}
use Rattle.rdb_cells.specs.Records.{names}
use Rattle.rdb_cells.specs.declared.pairs.Pair.{Pair}

-- a free cell of the class above the last one that was taken, which the plan doesn't have
pub record IsUntaken (pairs : List Pair) (image : Image) (class_of : ℕ → Option ℕ) (of taken n : ℕ) : Type 0 where
  pub above : taken < n
  pub free : IsFree image class_of of n
  pub unplanned : names pairs n ≡ false

-- the lowest of these
pub record IsNextUntaken (pairs : List Pair) (image : Image) (class_of : ℕ → Option ℕ) (of taken n : ℕ) : Type 0 where
  pub untaken : IsUntaken pairs image class_of of taken n
  pub lowest : (lower : ℕ) → lower < n → ¬ IsUntaken pairs image class_of of taken lower

-- at least so many of these
pub record HasUntaken (pairs : List Pair) (image : Image) (class_of : ℕ → Option ℕ) (of taken many : ℕ) : Type 0 where
  pub cells : List ℕ
  pub count : length cells ≡ many
  pub ascending : IsStrictlySortedBy nat_cmp cells
  pub untaken : (i n : ℕ) → slice_get cells i ≡ Some n → IsUntaken pairs image class_of of taken n
