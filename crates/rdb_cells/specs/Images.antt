-- The image of a region: what each cell holds, by the number of its reference.
use Rattle.std.specs.Prelude.{◌≡◌, ◌≢◌, ◌<◌, ℕ, Option, Some, IsSome}
use Rattle.rdb_pages.specs.declared.cell.Cell.{Cell}
use Rattle.rdb_pages.specs.Pages.{zero_cell}
use Rattle.rdb_cells.specs.References.{IsPageCell, IsHead, IsReference, class_of_head}

-- what the cells hold: none where no cell has the number
abbrev pub Image : Type 0
Image = ℕ → Option Cell

-- the number is that of a cell
abbrev pub IsCell : Image → ℕ → Type 0
IsCell image n = IsSome (image n)

-- two images hold the same
abbrev pub SameImage : Image → Image → Type 0
SameImage a b = (n : ℕ) → a n ≡ b n

-- one cell was written, and no other
pub record Writes (before after : Image) (n : ℕ) (cell : Cell) : Type 0 where
  pub here : after n ≡ Some cell
  pub elsewhere : (other : ℕ) → other ≢ n → after other ≡ before other

-- every cell has the number of a page cell or a head, and belongs to a class, a head to that of its block; nothing else does
pub record AreBounded (image : Image) (class_of : ℕ → Option ℕ) : Type 0 where
  pub numbers : (n : ℕ) → IsCell image n → IsReference n
  pub owned : (n : ℕ) → IsCell image n → IsSome (class_of n)
  pub heads : (n : ℕ) → IsCell image n → IsHead n → class_of n ≡ Some (class_of_head n)
  pub cells : (n : ℕ) → IsSome (class_of n) → IsCell image n

-- a cell of the class's pages is all zero; a head is never free
pub record IsFree (image : Image) (class_of : ℕ → Option ℕ) (of n : ℕ) : Type 0 where
  pub zero : image n ≡ Some zero_cell
  pub class : class_of n ≡ Some of
  pub page : IsPageCell n

-- the lowest free cell of the class above a number
pub record IsNextFree (image : Image) (class_of : ℕ → Option ℕ) (of start n : ℕ) : Type 0 where
  pub above : start < n
  pub free : IsFree image class_of of n
  pub lowest : (lower : ℕ) → start < lower → lower < n → ¬ IsFree image class_of of lower
