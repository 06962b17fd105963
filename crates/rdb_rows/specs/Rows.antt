-- A row's bytes in cells: 60 bytes in each, the last cell filled with zeros, each cell leading to the next.
use Rattle.std.specs.Prelude.{◌≡◌, ◌<◌, ◌+◌, ◌/◌, ◌^◌, ℕ, zero, suc, List, [], ◌∷◌, length, take, drop, slice_index}
use Rattle.rdb_pages.specs.declared.cell.Cell.{Cell}
use Rattle.rdb_pages.specs.declared.cell.CellRef.{CellRef}
use Rattle.rdb_cells.specs.Images.{Image}
use Rattle.rdb_cells.specs.Links.{Placed, elements, segment, numbers, IsChain}
use Rattle.rdb_cells.specs.RowFormat.{row_cell_bytes, filled_up, row_cell}

-- each of them is a byte
abbrev pub AreBytes : List ℕ → Type 0
AreBytes bytes = (place : ℕ) → slice_index bytes place < 256

-- how many cells so many bytes take
abbrev pub cells_for : ℕ → ℕ
cells_for many = (many + 59) / 60

-- bytes in so many parts of a whole cell each, filled up with zeros
abbrev pub parts : List ℕ → ℕ → List (List ℕ)
parts bytes zero = []
parts bytes (suc n) = filled_up (take row_cell_bytes bytes) ∷ parts (drop row_cell_bytes bytes) n

-- the parts of a row
abbrev pub row_parts : List ℕ → List (List ℕ)
row_parts bytes = parts bytes (cells_for (length bytes))

-- the cell has this part of a row, and leads to the next one
pub record IsPart (cell : Cell) (part : List ℕ) (links : List ℕ) : Type 0 where
  pub next : CellRef
  pub near : next.number < 2 ^ 24
  pub count : length part ≡ row_cell_bytes
  pub bytes : AreBytes part
  pub written : cell ≡ row_cell (record { next = next; bytes = part })
  pub leads : links ≡ next.number ∷ []

-- from this number on the row's bytes stand in these cells
pub record HoldsRow (image : Image) (first : ℕ) (bytes : List ℕ) (cells : List ℕ) : Type 0 where
  pub chain : List (Placed (List ℕ))
  pub chained : IsChain IsPart image first chain
  pub parts_are : elements chain ≡ row_parts bytes
  pub cells_are : cells ≡ numbers (segment chain 0)

-- a row of so many bytes stands from this number on
pub record HasRow (image : Image) (first many : ℕ) : Type 0 where
  pub bytes : List ℕ
  pub cells : List ℕ
  pub long : length bytes ≡ many
  pub holds : HoldsRow image first bytes cells

-- whatever row of so many bytes stands there, in whichever cells, this holds
abbrev pub ForRow : Image → ℕ → ℕ → (List ℕ → List ℕ → Type 0) → Type 0
ForRow image first many Holds = (bytes cells : List ℕ) → length bytes ≡ many → HoldsRow image first bytes cells → Holds bytes cells
