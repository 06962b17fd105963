-- Versions in cells: a header, and the row that it leads to.
use Rattle.std.specs.Prelude.{◌≡◌, ◌<◌, ◌≤◌, ◌^◌, ℕ, List, [], ◌∷◌, length, Option, Some, None, Bool, true, false}
use Rattle.rdb_base.specs.declared.identity.Stamp.{Stamp}
use Rattle.rdb_base.specs.declared.limits.TheConstants.{MAX_ROW}
use Rattle.rdb_pages.specs.declared.cell.CellRef.{CellRef}
use Rattle.rdb_cells.specs.declared.formats.version.VersionHeader.{VersionHeader}
use Rattle.rdb_cells.specs.Images.{Image}
use Rattle.rdb_cells.specs.VersionFormat.{header_cell}
use Rattle.rdb_rows.specs.declared.label.Label.{Label}
use Rattle.rdb_rows.specs.Rows.{HoldsRow}

-- the class fits 8 bits, and the reference of the older version 24
abbrev pub IsLabel : Label → Type 0
IsLabel label = (label.class < 256) × (label.older.number < 2 ^ 24)

-- a version: its label, and its row's bytes, or none for a tombstone
pub record Version : Type 0 where
  pub label : Label
  pub row : Option (List ℕ)

abbrev pub is_tombstone : Option (List ℕ) → Bool
is_tombstone None = true
is_tombstone (Some bytes) = false

-- the bytes that a version has, none for a tombstone
abbrev pub bytes_in : Option (List ℕ) → List ℕ
bytes_in None = []
bytes_in (Some bytes) = bytes

-- the header of a version whose row begins in a cell
abbrev pub header_of : Version → CellRef → VersionHeader
header_of v first = record {
  older = v.label.older;
  class = v.label.class;
  tombstone = is_tombstone v.row;
  id = v.label.id;
  first_row = first;
  row_length = length (bytes_in v.row);
  stamp = v.label.stamp;
  serial = v.label.serial;
}

-- the version stands in these cells: its header, and then those of its row
pub record HoldsVersion (image : Image) (at : ℕ) (v : Version) (cells : List ℕ) : Type 0 where
  pub first : CellRef
  pub row_cells : List ℕ
  pub labelled : IsLabel v.label
  pub short : length (bytes_in v.row) ≤ MAX_ROW
  pub header : image at ≡ Some (header_cell (header_of v first))
  pub row : HoldsRow image first.number (bytes_in v.row) row_cells
  pub cells_are : cells ≡ at ∷ row_cells

-- some version stands there
pub record HasVersion (image : Image) (at : ℕ) : Type 0 where
  pub version : Version
  pub cells : List ℕ
  pub holds : HoldsVersion image at version cells

-- whatever version stands there, in whichever cells, this holds
abbrev pub ForVersion : Image → ℕ → (Version → List ℕ → Type 0) → Type 0
ForVersion image at Holds = (v : Version) (cells : List ℕ) → HoldsVersion image at v cells → Holds v cells

-- the version with another stamp, and with another older version
abbrev pub stamped : Version → Stamp → Version
stamped v stamp = record v { label = record v.label { stamp = stamp } }

abbrev pub over_older : Version → CellRef → Version
over_older v older = record v { label = record v.label { older = older } }
