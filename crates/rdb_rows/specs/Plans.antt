-- What plans say of a version that is put, changed or given back.
use Rattle.std.specs.Prelude.{◌≡◌, ◌≢◌, ◌++◌, ℕ, List, [], ◌∷◌, length, Some}
use Rattle.rdb_pages.specs.Pages.{zero_cell}
use Rattle.rdb_cells.specs.declared.pairs.Pair.{Pair}
use Rattle.rdb_cells.specs.Links.{IsAmong}
use Rattle.rdb_cells.specs.Records.{content}
use Rattle.rdb_cells.specs.RowFormat.{row_cell}
use Rattle.rdb_cells.specs.Untaken.{IsNextUntaken}
use Rattle.rdb_cells.specs.VersionFormat.{header_cell}
use Rattle.rdb_cells.specs.Work.{Work, reading, IsLeft, TakesLowest}
use Rattle.rdb_rows.specs.Rows.{cells_for, row_parts}
use Rattle.rdb_pages.specs.declared.cell.CellRef.{CellRef}
use Rattle.rdb_rows.specs.Versions.{Version, bytes_in, header_of, HoldsVersion, ForVersion, over_older}

-- these are the lowest cells that the work can take, one after another
abbrev pub AreNextLeft : Work → List ℕ → Type 0
AreNextLeft w [] = Unit {0}
AreNextLeft w (n ∷ ns) = IsNextUntaken w.pairs w.below w.class_of w.class w.taken n × AreNextLeft (record w { taken = n }) ns

-- the first of them, and the end where there is none
abbrev pub first_or : ℕ → List ℕ → ℕ
first_or end [] = end
first_or end (n ∷ ns) = n

-- the last of them, behind another
abbrev pub last_number : ℕ → List ℕ → ℕ
last_number last [] = last
last_number last (n ∷ ns) = last_number n ns

-- what is planned for a part of a row that leads to a cell
abbrev pub part_pair : ℕ → List ℕ → ℕ → Pair
part_pair n part next = record { at = record { number = n }; cell = row_cell (record { next = record { number = next }; bytes = part }) }

-- what is planned for the parts of a row in these cells, the last of which leads to the end
abbrev pub part_pairs : ℕ → List ℕ → List (List ℕ) → List Pair
part_pairs end (n ∷ ns) (part ∷ parts) = part_pair n part (first_or end ns) ∷ part_pairs end ns parts
part_pairs end _ _ = []

-- what is planned for a version: the cells of its row, and then its header
abbrev pub version_pairs : ℕ → Version → List ℕ → List Pair
version_pairs at v row_cells =
    part_pairs 0 row_cells (row_parts (bytes_in v.row))
    ++ record { at = record { number = at }; cell = header_cell (header_of v (record { number = first_or 0 row_cells })) } ∷ []

-- a row was put: its cells are the lowest that were left, and the plan says what they hold, and nothing else
pub record PutsRow (before after : Work) (first : ℕ) (bytes : List ℕ) : Type 0 where
  pub row_cells : List ℕ
  pub count : length row_cells ≡ cells_for (length bytes)
  pub begins : first ≡ first_or 0 row_cells
  pub lowest : AreNextLeft before row_cells
  pub planned : after ≡ record before {
    pairs = before.pairs ++ part_pairs 0 row_cells (row_parts bytes);
    taken = last_number before.taken row_cells;
  }

-- A version was put: its header took the lowest cell that was left, its row the next ones. The plan says besides what these
-- hold, the row first; and so the version stands there.
pub record PutsVersion (before after : Work) (at : ℕ) (v : Version) : Type 0 where
  pub row_cells : List ℕ
  pub count : length row_cells ≡ cells_for (length (bytes_in v.row))
  pub lowest : AreNextLeft before (at ∷ row_cells)
  pub planned : after ≡ record before { pairs = before.pairs ++ version_pairs at v row_cells; taken = last_number at row_cells }
  pub takes : TakesLowest before after (at ∷ row_cells)
  pub left : (n : ℕ) → IsAmong (at ∷ row_cells) n → IsLeft before n
  pub elsewhere : (n : ℕ) → ¬ IsAmong (at ∷ row_cells) n → content after.pairs n ≡ content before.pairs n
  pub holds : HoldsVersion (reading after) at v (at ∷ row_cells)

-- these cells are zero now, and the plan says of every other cell what it said
pub record Clears (before after : Work) (cells : List ℕ) : Type 0 where
  pub zero : (n : ℕ) → IsAmong cells n → reading after n ≡ Some zero_cell
  pub elsewhere : (n : ℕ) → ¬ IsAmong cells n → content after.pairs n ≡ content before.pairs n

-- the version's cells were given back
abbrev pub GivesBack : Work → Work → ℕ → Type 0
GivesBack before after at = ForVersion (reading before) at (λ v cells. Clears before after cells)

-- the version has another older one now, and the plan says of every cell but its header what it said
pub record ChangesOlder (before after : Work) (at : ℕ) (older : CellRef) : Type 0 where
  pub version : ForVersion (reading before) at (λ v cells. HoldsVersion (reading after) at (over_older v older) cells)
  pub elsewhere : (n : ℕ) → n ≢ at → content after.pairs n ≡ content before.pairs n
