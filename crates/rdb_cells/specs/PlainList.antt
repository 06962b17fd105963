-- A plain list of versions in cells: the head leads to the first entry, and each entry to the next.
use Rattle.std.specs.Prelude.{◌≡◌, ℕ, List, [], ◌∷◌, ◌++◌, slice_get, Some, Contains}
use Rattle.rdb_pages.specs.declared.cell.Cell.{Cell}
use Rattle.rdb_pages.specs.declared.cell.CellRef.{CellRef}
use Rattle.rdb_cells.specs.declared.kind.Kind.TheVariants as kind
use Rattle.rdb_cells.specs.HeadFormat.{index_head_in}
use Rattle.rdb_cells.specs.Images.{Image}
use Rattle.rdb_cells.specs.Index.{Nature}
use Rattle.rdb_cells.specs.Keys.{Sayings, ListsVersions}
use Rattle.rdb_cells.specs.Links.{IsAmong, Placed, elements, segment, numbers, IsChain}
use Rattle.rdb_cells.specs.PatriciaFormat.{patricia_entry_in}
use Rattle.rdb_cells.specs.References.{IsPageCell}
use Rattle.rdb_cells.specs.Words.{IsOfKind}

-- the cell is the entry of a version, and leads to the next one
pub record IsEntry (cell : Cell) (version : CellRef) (links : List ℕ) : Type 0 where
  pub kind : IsOfKind cell kind.PatriciaEntry
  pub says : (patricia_entry_in cell).version ≡ version
  pub leads : links ≡ (patricia_entry_in cell).next.number ∷ []

-- the head of an index stands there, and its first root is this one
pub record LeadsTo (image : Image) (head : ℕ) (first : CellRef) : Type 0 where
  pub cell : Cell
  pub here : image head ≡ Some cell
  pub kind : IsOfKind cell kind.IndexHead
  pub leads : slice_get (index_head_in cell).roots 0 ≡ Some first

-- from this number on entries stand in page cells, one for each version
pub record AreEntries (image : Image) (first : ℕ) (chain : List (Placed CellRef)) : Type 0 where
  pub chained : IsChain IsEntry image first chain
  pub paged : (n : ℕ) → IsAmong (numbers (segment chain 0)) n → IsPageCell n

-- the head leads to entries of these versions, which stand in these cells, and the versions are listed as an index lists them
pub record IsPlainList (head : ℕ) (said : Sayings) (image : Image) (listed : List CellRef) (nodes : List ℕ) : Type 0 where
  pub first : CellRef
  pub chain : List (Placed CellRef)
  pub leads : LeadsTo image head first
  pub entries : AreEntries image first.number chain
  pub listed_is : listed ≡ elements chain
  pub nodes_are : nodes ≡ numbers (segment chain 0)
  pub versions : ListsVersions said listed

abbrev pub plain_nature : ℕ → ℕ → Nature
plain_nature class head = record { class = class; head = head; part = 1; Takes = λ key. Unit {0}; Stands = IsPlainList head }

-- the version has an entry in one of the cells from this number on
pub record HasEntry (image : Image) (first : ℕ) (version : CellRef) : Type 0 where
  pub chain : List (Placed CellRef)
  pub entries : AreEntries image first chain
  pub within : Contains (elements chain) version

-- the version's entry is the one in the cell
pub record IsEntryAt (image : Image) (first : ℕ) (version at : CellRef) : Type 0 where
  pub before : List (Placed CellRef)
  pub after : List (Placed CellRef)
  pub entries : AreEntries image first (before ++ record { number = at.number; element = version } ∷ after)
