-- An index that lists these versions, whatever its kind.
use Rattle.std.specs.Prelude.{◌≡◌, ℕ, List, [], ◌∷◌}
use Rattle.rdb_pages.specs.declared.cell.CellRef.{CellRef}
use Rattle.rdb_cells.specs.Images.{Image}
use Rattle.rdb_cells.specs.Index.{Nature, Lists, TakesKeyOf}
use Rattle.rdb_cells.specs.Keys.{Meaning, says, times_listed, ListsVersions}
use Rattle.rdb_cells.specs.Records.{Record}

-- each version stands in the two lists equally often
abbrev pub ListAlike : List CellRef → List CellRef → Type 0
ListAlike these listed = (r : CellRef) → times_listed listed r ≡ times_listed these r

-- by these keys the index lists these versions, in whichever order
pub record IsKept (index : Nature) (keys : Meaning) (image : Image) (these : List CellRef) : Type 0 where
  pub listed : List CellRef
  pub nodes : List ℕ
  pub lists : Lists index keys image listed nodes
  pub alike : ListAlike these listed

-- the index lists these versions, and can list another one besides
pub record Lacks (index : Nature) (keys : Meaning) (image : Image) (these : List CellRef) (version : CellRef) : Type 0 where
  pub kept : IsKept index keys image these
  pub versions : ListsVersions (says keys image) (version ∷ these)
  pub taken : TakesKeyOf index (says keys image) version

-- an empty plan with room for what a change of an index plans at most
abbrev pub empty_plan : Record
empty_plan = record { pairs = []; room = 50 }
