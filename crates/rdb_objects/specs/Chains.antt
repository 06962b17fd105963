-- Walks through the chain of an object's versions.
use Rattle.std.specs.Prelude.{◌≡◌, ◌≢◌, ◌++◌, ℕ, List, ◌∷◌, Contains}
use Rattle.rdb_pages.specs.declared.cell.CellRef.{CellRef}
use Rattle.rdb_cells.specs.Images.{Image}
use Rattle.rdb_objects.specs.Objects.{newest_of}
use Rattle.rdb_objects.specs.Slots.{AreVersions}

-- the versions that stand from the newest on
pub record AreFrom (image : Image) (newest : CellRef) (id : ℕ) (versions : List CellRef) : Type 0 where
  pub stand : AreVersions image id versions
  pub begins : newest ≡ newest_of versions

-- from the newest on stand versions, of which another is one
pub record IsBehind (image : Image) (newest version : CellRef) : Type 0 where
  pub id : ℕ
  pub versions : List CellRef
  pub are : AreFrom image newest id versions
  pub within : Contains versions version
  pub older : newest ≢ version

-- whatever versions stand from the newest on, in them this one comes directly before the other
abbrev pub IsNewer : Image → CellRef → CellRef → CellRef → Type 0
IsNewer image newest version newer = (id : ℕ) (versions : List CellRef) → AreFrom image newest id versions →
    (front : List CellRef) × (back : List CellRef) × (versions ≡ front ++ newer ∷ version ∷ back)
