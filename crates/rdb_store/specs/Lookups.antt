-- What the look-ups of a class's index give, whatever its kind.
use Rattle.std.specs.Prelude.{◌≡◌, ℕ, List, Option, Bool, filter, IsPermutation}
use Rattle.rdb_base.specs.declared.operation.Place.{Place}
use Rattle.rdb_base.specs.declared.value.Value.{Value}
use Rattle.rdb_pages.specs.declared.cell.CellRef.{CellRef}
use Rattle.rdb_cells.specs.Images.{Image}
use Rattle.rdb_cells.specs.Index.{Nature, Lists}
use Rattle.rdb_cells.specs.Keys.{Meaning, says}
use Rattle.rdb_hash.specs.Lookup.{has_key}
use Rattle.rdb_tree.specs.Lookups.{first_past}

-- the index stands by these keys
abbrev pub Stands : Nature → Meaning → Image → Type 0
Stands index keys image = (listed : List CellRef) × (nodes : List ℕ) × Lists index keys image listed nodes

-- whatever the index lists, these are the versions with the key, each once
abbrev pub AreWithKey : Nature → Meaning → Image → List Value → List CellRef → Type 0
AreWithKey index keys image key found = (listed : List CellRef) (nodes : List ℕ) → Lists index keys image listed nodes →
    IsPermutation found (filter (has_key keys image key) listed)

-- of the versions that the index lists, this is the first one past the place, in the order of the index
abbrev pub IsNext : Nature → Meaning → Image → Place → Bool → Option CellRef → Type 0
IsNext index keys image place up found = (listed : List CellRef) (nodes : List ℕ) → Lists index keys image listed nodes →
    found ≡ first_past (says keys image) place up listed
