-- What a look-up by a key gives.
use Rattle.std.specs.Prelude.{ℕ, List, Bool, false, None, map, filter, IsPermutation}
use Rattle.std.specs.List.Sorted.{IsStrictlyIncreasing}
use Rattle.std.specs.Option.{option_map_or}
use Rattle.std.specs.Ordering.{is_eq}
use Rattle.rdb_base.specs.declared.value.Value.{Value}
use Rattle.rdb_pages.specs.declared.cell.CellRef.{CellRef}
use Rattle.rdb_cells.specs.Images.{Image}
use Rattle.rdb_cells.specs.Index.{Nature, Lists, WhateverListed}
use Rattle.rdb_cells.specs.Keys.{Meaning, key_order}

-- the index stands by these keys
abbrev pub StandsBy : Nature → Meaning → Image → Type 0
StandsBy index keys image = (listed : List CellRef) × (nodes : List ℕ) × Lists index keys image listed nodes

-- a version with a key that is level with this one stands there
abbrev pub has_key : Meaning → Image → List Value → CellRef → Bool
has_key keys image key at = option_map_or (λ v. is_eq (key_order v key None)) (keys.version_of image at.number) false

-- these are the versions with the key among those that are listed, each once, by reference
pub record AreWithKey (keys : Meaning) (image : Image) (key : List Value) (listed found : List CellRef) : Type 0 where
  pub these : IsPermutation (filter (has_key keys image key) listed) found
  pub by_reference : IsStrictlyIncreasing (map (λ r. r.number) found)

-- whatever the index lists by its keys, these are those with the key
abbrev pub IsFound : Nature → Meaning → Image → List Value → List CellRef → Type 0
IsFound index keys image key found = WhateverListed index keys image (λ listed nodes. AreWithKey keys image key listed found)
