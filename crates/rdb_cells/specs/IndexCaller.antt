-- Two indexes of one class beside each other.
use Rattle.std.specs.Prelude.{ℕ, List, ◌∷◌, IsPermutation}
use Rattle.rdb_pages.specs.declared.cell.CellRef.{CellRef}
use Rattle.rdb_cells.specs.Images.{Image}
use Rattle.rdb_cells.specs.Index.{Nature, Lists, TakesKeyOf}
use Rattle.rdb_cells.specs.Keys.{Meaning, says, IsUnlisted}
use Rattle.rdb_cells.specs.Links.{AreDisjoint}

-- an index with its keys
pub record Keyed : Type 1 where
  pub index : Nature
  pub keys : Meaning

abbrev pub keyed : Nature → Meaning → Keyed
keyed index keys = record { index = index; keys = keys }

-- what each of two indexes lists, and in which nodes
pub record Listed : Type 0 where
  pub first : List CellRef
  pub first_nodes : List ℕ
  pub second : List CellRef
  pub second_nodes : List ℕ

-- in the image the two list these versions in these nodes, and have no cell in common
pub record StandApart (first second : Keyed) (image : Image) (listed : Listed) : Type 0 where
  pub first_lists : Lists first.index first.keys image listed.first listed.first_nodes
  pub second_lists : Lists second.index second.keys image listed.second listed.second_nodes
  pub apart : AreDisjoint (first.index.head ∷ listed.first_nodes) (second.index.head ∷ listed.second_nodes)

-- the two stand apart, and neither lists the version, which has a key for each that it takes
pub record NeitherLists (first second : Keyed) (image : Image) (version : CellRef) (listed : Listed) : Type 0 where
  pub stand : StandApart first second image listed
  pub first_lacks : IsUnlisted (says first.keys image) listed.first version
  pub second_lacks : IsUnlisted (says second.keys image) listed.second version
  pub first_takes : TakesKeyOf first.index (says first.keys image) version
  pub second_takes : TakesKeyOf second.index (says second.keys image) version

-- the two stand apart, the first lists what it listed before, and the second the version besides
pub record CameToSecond (first second : Keyed) (image : Image) (version : CellRef) (listed : Listed) : Type 0 where
  pub now : Listed
  pub stand : StandApart first second image now
  pub first_stays : IsPermutation (version ∷ now.first) (version ∷ listed.first)
  pub second_more : IsPermutation now.second (version ∷ listed.second)

-- whatever two indexes listed that both lacked the version, it came to the second
abbrev pub BringsToSecond : Keyed → Keyed → Image → Image → CellRef → Type 0
BringsToSecond first second before after version = (listed : Listed) →
    NeitherLists first second before version listed → CameToSecond first second after version listed
