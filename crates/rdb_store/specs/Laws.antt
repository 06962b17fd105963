-- The laws of what a class's cells hold.
use Rattle.std.specs.Prelude.{◌≡◌, ◌≢◌, ◌<◌, ◌⊎◌, ◌++◌, ℕ, List, [], ◌∷◌, Option, Some}
use Rattle.rdb_base.specs.declared.identity.Stamp.{Stamp}
use Rattle.rdb_pages.specs.Pages.{zero_cell}
use Rattle.rdb_cells.specs.HeadFormat.{class_head_cell, empty_class_head, index_head_cell, empty_index_head}
use Rattle.rdb_cells.specs.Images.{Image}
use Rattle.rdb_cells.specs.References.{IsPageCell, class_head_ref}
use Rattle.rdb_rows.specs.Versions.{HoldsVersion, ForVersion, stamped}
use Rattle.rdb_sight.specs.Versions.{Version, Object, chain_of}
use Rattle.rdb_store.specs.Chains.{with_stamp}
use Rattle.rdb_store.specs.Holds.{Holds}
use Rattle.rdb_store.specs.Classes.{ClassNature, IsHeadOf, head_at}

-- each cell of the class is one still, and holds what it held
abbrev pub StandsStill : ℕ → Image → Image → (ℕ → Option ℕ) → (ℕ → Option ℕ) → Type 0
StandsStill class before after class_before class_after =
    (n : ℕ) → class_before n ≡ Some class → (class_after n ≡ Some class) × (after n ≡ before n)

-- the class has the same cells, and they hold the same
pub record SameCells (class : ℕ) (before after : Image) (class_before class_after : ℕ → Option ℕ) : Type 0 where
  pub still : StandsStill class before after class_before class_after
  pub none_come : (n : ℕ) → class_after n ≡ Some class → class_before n ≡ Some class

-- cells came to the class's, all zero
pub record Grants (class : ℕ) (before after : Image) (class_before class_after : ℕ → Option ℕ) : Type 0 where
  pub still : StandsStill class before after class_before class_after
  pub come : (n : ℕ) → class_after n ≡ Some class → (class_before n ≡ Some class) ⊎ (after n ≡ Some zero_cell)

-- what a class holds rests on its own cells alone
abbrev pub RestsOnClass : ClassNature → Type 0
RestsOnClass class = (before after : Image) (class_before class_after : ℕ → Option ℕ) (objects : List Object) →
    SameCells class.number before after class_before class_after →
    Holds class before class_before objects → Holds class after class_after objects

-- zero cells more, as those of a granted page are, keep it
abbrev pub RestsOnGrants : ClassNature → Type 0
RestsOnGrants class = (before after : Image) (class_before class_after : ℕ → Option ℕ) (objects : List Object) →
    Grants class.number before after class_before class_after →
    Holds class before class_before objects → Holds class after class_after objects

-- the heads of the class and of its indexes are its own and lead to nothing, and it has no page
pub record IsEmptyClass (class : ClassNature) (image : Image) (class_of : ℕ → Option ℕ) : Type 0 where
  pub head : image (class_head_ref class.number).number ≡ Some (class_head_cell empty_class_head)
  pub indexes : (place : ℕ) → place < class.count → image (head_at class place) ≡ Some (index_head_cell empty_index_head)
  pub heads : (n : ℕ) → IsHeadOf class n → class_of n ≡ Some class.number
  pub no_page : (n : ℕ) → IsPageCell n → ¬ (class_of n ≡ Some class.number)

-- such a class holds nothing
abbrev pub StartsEmpty : ClassNature → Type 0
StartsEmpty class = (image : Image) (class_of : ℕ → Option ℕ) → IsEmptyClass class image class_of → Holds class image class_of []

-- the header of a version was written with another stamp, and no other cell was
pub record Stamps (before after : Image) (header : ℕ) (stamp : Stamp) : Type 0 where
  pub there : ForVersion before header (λ v cells. HoldsVersion after header (stamped v stamp) cells)
  pub elsewhere : (n : ℕ) → n ≢ header → after n ≡ before n

-- then the class holds the same with that stamp
abbrev pub RestsOnStamps : ClassNature → Type 0
RestsOnStamps class = (before after : Image) (class_of : ℕ → Option ℕ) (objects : List Object) (id : ℕ) (newer older : List Version)
    (v : Version) (stamp : Stamp) →
    Holds class before class_of objects → chain_of objects id ≡ newer ++ v ∷ older → Stamps before after v.header stamp →
    Holds class after class_of (with_stamp objects id newer v older stamp)

-- an image holds one list of objects at most
abbrev pub HoldsOne : ClassNature → Type 0
HoldsOne class = (image : Image) (class_of : ℕ → Option ℕ) (objects others : List Object) →
    Holds class image class_of objects → Holds class image class_of others → objects ≡ others
