-- What the cells of a class hold: its objects and their versions.
use Rattle.std.specs.Prelude.{◌≡◌, ◌≢◌, ◌<◌, ◌⊎◌, ◌↔◌, ℕ, List, Option, Some, Contains}
use Rattle.rdb_pages.specs.declared.cell.CellRef.{CellRef}
use Rattle.rdb_pages.specs.Pages.{zero_cell}
use Rattle.rdb_cells.specs.Images.{Image}
use Rattle.rdb_cells.specs.Index.{Nature, Lists}
use Rattle.rdb_cells.specs.Keys.{Meaning}
use Rattle.rdb_cells.specs.Links.{IsAmong, AreDisjoint}
use Rattle.rdb_cells.specs.References.{IsPageCell}
use Rattle.rdb_objects.specs.Slots.{HoldsObjects}
use Rattle.rdb_sight.specs.Versions.{Object, IsAscending, chain_of}
use Rattle.rdb_store.specs.Layouts.{Part, Slots, OfVersion, OfIndex, Layout, cells_in}
use Rattle.rdb_store.specs.Classes.{ClassNature, IsHeadOf}
use Rattle.rdb_store.specs.Stored.{all_linked, AreStored, HasHeader, HasRowAt, HaveOwnSerials}

-- the index has its class, in these nodes, and lists the versions that have a row, and no others; that it lists each once is its law
pub record Agrees (index : Nature) (keys : Meaning) (image : Image) (objects : List Object) (nodes : List ℕ) : Type 0 where
  pub listed : List CellRef
  pub lists : Lists index keys image listed nodes
  pub exactly : (r : CellRef) → Contains listed r ↔ HasRowAt objects r.number

-- each index of the class agrees with its objects
abbrev pub AllAgree : ClassNature → Image → List Object → Layout → Type 0
AllAgree class image objects layout = (place : ℕ) → place < class.count →
    Agrees (class.at place).index (class.at place).keys image objects (layout.of_index place)

-- the class has this part
abbrev pub IsPart : ClassNature → List Object → Part → Type 0
IsPart class objects Slots = Unit {0}
IsPart class objects (OfVersion header) = HasHeader objects header
IsPart class objects (OfIndex place) = place < class.count

-- the cell is one of a part of the class
pub record IsInPart (class : ClassNature) (objects : List Object) (layout : Layout) (n : ℕ) : Type 0 where
  pub part : Part
  pub is_part : IsPart class objects part
  pub within : IsAmong (cells_in layout part) n

-- The account of the class's cells: its heads are its own; no cell is one of two parts, each cell of a part stands in a page of the class,
-- and what stands in its pages beside them is all zero.
pub record IsAccount (class : ClassNature) (image : Image) (class_of : ℕ → Option ℕ) (objects : List Object)
    (layout : Layout) : Type 0 where
  pub heads : (n : ℕ) → IsHeadOf class n → class_of n ≡ Some class.number
  pub apart : (p q : Part) → IsPart class objects p → IsPart class objects q → p ≢ q → AreDisjoint (cells_in layout p) (cells_in layout q)
  pub paged : (n : ℕ) → IsInPart class objects layout n → IsPageCell n × (class_of n ≡ Some class.number)
  pub rest : (n : ℕ) → IsPageCell n → class_of n ≡ Some class.number → (image n ≡ Some zero_cell) ⊎ IsInPart class objects layout n

-- The class's cells, laid out so, hold these objects. Ids ascend; the head leads to the slots of exactly these objects, and each slot to
-- its chain; each version stands in its cells, with a serial of its own; each index lists the versions that have a row; and
-- that is all.
pub record HoldsIn (class : ClassNature) (image : Image) (class_of : ℕ → Option ℕ) (objects : List Object) (layout : Layout) : Type 0 where
  pub ascending : IsAscending objects
  pub slots : HoldsObjects image class.number (all_linked objects) layout.slots
  pub chains : (id : ℕ) → AreStored class image layout id (chain_of objects id)
  pub indexes : AllAgree class image objects layout
  pub serials : HaveOwnSerials objects
  pub account : IsAccount class image class_of objects layout

-- the class's cells hold these objects
abbrev pub Holds : ClassNature → Image → (ℕ → Option ℕ) → List Object → Type 0
Holds class image class_of objects = (layout : Layout) × HoldsIn class image class_of objects layout

-- the class's cells hold some objects
abbrev pub HoldsSome : ClassNature → Image → (ℕ → Option ℕ) → Type 0
HoldsSome class image class_of = (objects : List Object) × Holds class image class_of objects

-- whatever objects the class's cells hold, this is so
abbrev pub Whatever : ClassNature → Image → (ℕ → Option ℕ) → (List Object → Type 0) → Type 0
Whatever class image class_of Is = (objects : List Object) → Holds class image class_of objects → Is objects
