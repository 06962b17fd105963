-- What a class's cells hold in the middle of a plan: a version may stand in no chain, and an index may lack one.
use Rattle.std.specs.Prelude.{◌≡◌, ◌≢◌, ◌<◌, ◌≤◌, ◌⊎◌, ◌↔◌, ℕ, List, Option, Some, Contains}
use Rattle.rdb_pages.specs.declared.cell.CellRef.{CellRef}
use Rattle.rdb_pages.specs.Pages.{zero_cell}
use Rattle.rdb_cells.specs.Images.{Image}
use Rattle.rdb_cells.specs.Index.{Lists}
use Rattle.rdb_cells.specs.Links.{IsAmong, AreDisjoint}
use Rattle.rdb_cells.specs.References.{IsPageCell}
use Rattle.rdb_objects.specs.Slots.{HoldsObjects}
use Rattle.rdb_rows.specs.Versions.{Version as StoredVersion, HoldsVersion}
use Rattle.rdb_sight.specs.Versions.{Object, IsAscending, chain_of}
use Rattle.rdb_store.specs.Classes.{ClassNature, KeyedNature, IsHeadOf}
use Rattle.rdb_store.specs.Layouts.{Part, Slots, OfVersion, OfIndex, Layout, cells_in}
use Rattle.rdb_store.specs.Stored.{all_linked, AreStored, HasHeader, HasRowAt, HaveOwnSerials}

-- the cell is one of such a part
pub record IsInSome (Is : Part → Type 0) (layout : Layout) (n : ℕ) : Type 0 where
  pub part : Part
  pub is_part : Is part
  pub within : IsAmong (cells_in layout part) n

-- the account of a class's cells, with such parts
pub record Accounts (class : ClassNature) (Is : Part → Type 0) (image : Image) (class_of : ℕ → Option ℕ) (layout : Layout) : Type 0 where
  pub heads : (n : ℕ) → IsHeadOf class n → class_of n ≡ Some class.number
  pub apart : (p q : Part) → Is p → Is q → p ≢ q → AreDisjoint (cells_in layout p) (cells_in layout q)
  pub paged : (n : ℕ) → IsInSome Is layout n → IsPageCell n × (class_of n ≡ Some class.number)
  pub rest : (n : ℕ) → IsPageCell n → class_of n ≡ Some class.number → (image n ≡ Some zero_cell) ⊎ IsInSome Is layout n

-- the parts of a class in the middle of a plan: a version is one that has its place in a chain, or a loose one
abbrev pub IsMidPart : ClassNature → List Object → (ℕ → Type 0) → Part → Type 0
IsMidPart class objects Loose Slots = Unit {0}
IsMidPart class objects Loose (OfVersion header) = HasHeader objects header ⊎ Loose header
IsMidPart class objects Loose (OfIndex place) = place < class.count

-- the index has its shape, in these nodes, and lists such headers
pub record ListsSuch (keyed : KeyedNature) (image : Image) (Such : ℕ → Type 0) (nodes : List ℕ) : Type 0 where
  pub listed : List CellRef
  pub lists : Lists keyed.index keyed.keys image listed nodes
  pub exactly : (r : CellRef) → Contains listed r ↔ Such r.number

-- The class's cells, laid out so, hold these objects in the middle of a plan: such headers stand loose, in no chain, and the index at
-- each place lists such headers.
pub record IsMidway (class : ClassNature) (image : Image) (class_of : ℕ → Option ℕ) (objects : List Object) (Loose : ℕ → Type 0)
    (Such : ℕ → ℕ → Type 0) (layout : Layout) : Type 0 where
  pub ascending : IsAscending objects
  pub slots : HoldsObjects image class.number (all_linked objects) layout.slots
  pub chains : (id : ℕ) → AreStored class image layout id (chain_of objects id)
  pub loose : (header : ℕ) → Loose header → (v : StoredVersion) × HoldsVersion image header v (layout.of_version header)
  pub indexes : (place : ℕ) → place < class.count → ListsSuch (class.at place) image (Such place) (layout.of_index place)
  pub serials : HaveOwnSerials objects
  pub account : Accounts class (IsMidPart class objects Loose) image class_of layout

-- the headers that the index at a place lists while a version is put into one index after another: it is in those before the next one
abbrev pub BeforePut : List Object → ℕ → ℕ → ℕ → ℕ → Type 0
BeforePut objects version next place n = HasRowAt objects n × ((place < next) ⊎ (n ≢ version))

-- those that it lists while a version is taken from one after another: it isn't in those before the next one
abbrev pub AfterTake : List Object → ℕ → ℕ → ℕ → ℕ → Type 0
AfterTake objects version next place n = HasRowAt objects n × ((next ≤ place) ⊎ (n ≢ version))
