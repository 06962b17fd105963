-- The cells that hold the objects of a class: a digital tree of slots, and from each slot the chain of its object's versions.
use Rattle.std.specs.Prelude.{◌≡◌, ◌<◌, ◌+◌, ◌*◌, ◌^◌, ◌⊎◌, ℕ, List, [], ◌∷◌, map, slice_get, Some}
use Rattle.rdb_pages.specs.declared.cell.Cell.{Cell}
use Rattle.rdb_pages.specs.declared.cell.CellRef.{CellRef}
use Rattle.rdb_cells.specs.declared.kind.Kind.TheVariants as kind
use Rattle.rdb_cells.specs.HeadFormat.{class_head_in}
use Rattle.rdb_cells.specs.Images.{Image}
use Rattle.rdb_cells.specs.Links.{AreOnce}
use Rattle.rdb_cells.specs.ObjectFormat.{IsSlot, slot_in, slot_children}
use Rattle.rdb_cells.specs.References.{class_head_ref}
use Rattle.rdb_cells.specs.VersionFormat.{header_in}
use Rattle.rdb_cells.specs.Words.{IsOfKind}
use Rattle.rdb_objects.specs.Objects.{Object, ids_of, newest_of, versions_of, HaveVersions}

-- the version's header stands in its cell, is one of the object with this id, and leads to the next older version
pub record IsVersion (image : Image) (id : ℕ) (version older : CellRef) : Type 0 where
  pub some : 0 < version.number
  pub cell : Cell
  pub here : image version.number ≡ Some cell
  pub kind : IsOfKind cell kind.Version
  pub of_object : (header_in cell).id ≡ id
  pub leads : (header_in cell).older ≡ older

-- the headers of these versions stand, each leads to the next one, and the last one to none
abbrev pub AreVersions : Image → ℕ → List CellRef → Type 0
AreVersions image id [] = Unit {0}
AreVersions image id (v ∷ vs) = IsVersion image id v (newest_of vs) × AreVersions image id vs

-- the places that lead from the root to a slot, the last one first
abbrev pub Path : Type 0
Path = List ℕ

-- the number whose lowest digits to the base 8 lead along the path, the lowest one first, and whose others are those of a number
abbrev pub ending : Path → ℕ → ℕ
ending [] others = others
ending (place ∷ places) others = ending places (place + slot_children * others)

-- a slot of the tree: the places that lead to it, the number of its cell, and its object
pub record Slot : Type 0 where
  pub path : Path
  pub number : ℕ
  pub id : ℕ
  pub versions : List CellRef

abbrev pub cells_of : List Slot → List ℕ
cells_of slots = map (λ s. s.number) slots

-- the slot is one of these
abbrev pub IsOneOf : List Slot → Slot → Type 0
IsOneOf [] s = ⊥
IsOneOf (t ∷ ts) s = (t ≡ s) ⊎ IsOneOf ts s

-- one of the slots stands at the path, in the cell of that number
pub record HasSlot (slots : List Slot) (path : Path) (n : ℕ) : Type 0 where
  pub slot : Slot
  pub one : IsOneOf slots slot
  pub there : slot.path ≡ path
  pub numbered : slot.number ≡ n

-- the number leads to the slot at the path; 0 where there is none
pub record Leads (slots : List Slot) (path : Path) (n : ℕ) : Type 0 where
  pub there : (n ≡ 0) ⊎ HasSlot slots path n
  pub only : (s : Slot) → IsOneOf slots s → s.path ≡ path → s.number ≡ n

-- the slot above the one at a path, if it isn't the root: the last place is one of a slot's children
abbrev pub HasAbove : List Slot → Path → Type 0
HasAbove slots [] = Unit {0}
HasAbove slots (place ∷ path) = (place < slot_children) × ((s : Slot) × IsOneOf slots s × (s.path ≡ path))

-- the slot stands in its cell, at the end of its path, and its children lead on
pub record IsSlotAt (image : Image) (slots : List Slot) (s : Slot) : Type 0 where
  pub some : 0 < s.number
  pub cell : Cell
  pub here : image s.number ≡ Some cell
  pub kind : IsOfKind cell kind.Object
  pub fits : IsSlot (slot_in cell)
  pub of_object : (slot_in cell).id ≡ s.id
  pub newest : (slot_in cell).newest ≡ newest_of s.versions
  pub small : s.id < 2 ^ 64
  pub ends : (others : ℕ) × (s.id ≡ ending s.path others)
  pub above : HasAbove slots s.path
  pub children : (place : ℕ) (child : CellRef) → slice_get (slot_in cell).children place ≡ Some child → Leads slots (place ∷ s.path) child.number

-- the class's head stands, and leads to the root
pub record IsRooted (image : Image) (class : ℕ) (slots : List Slot) : Type 0 where
  pub cell : Cell
  pub here : image (class_head_ref class).number ≡ Some cell
  pub kind : IsOfKind cell kind.ClassHead
  pub root : Leads slots [] (class_head_in cell).root.number

-- the slots are the tree of the class, each in a cell of its own, and no two of one id
pub record AreSlots (image : Image) (class : ℕ) (slots : List Slot) : Type 0 where
  pub rooted : IsRooted image class slots
  pub each : (s : Slot) → IsOneOf slots s → IsSlotAt image slots s
  pub once : AreOnce (cells_of slots)
  pub ids : (s t : Slot) → IsOneOf slots s → IsOneOf slots t → s.id ≡ t.id → s.number ≡ t.number

-- each slot's object has a version, and its versions stand
abbrev pub HoldVersions : Image → List Slot → Type 0
HoldVersions image slots = (s : Slot) → IsOneOf slots s → (¬ (s.versions ≡ [])) × AreVersions image s.id s.versions

-- an id without versions, or one with a slot
abbrev pub IsSlotted : List Slot → List Object → ℕ → Type 0
IsSlotted slots objects id = (versions_of objects id ≡ []) ⊎ ((s : Slot) × IsOneOf slots s × (s.id ≡ id))

-- the objects are those of the slots, in whatever order, each once and with a version
pub record AreObjectsOf (slots : List Slot) (objects : List Object) : Type 0 where
  pub told : (s : Slot) → IsOneOf slots s → versions_of objects s.id ≡ s.versions
  pub slotted : (id : ℕ) → IsSlotted slots objects id
  pub once : AreOnce (ids_of objects)
  pub have : HaveVersions objects

-- the class's cells hold these objects, in slots in these cells
pub record HoldsObjects (image : Image) (class : ℕ) (objects : List Object) (cells : List ℕ) : Type 0 where
  pub slots : List Slot
  pub tree : AreSlots image class slots
  pub versions : HoldVersions image slots
  pub objects_are : AreObjectsOf slots objects
  pub cells_are : cells ≡ cells_of slots

-- the class's cells hold some objects
abbrev pub HoldsSome : Image → ℕ → Type 0
HoldsSome image class = (objects : List Object) × (cells : List ℕ) × HoldsObjects image class objects cells

-- whatever objects the class's cells hold, and in whichever slots, this holds
abbrev pub Whatever : Image → ℕ → (List Object → List ℕ → Type 0) → Type 0
Whatever image class Holds = (objects : List Object) (cells : List ℕ) → HoldsObjects image class objects cells → Holds objects cells
