-- The order in which objects come when all are gone over: a slot before those below it, and these by their places.
use Rattle.std.specs.Prelude.{◌≡◌, ◌≢◌, ◌==◌, ◌<◌, ◌≤◌, ◌⊎◌, ℕ, List, [], ◌∷◌, ◌++◌, map, slice_get, Option, Some, None, if◌then◌else◌}
use Rattle.rdb_pages.specs.declared.cell.Cell.{Cell}
use Rattle.rdb_pages.specs.declared.cell.CellRef.{CellRef}
use Rattle.rdb_cells.specs.Images.{Image}
use Rattle.rdb_cells.specs.ObjectFormat.{slot_in, slot_children}
use Rattle.rdb_cells.specs.Words.{no_ref}
use Rattle.rdb_objects.specs.declared.walk.Found.{Found}
use Rattle.rdb_objects.specs.Objects.{Object, newest_of, versions_of, SameObjects}
use Rattle.rdb_objects.specs.Slots.{Path, Slot, IsOneOf, AreSlots, HoldVersions, HoldsObjects}

-- the places of a path from the root on
abbrev pub outward : Path → List ℕ
outward [] = []
outward (place ∷ path) = outward path ++ place ∷ []

-- what begins a list of places comes before what goes on; where two part, the lower place comes first
abbrev pub Before : List ℕ → List ℕ → Type 0
Before [] [] = ⊥
Before [] (b ∷ others) = Unit {0}
Before (a ∷ rest) [] = ⊥
Before (a ∷ rest) (b ∷ others) = (a < b) ⊎ ((a ≡ b) × Before rest others)

abbrev pub Comes : Slot → Slot → Type 0
Comes s t = Before (outward s.path) (outward t.path)

-- the slot comes before each of these
abbrev pub IsFirst : Slot → List Slot → Type 0
IsFirst s [] = Unit {0}
IsFirst s (t ∷ ts) = Comes s t × IsFirst s ts

-- each slot comes before those that follow it
abbrev pub AreInOrder : List Slot → Type 0
AreInOrder [] = Unit {0}
AreInOrder (s ∷ ss) = IsFirst s ss × AreInOrder ss

-- the objects of slots
abbrev pub object_of : Slot → Object
object_of s = record { id = s.id; versions = s.versions }

abbrev pub objects_of : List Slot → List Object
objects_of slots = map object_of slots

-- the class's cells hold these objects, in the order in which they come
pub record ListsInOrder (image : Image) (class : ℕ) (objects : List Object) : Type 0 where
  pub slots : List Slot
  pub tree : AreSlots image class slots
  pub versions : HoldVersions image slots
  pub in_order : AreInOrder slots
  pub objects_are : objects ≡ objects_of slots

-- the object behind the one of this id
abbrev pub behind : List Object → ℕ → Option Object
behind [] id = None
behind (o ∷ os) id = if o.id == id then slice_get os 0 else behind os id

-- what is told of an object
abbrev pub told : Option Object → Option Found
told None = None
told (Some o) = Some (record { id = o.id; newest = newest_of o.versions })

-- the class's cells hold an object of this id
abbrev pub HasObject : Image → ℕ → ℕ → Type 0
HasObject image class id = (objects : List Object) × (cells : List ℕ) × HoldsObjects image class objects cells × (¬ (versions_of objects id ≡ []))

-- what was read from the cell of a slot, or of none
abbrev pub IsFoundIn : Image → CellRef → Option Found → Type 0
IsFoundIn image slot result = ((slot ≡ no_ref) × (result ≡ None))
    ⊎ ((slot ≢ no_ref) × (cell : Cell) × (image slot.number ≡ Some cell) × (result ≡ Some (record { id = (slot_in cell).id; newest = (slot_in cell).newest })))

-- whatever the objects are in the order in which they come, this holds of them
abbrev pub InOrder : Image → ℕ → (List Object → Type 0) → Type 0
InOrder image class Holds = (objects : List Object) → ListsInOrder image class objects → Holds objects

-- there is no child at the places from one on and below another
abbrev pub HasNoChildFrom : Cell → ℕ → ℕ → Type 0
HasNoChildFrom cell start end = (place : ℕ) (child : CellRef) → start ≤ place → place < end → slice_get (slot_in cell).children place ≡ Some child → child ≡ no_ref

-- the first that is a cell
abbrev pub IsSooner : CellRef → CellRef → CellRef → Type 0
IsSooner first second r = ((first ≡ no_ref) × (r ≡ second)) ⊎ ((first ≢ no_ref) × (r ≡ first))

-- no slot comes behind this one, or the one in the cell is the next of those that do
abbrev pub IsNext : List Slot → Slot → ℕ → Type 0
IsNext slots s n = ((n ≡ 0) × ((u : Slot) → IsOneOf slots u → ¬ Comes s u))
    ⊎ ((t : Slot) × IsOneOf slots t × (t.number ≡ n) × Comes s t × ((u : Slot) → IsOneOf slots u → Comes s u → (t ≡ u) ⊎ Comes t u))

abbrev pub IsNextOf : List Slot → ℕ → ℕ → Type 0
IsNextOf slots id n = (s : Slot) → IsOneOf slots s → s.id ≡ id → IsNext slots s n

-- the child is the lowest from a place on, or there is none
abbrev pub IsChildFrom : Cell → ℕ → CellRef → Type 0
IsChildFrom cell start child = ((child ≡ no_ref) × HasNoChildFrom cell start slot_children)
    ⊎ ((place : ℕ) × (start ≤ place) × (place < slot_children) × (slice_get (slot_in cell).children place ≡ Some child) × (child.number ≢ 0) × HasNoChildFrom cell start place)

-- the objects of a class come in one order, whichever list of them it holds
abbrev pub ComeInOrder : Type 0
ComeInOrder = (image : Image) (class : ℕ) (objects : List Object) (cells : List ℕ) → HoldsObjects image class objects cells →
    (ordered : List Object) × ListsInOrder image class ordered × SameObjects objects ordered
