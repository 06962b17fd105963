-- Walks through the tree of a class's slots.
use Rattle.std.specs.Prelude.{◌≡◌, ◌≢◌, ◌<◌, ◌⊎◌, ◌++◌, ℕ, List, [], ◌∷◌, slice_get, slice_set, Some}
use Rattle.rdb_pages.specs.declared.cell.Cell.{Cell}
use Rattle.rdb_pages.specs.declared.cell.CellRef.{CellRef}
use Rattle.rdb_cells.specs.declared.kind.Kind.TheVariants as kind
use Rattle.rdb_cells.specs.HeadFormat.{class_head_in}
use Rattle.rdb_cells.specs.Images.{Image}
use Rattle.rdb_cells.specs.ObjectFormat.{slot_in, slot_children}
use Rattle.rdb_cells.specs.References.{class_head_ref}
use Rattle.rdb_cells.specs.Words.{IsOfKind, no_ref}
use Rattle.rdb_objects.specs.declared.tree.Spot.{Spot}
use Rattle.rdb_objects.specs.Slots.{Path, Slot, IsOneOf, HasSlot, Leads, AreSlots, ending}

-- the class has a tree of slots
abbrev pub HasTree : Image → ℕ → Type 0
HasTree image class = (slots : List Slot) × AreSlots image class slots

-- whatever the class's slots are, this holds of them
abbrev pub WhateverSlots : Image → ℕ → (List Slot → Type 0) → Type 0
WhateverSlots image class Holds = (slots : List Slot) → AreSlots image class slots → Holds slots

-- what leads to the place at the end of a path: the head, or a slot from the last place on
abbrev pub IsLedTo : List Slot → Path → CellRef → ℕ → Type 0
IsLedTo slots [] above place = above.number ≡ 0
IsLedTo slots (last ∷ path) above place = (place ≡ last) × (last < slot_children) × HasSlot slots path above.number

-- the spot is the one at the end of the path
pub record IsSpot (slots : List Slot) (path : Path) (spot : Spot) : Type 0 where
  pub leads : Leads slots path spot.slot.number
  pub led_to : IsLedTo slots path spot.above spot.place

-- no slot is one of this id
abbrev pub HasNone : List Slot → ℕ → Type 0
HasNone slots id = (s : Slot) → IsOneOf slots s → s.id ≢ id

-- the spot is that of the slot of this id, or the empty one where its slot would be
pub record IsFound (slots : List Slot) (id : ℕ) (spot : Spot) : Type 0 where
  pub path : Path
  pub is_spot : IsSpot slots path spot
  pub ends : (others : ℕ) × (id ≡ ending path others)
  pub found : ((spot.slot.number ≡ 0) × HasNone slots id) ⊎ ((s : Slot) × IsOneOf slots s × (s.path ≡ path) × (s.number ≡ spot.slot.number) × (s.id ≡ id))

-- the class has a tree of slots with this spot, and a slot is there
abbrev pub HasSlotAt : Image → ℕ → Spot → Type 0
HasSlotAt image class spot = (slots : List Slot) × (path : Path) × AreSlots image class slots × IsSpot slots path spot × (spot.slot.number ≢ 0)

-- the class has a tree of slots with this spot
abbrev pub HasSpot : Image → ℕ → Spot → Type 0
HasSpot image class spot = (slots : List Slot) × (path : Path) × AreSlots image class slots × IsSpot slots path spot

-- there is a child at the place
abbrev pub IsChildAt : Cell → ℕ → Type 0
IsChildAt cell place = (child : CellRef) × (slice_get (slot_in cell).children place ≡ Some child) × (child ≢ no_ref)

-- there is no child at the places below this one
abbrev pub HasNoChildBelow : Cell → ℕ → Type 0
HasNoChildBelow cell end = (place : ℕ) (child : CellRef) → place < end → slice_get (slot_in cell).children place ≡ Some child → child ≡ no_ref

-- the spot is that of a leaf, at the end of a way down from the slot at a path
pub record IsLeafBelow (slots : List Slot) (path : Path) (spot : Spot) : Type 0 where
  pub down : Path
  pub is_spot : IsSpot slots (down ++ path) spot
  pub there : spot.slot.number ≢ 0
  pub leaf : (s : Slot) → IsOneOf slots s → (place : ℕ) → ¬ (s.path ≡ place ∷ (down ++ path))

-- wherever the slot at a spot stands, the other spot is that of a leaf below it, or of itself where it is one
abbrev pub IsLeadingToLeaf : List Slot → Spot → Spot → Type 0
IsLeadingToLeaf slots top spot = (path : Path) → IsSpot slots path top → IsLeafBelow slots path spot

-- the cell that leads to a spot, with another slot to which it leads
abbrev pub LinksHead : ℕ → Spot → CellRef → CellRef → Cell → Type 0
LinksHead class spot slot at cell = (spot.above.number ≡ 0) × (at ≡ class_head_ref class) × IsOfKind cell kind.ClassHead × ((class_head_in cell).root ≡ slot)

abbrev pub LinksSlot : Image → Spot → CellRef → CellRef → Cell → Type 0
LinksSlot image spot slot at cell =
    (spot.above.number ≢ 0) × (at ≡ spot.above) × IsOfKind cell kind.Object
    × ((old : Cell) × (image at.number ≡ Some old) × (slot_in cell ≡ record (slot_in old) { children = slice_set (slot_in old).children spot.place slot }))

abbrev pub IsLink : Image → ℕ → Spot → CellRef → CellRef → Cell → Type 0
IsLink image class spot slot at cell = LinksHead class spot slot at cell ⊎ LinksSlot image spot slot at cell
