-- The slot of an object, as words and as it is read.
use Rattle.std.specs.Prelude.{ℕ, ◌≡◌, ◌<◌, ◌^◌, ◌∷◌, ◌++◌, length}
use Rattle.rdb_pages.specs.declared.cell.Cell.{Cell}
use Rattle.rdb_cells.specs.declared.kind.Kind.TheVariants as kind
use Rattle.rdb_cells.specs.declared.formats.object.ObjectSlot.{ObjectSlot}
use Rattle.rdb_cells.specs.Words.{first_word, low_half, upper_half, high_of, wide_of, numbers, refs_in, blank}

-- how many children a slot has
abbrev pub slot_children : ℕ
slot_children = 8

-- there are so many children, and the reference of the newest version fits 24 bits
abbrev pub IsSlot : ObjectSlot → Type 0
IsSlot s = (length s.children ≡ slot_children) × (s.newest.number < 2 ^ 24)

-- the cell of a slot
abbrev pub slot_cell : ObjectSlot → Cell
slot_cell s =
    record {
      words =
          first_word kind.Object s.newest.number ∷ low_half s.id ∷ upper_half s.id ∷ 0
          ∷ (numbers s.children 0 8 ++ blank 4);
    }

-- the slot that a cell is read as
abbrev pub slot_in : Cell → ObjectSlot
slot_in cell = record { newest = record { number = high_of cell }; id = wide_of cell 1; children = refs_in cell 4 8 }
