-- The branches and entries of a Patricia tree, as words and as they are read.
use Rattle.std.specs.Prelude.{◌<◌, ◌^◌, ◌∷◌, slice_index}
use Rattle.rdb_pages.specs.declared.cell.Cell.{Cell}
use Rattle.rdb_cells.specs.declared.kind.Kind.TheVariants as kind
use Rattle.rdb_cells.specs.declared.formats.patricia.PatriciaBranch.{PatriciaBranch}
use Rattle.rdb_cells.specs.declared.formats.patricia.PatriciaEntry.{PatriciaEntry}
use Rattle.rdb_cells.specs.Words.{first_word, high_of, ref_in, blank}

-- the cell of a branch
abbrev pub branch_cell : PatriciaBranch → Cell
branch_cell b = record { words = first_word kind.PatriciaBranch 0 ∷ b.bit ∷ b.zero_side.number ∷ b.one_side.number ∷ blank 12 }

-- the branch that a cell is read as
abbrev pub branch_in : Cell → PatriciaBranch
branch_in cell = record { bit = slice_index cell.words 1; zero_side = ref_in cell 2; one_side = ref_in cell 3 }

-- the reference of the next entry fits 24 bits
abbrev pub IsPatriciaEntry : PatriciaEntry → Type 0
IsPatriciaEntry e = e.next.number < 2 ^ 24

-- the cell of an entry
abbrev pub patricia_entry_cell : PatriciaEntry → Cell
patricia_entry_cell e = record { words = first_word kind.PatriciaEntry e.next.number ∷ e.version.number ∷ blank 14 }

-- the entry that a cell is read as
abbrev pub patricia_entry_in : Cell → PatriciaEntry
patricia_entry_in cell = record { next = record { number = high_of cell }; version = ref_in cell 1 }
