-- The table and the entries of a hash index, as words and as they are read.
use Rattle.std.specs.Prelude.{ℕ, ◌≡◌, ◌<◌, ◌^◌, ◌∷◌, length, slice_index}
use Rattle.rdb_pages.specs.declared.cell.Cell.{Cell}
use Rattle.rdb_cells.specs.declared.kind.Kind.TheVariants as kind
use Rattle.rdb_cells.specs.declared.formats.hash.HashTable.{HashTable}
use Rattle.rdb_cells.specs.declared.formats.hash.HashEntry.{HashEntry}
use Rattle.rdb_cells.specs.Words.{first_word, high_of, numbers, ref_in, refs_in, blank}

-- how many buckets a table has
abbrev pub table_buckets : ℕ
table_buckets = 15

-- there are so many buckets
abbrev pub IsTable : HashTable → Type 0
IsTable t = length t.buckets ≡ table_buckets

-- the cell of a table
abbrev pub table_cell : HashTable → Cell
table_cell t = record { words = first_word kind.HashTable 0 ∷ numbers t.buckets 0 15 }

-- the table that a cell is read as
abbrev pub table_in : Cell → HashTable
table_in cell = record { buckets = refs_in cell 1 15 }

-- the reference of the next entry fits 24 bits
abbrev pub IsHashEntry : HashEntry → Type 0
IsHashEntry e = e.next.number < 2 ^ 24

-- the cell of an entry
abbrev pub hash_entry_cell : HashEntry → Cell
hash_entry_cell e = record { words = first_word kind.HashEntry e.next.number ∷ e.version.number ∷ e.hash ∷ blank 13 }

-- the entry that a cell is read as
abbrev pub hash_entry_in : Cell → HashEntry
hash_entry_in cell = record { next = record { number = high_of cell }; version = ref_in cell 1; hash = slice_index cell.words 2 }
