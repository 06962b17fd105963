-- The header of a version, as words and as it is read.
use Rattle.std.specs.Prelude.{◌<◌, ℕ, ◌+◌, ◌*◌, ◌/◌, ◌%◌, ◌^◌, ◌==◌, if◌then◌else◌, [], ◌∷◌, slice_index}
use Rattle.rdb_base.specs.declared.identity.Stamp.{Stamp}
use Rattle.rdb_base.specs.declared.identity.Stamp.TheVariants.{By, Done}
use Rattle.rdb_pages.specs.declared.cell.Cell.{Cell}
use Rattle.rdb_pages.specs.declared.cell.CellRef.{CellRef}
use Rattle.rdb_cells.specs.declared.kind.Kind.TheVariants as kind
use Rattle.rdb_cells.specs.declared.formats.version.VersionHeader.{VersionHeader}
use Rattle.rdb_cells.specs.declared.formats.version.StampWords.{StampWords}
use Rattle.rdb_cells.specs.Words.{first_word, low_half, upper_half, high_of, wide_of}

-- the class fits 8 bits, and the reference of the older version 24
abbrev pub IsHeader : VersionHeader → Type 0
IsHeader h = (h.class < 256) × (h.older.number < 2 ^ 24)

-- a stamp as words: whose it is, the number, and of an open transaction the connection
abbrev pub stamp_words : Stamp → StampWords
stamp_words (By tx) = record { mark = 1; number = tx.number; slot = tx.conn.slot; connection = tx.conn.serial }
stamp_words (Done commit) = record { mark = 2; number = commit; slot = 0; connection = 0 }

-- the stamp of these words
abbrev pub stamp_of : StampWords → Stamp
stamp_of s = if s.mark == 1 then By (record { conn = record { slot = s.slot; serial = s.connection }; number = s.number }) else Done s.number

-- the class, whether it is a tombstone, and the encoding of rows, which is 1
abbrev pub second_word : VersionHeader → ℕ
second_word h = h.class + 256 * (if h.tombstone then 1 else 0) + 65536

-- the cell of a header whose stamp has these words
abbrev pub stamped_cell : VersionHeader → StampWords → Cell
stamped_cell h s =
    record {
      words =
          first_word kind.Version h.older.number ∷ second_word h
          ∷ low_half h.id ∷ upper_half h.id
          ∷ h.first_row.number ∷ h.row_length
          ∷ s.mark ∷ low_half s.number ∷ upper_half s.number ∷ s.slot ∷ low_half s.connection ∷ upper_half s.connection
          ∷ low_half h.serial ∷ upper_half h.serial
          ∷ 0 ∷ 0 ∷ [];
    }

-- the cell of a header
abbrev pub header_cell : VersionHeader → Cell
header_cell h = stamped_cell h (stamp_words h.stamp)

-- the words of a stamp that a cell has
abbrev pub stamp_in : Cell → StampWords
stamp_in cell = record { mark = slice_index cell.words 6; number = wide_of cell 7; slot = slice_index cell.words 9; connection = wide_of cell 10 }

-- the header that a cell is read as
abbrev pub header_in : Cell → VersionHeader
header_in cell =
    record {
      older = record { number = high_of cell };
      class = slice_index cell.words 1 % 256;
      tombstone = (slice_index cell.words 1 / 256 % 256) == 1;
      id = wide_of cell 2;
      first_row = record { number = slice_index cell.words 4 };
      row_length = slice_index cell.words 5;
      stamp = stamp_of (stamp_in cell);
      serial = wide_of cell 12;
    }

-- the header with another stamp
abbrev pub with_stamp : VersionHeader → Stamp → VersionHeader
with_stamp h stamp = record h { stamp = stamp }

-- the header that leads to another older version
abbrev pub with_older : VersionHeader → CellRef → VersionHeader
with_older h older = record h { older = older }
