-- The cells of a row, as words and as they are read.
use Rattle.std.specs.Prelude.{◌≡◌, ◌<◌, ℕ, zero, suc, ◌+◌, ◌-◌, ◌*◌, ◌^◌, List, [], ◌∷◌, ◌++◌, length, drop, replicate, slice_index}
use Rattle.std.specs.List.{flat_map}
use Rattle.std.specs.Int.{w32, from_le_bytes, to_le_bytes}
use Rattle.rdb_pages.specs.declared.cell.Cell.{Cell}
use Rattle.rdb_cells.specs.declared.kind.Kind.TheVariants as kind
use Rattle.rdb_cells.specs.declared.formats.row.RowCell.{RowCell}
use Rattle.rdb_cells.specs.Words.{first_word, high_of}

-- how many bytes of a row stand in one cell
abbrev pub row_cell_bytes : ℕ
row_cell_bytes = 60

-- there are so many bytes, and the reference of the next cell fits 24 bits
pub record IsRowCell (r : RowCell) : Type 0 where
  pub next : r.next.number < 2 ^ 24
  pub count : length r.bytes ≡ row_cell_bytes
  pub bytes : (place : ℕ) → slice_index r.bytes place < 256

-- bytes, and zeros behind them up to the whole cell
abbrev pub filled_up : List ℕ → List ℕ
filled_up bytes = bytes ++ replicate (row_cell_bytes - length bytes) 0

-- the word of four bytes, the lowest first
abbrev pub word_of : List ℕ → ℕ → ℕ
word_of bytes place =
    from_le_bytes w32
    (slice_index bytes (4 * place) ∷ slice_index bytes (4 * place + 1) ∷ slice_index bytes (4 * place + 2) ∷ slice_index bytes (4 * place + 3) ∷ [])

-- so many words of bytes, from a place on
abbrev pub words_of : List ℕ → ℕ → ℕ → List ℕ
words_of bytes place zero = []
words_of bytes place (suc n) = word_of bytes place ∷ words_of bytes (suc place) n

-- the cell of a part of a row
abbrev pub row_cell : RowCell → Cell
row_cell r = record { words = first_word kind.Row r.next.number ∷ words_of r.bytes 0 15 }

-- the part of a row that a cell is read as
abbrev pub row_in : Cell → RowCell
row_in cell = record { next = record { number = high_of cell }; bytes = flat_map (to_le_bytes w32) (drop 1 cell.words) }
