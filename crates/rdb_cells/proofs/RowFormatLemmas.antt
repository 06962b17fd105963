-- The bytes of a row that were written to a cell are read from it.
use Rattle.std.proofs.Common.{◌≡◌, ℕ, zero, suc, ◌+◌, ◌-◌, ◌*◌, ◌/◌, ◌%◌, ◌<◌, ◌≤◌, List, [], ◌∷◌, ◌++◌, length, length-append, get_or, drop, replicate, refl, sym, ap, ap₂, ◌∙◌, arith}
use Rattle.rdb_pages.specs.declared.cell.CellRef.{CellRef}
use Rattle.std.specs.Prelude.{slice_index}
use Rattle.std.specs.Int.{w32, from_le_bytes, to_le_bytes}
use Rattle.std.specs.List.{flat_map}
use Rattle.std.proofs.lemmas.Nat.{le_bytes_4}
use Rattle.rdb_cells.specs.declared.formats.row.RowCell.{RowCell}
use Rattle.rdb_cells.specs.RowFormat.{IsRowCell, filled_up, row_cell, row_in, word_of, words_of}

byte_behind : (a b c d : ℕ) (bytes : List ℕ) (j k : ℕ) → j ≡ suc (suc (suc (suc k))) → slice_index (a ∷ b ∷ c ∷ d ∷ bytes) j ≡ slice_index bytes k
byte_behind a b c d bytes j k e = ap (λ (n : ℕ). slice_index (a ∷ b ∷ c ∷ d ∷ bytes) n) e

word_behind : (a b c d : ℕ) (bytes : List ℕ) (place : ℕ) → word_of (a ∷ b ∷ c ∷ d ∷ bytes) (suc place) ≡ word_of bytes place
word_behind a b c d bytes place =
    let e0 : 4 * suc place ≡ suc (suc (suc (suc (4 * place)))) = omega arith in
    let e1 : 4 * suc place + 1 ≡ suc (suc (suc (suc (4 * place + 1)))) = omega arith in
    let e2 : 4 * suc place + 2 ≡ suc (suc (suc (suc (4 * place + 2)))) = omega arith in
    let e3 : 4 * suc place + 3 ≡ suc (suc (suc (suc (4 * place + 3)))) = omega arith in
    λ i. from_le_bytes w32
    (byte_behind a b c d bytes (4 * suc place) (4 * place) e0 i
    ∷ byte_behind a b c d bytes (4 * suc place + 1) (4 * place + 1) e1 i
    ∷ byte_behind a b c d bytes (4 * suc place + 2) (4 * place + 2) e2 i
    ∷ byte_behind a b c d bytes (4 * suc place + 3) (4 * place + 3) e3 i
    ∷ [])

words_behind : (a b c d : ℕ) (bytes : List ℕ) (place n : ℕ) → words_of (a ∷ b ∷ c ∷ d ∷ bytes) (suc place) n ≡ words_of bytes place n
words_behind a b c d bytes place zero = refl
words_behind a b c d bytes place (suc n) = λ i. word_behind a b c d bytes place i ∷ words_behind a b c d bytes (suc place) n i

-- the first four of some bytes are bytes
first_four : (a b c d : ℕ) (bytes : List ℕ) → ((k : ℕ) → slice_index (a ∷ b ∷ c ∷ d ∷ bytes) k < 256) → (k : ℕ) → get_or (a ∷ b ∷ c ∷ d ∷ []) k 0 < 256
first_four a b c d bytes small zero = small 0
first_four a b c d bytes small (suc zero) = small 1
first_four a b c d bytes small (suc (suc zero)) = small 2
first_four a b c d bytes small (suc (suc (suc zero))) = small 3
first_four a b c d bytes small (suc (suc (suc (suc k)))) = omega arith

bytes_back : (n : ℕ) (bytes : List ℕ) → length bytes ≡ 4 * n → ((k : ℕ) → slice_index bytes k < 256) → flat_map (to_le_bytes w32) (words_of bytes 0 n) ≡ bytes
bytes_back zero [] e small = refl
bytes_back zero (a ∷ bytes) e small = absurd (omega arith)
bytes_back (suc n) [] e small = absurd (omega arith)
bytes_back (suc n) (a ∷ []) e small = absurd (omega arith)
bytes_back (suc n) (a ∷ b ∷ []) e small = absurd (omega arith)
bytes_back (suc n) (a ∷ b ∷ c ∷ []) e small = absurd (omega arith)
bytes_back (suc n) (a ∷ b ∷ c ∷ d ∷ bytes) e small =
    let four : List ℕ = a ∷ b ∷ c ∷ d ∷ [] in
    let first : to_le_bytes w32 (from_le_bytes w32 four) ≡ four = le_bytes_4 four (from_le_bytes w32 four) refl (first_four a b c d bytes small) refl in
    let others : flat_map (to_le_bytes w32) (words_of (a ∷ b ∷ c ∷ d ∷ bytes) 1 n) ≡ bytes =
    ap (λ (ws : List ℕ). flat_map (to_le_bytes w32) ws) (words_behind a b c d bytes 0 n)
    ∙ bytes_back n bytes (omega arith) (λ k. small (suc (suc (suc (suc k))))) in
    λ i. first i ++ others i

pub row_back : (r : RowCell) → IsRowCell r → row_in (row_cell r) ≡ r
row_back r is =
    let next : (1 + 256 * r.next.number) / 256 ≡ r.next.number = omega arith in
    λ i. record { next = record { number = next i }; bytes = bytes_back 15 r.bytes is.count is.bytes i }

-- a byte of words stands in the word of four that has its place
no_bytes : (k : ℕ) → slice_index (to_le_bytes w32 0) k ≡ slice_index [] 0
no_bytes zero = refl
no_bytes (suc zero) = refl
no_bytes (suc (suc zero)) = refl
no_bytes (suc (suc (suc zero))) = refl
no_bytes (suc (suc (suc (suc k)))) = refl

pub flat_byte : (ws : List ℕ) (place : ℕ) → slice_index (flat_map (to_le_bytes w32) ws) place ≡ slice_index (to_le_bytes w32 (slice_index ws (place / 4))) (place % 4)
flat_byte [] place = sym (no_bytes (place % 4))
flat_byte (w ∷ ws) zero = refl
flat_byte (w ∷ ws) (suc zero) = refl
flat_byte (w ∷ ws) (suc (suc zero)) = refl
flat_byte (w ∷ ws) (suc (suc (suc zero))) = refl
flat_byte (w ∷ ws) (suc (suc (suc (suc k)))) =
    let word : suc (suc (suc (suc k))) / 4 ≡ suc (k / 4) = omega arith in
    let byte : suc (suc (suc (suc k))) % 4 ≡ k % 4 = omega arith in
    flat_byte ws k ∙ sym (ap₂ (λ (a b : ℕ). slice_index (to_le_bytes w32 (slice_index (w ∷ ws) a)) b) word byte)

-- bytes of words are bytes, and so are bytes filled up with zeros
pub flat_small : (ws : List ℕ) (place : ℕ) → slice_index (flat_map (to_le_bytes w32) ws) place < 256
flat_small [] place = omega arith
flat_small (w ∷ ws) zero = omega arith
flat_small (w ∷ ws) (suc zero) = omega arith
flat_small (w ∷ ws) (suc (suc zero)) = omega arith
flat_small (w ∷ ws) (suc (suc (suc zero))) = omega arith
flat_small (w ∷ ws) (suc (suc (suc (suc k)))) = flat_small ws k

zeros_small : (many place : ℕ) → slice_index (replicate many 0) place < 256
zeros_small zero place = omega arith
zeros_small (suc many) zero = omega arith
zeros_small (suc many) (suc place) = zeros_small many place

filled_small : (bytes : List ℕ) (many : ℕ) → ((k : ℕ) → slice_index bytes k < 256) → (place : ℕ) → slice_index (bytes ++ replicate many 0) place < 256
filled_small [] many small place = zeros_small many place
filled_small (b ∷ bytes) many small zero = small 0
filled_small (b ∷ bytes) many small (suc place) = filled_small bytes many (λ k. small (suc k)) place

length_zeros : (many : ℕ) → length {A = ℕ} (replicate many 0) ≡ many
length_zeros zero = refl
length_zeros (suc many) = ap suc (length_zeros many)

pub filled_proper : (bytes : List ℕ) (next : CellRef) → length bytes ≤ 60 → ((k : ℕ) → slice_index bytes k < 256) → next.number < 16777216 → IsRowCell (record { next = next; bytes = filled_up bytes })
filled_proper bytes next fits small near =
    let whole = length-append bytes (replicate (60 - length bytes) 0) in
    let rest = length_zeros (60 - length bytes) in
    let sum : length bytes + (60 - length bytes) ≡ 60 = omega arith in
    record { next = near; count = whole ∙ ap (λ (n : ℕ). length bytes + n) rest ∙ sum; bytes = filled_small bytes (60 - length bytes) small }

pub behind_first : (ws : List ℕ) (k : ℕ) → slice_index (drop 1 ws) k ≡ slice_index ws (1 + k)
behind_first [] k = refl
behind_first (w ∷ ws) k = let next : 1 + k ≡ suc k = omega arith in sym (ap (λ (i : ℕ). slice_index (w ∷ ws) i) next)
