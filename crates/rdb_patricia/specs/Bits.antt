-- The bits of a text: nine for each byte, 1 and then the byte's own with its highest first; past its end all are 0. So a text
-- and a longer one that begins with it differ at the first one's end.
use Rattle.std.specs.Prelude.{◌≡◌, ◌≢◌, ◌==◌, ◌+◌, ◌/◌, ◌%◌, ◌*◌, ◌-◌, ◌^◌, ◌<◌, ◌≤◌, ℕ, zero, suc, List, [], length, Option, Some, None, IsSome, Bool, true, false, slice_get}
use Rattle.std.specs.Option.{option_map_or}
use Rattle.rdb_base.specs.declared.value.Value.{Value}
use Rattle.rdb_pages.specs.declared.cell.CellRef.{CellRef}
use Rattle.rdb_cells.specs.Keys.{Sayings, Version, text_of}

-- how many bits stand for a byte
abbrev pub bits_of_byte : ℕ
bits_of_byte = 9

-- the most bytes of a key
abbrev pub longest_key : ℕ
longest_key = 255

-- in all bits from this number on all keys are alike
abbrev pub all_bits : ℕ
all_bits = bits_of_byte * (longest_key + 1)

-- one of the nine bits of a byte that may be there: whether it is, and then its own bits
abbrev pub bit_in : Option ℕ → ℕ → Bool
bit_in None place = false
bit_in (Some byte) zero = true
bit_in (Some byte) (suc place) = byte / 2 ^ (7 - place) % 2 == 1

-- the bit of a text with this number
abbrev pub bit_at : List ℕ → ℕ → Bool
bit_at text number = bit_in (slice_get text (number / bits_of_byte)) (number % bits_of_byte)

-- below this number the texts have the same bits
abbrev pub AreAlikeBelow : ℕ → List ℕ → List ℕ → Type 0
AreAlikeBelow number a b = (n : ℕ) → n < number → bit_at a n ≡ bit_at b n

-- this is the first bit in which the texts differ
pub record IsFirstDifference (number : ℕ) (a b : List ℕ) : Type 0 where
  pub alike : AreAlikeBelow number a b
  pub differ : bit_at a number ≢ bit_at b number

-- the bytes of a key that is one text
abbrev pub key_text : List Value → List ℕ
key_text key = option_map_or (λ text. text) (text_of key) []

-- the key is one text, of bytes, which is no longer than a key may be
pub record IsTextKey (key : List Value) : Type 0 where
  pub is_text : IsSome (text_of key)
  pub short : length (key_text key) ≤ longest_key
  pub bytes : (place byte : ℕ) → slice_get (key_text key) place ≡ Some byte → byte < 2 ^ 8

-- the text that is the key of a version, which may be none; and of the one at a place
abbrev pub text_in : Option Version → List ℕ
text_in None = []
text_in (Some version) = key_text version.key

abbrev pub text_at : Sayings → CellRef → List ℕ
text_at said r = text_in (said.version_of r.number)

-- the version's key is one text, of bytes, which is no longer than a key may be
pub record HasTextKey (said : Sayings) (r : CellRef) : Type 0 where
  pub version : Version
  pub there : said.version_of r.number ≡ Some version
  pub is_text : IsSome (text_of version.key)
  pub short : length (text_at said r) ≤ longest_key
  pub bytes : (place byte : ℕ) → slice_get (text_at said r) place ≡ Some byte → byte < 2 ^ 8

-- the texts are the same, or this is the number of the first bit in which they differ
abbrev pub IsParting : List ℕ → List ℕ → Option ℕ → Type 0
IsParting a b None = a ≡ b
IsParting a b (Some number) = IsFirstDifference number a b
