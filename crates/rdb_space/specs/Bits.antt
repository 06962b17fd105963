-- The bits of words of 64.
use Rattle.std.specs.Prelude.{◌≡◌, ◌≢◌, ◌<◌, ◌≤◌, ℕ, Bool, true, false}
use Rattle.std.specs.Int.{bit_at}

-- how many bits a word has
abbrev pub word_bits : ℕ
word_bits = 64

-- the bit that stands for a choice
abbrev pub bit_of : Bool → ℕ
bit_of true = 1
bit_of false = 0

-- the word with this bit at the place, and all others as they were
pub record WithBit (before after place : ℕ) (is_set : Bool) : Type 0 where
  pub here : bit_at after place ≡ bit_of is_set
  pub elsewhere : (i : ℕ) → i < word_bits → i ≢ place → bit_at after i ≡ bit_at before i

-- the lowest bit from a place on that is set
pub record IsFirstBit (word from place : ℕ) : Type 0 where
  pub above : from ≤ place
  pub within : place < word_bits
  pub set : bit_at word place ≡ 1
  pub first : (lower : ℕ) → from ≤ lower → lower < place → bit_at word lower ≡ 0
