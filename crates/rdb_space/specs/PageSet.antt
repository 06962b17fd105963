-- Sets of pages, as bits of words: page i is bit i % 64 of word i / 64.
use Rattle.std.specs.Prelude.{◌≡◌, ◌≢◌, ◌<◌, ◌≤◌, ℕ, ◌+◌, ◌/◌, ◌%◌, List, length, slice_index, Bool}
use Rattle.std.specs.Int.{bit_at}
use Rattle.rdb_space.specs.Bits.{word_bits, bit_of}

-- the words of the largest region
abbrev pub max_words : ℕ
max_words = 256

-- how many words have a bit for each of so many pages
abbrev pub words_for : ℕ → ℕ
words_for pages = (pages + 63) / word_bits

-- 1 where the page is in the set, and 0 where it isn't
abbrev pub member_bit : List ℕ → ℕ → ℕ
member_bit words page = bit_at (slice_index words (page / word_bits)) (page % word_bits)

-- the page was put into the set or taken out, and all others stay
pub record Puts (before after : List ℕ) (page : ℕ) (is_member : Bool) : Type 0 where
  pub count : length after ≡ length before
  pub here : member_bit after page ≡ bit_of is_member
  pub elsewhere : (other : ℕ) → other ≢ page → member_bit after other ≡ member_bit before other

-- the lowest page of the set from a number on
pub record IsFirstMember (words : List ℕ) (from page : ℕ) : Type 0 where
  pub above : from ≤ page
  pub member : member_bit words page ≡ 1
  pub first : (lower : ℕ) → from ≤ lower → lower < page → member_bit words lower ≡ 0
