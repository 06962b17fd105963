-- The bits of a free map.
use Rattle.std.proofs.Common.{◌≡◌, ◌<◌, ◌≤◌, ◌-◌, ◌*◌, ◌%◌, ◌^◌, ℕ, min, bit_and, sym, ap, ◌∙◌, arith, inl, inr}
use Rattle.std.specs.Int.{bit_at, trailing_zeros, w64}
use Rattle.std.proofs.lemmas.Bool.{cases_lt}
use Rattle.rdb_space.specs.Bits.{IsFirstBit}
use Rattle.std.proofs.lemmas.Nat.Bits.{bit_at_and, bit_at-zero, bit_at-lt, bit_at_mask_inside, bit_at_mask_below, ones_shl, bit_at-trailing_zeros}

at_most_one : (b : ℕ) → b < 2 → min b 1 ≡ b
at_most_one b h = omega arith

none_of : (b : ℕ) → min b 0 ≡ 0
none_of b = omega arith

pub not_both : (b : ℕ) → b ≡ 0 → b ≡ 1 → ⊥
not_both b zero one = omega arith

-- the word with the bits below a place cleared
masked_inside : (free left from i : ℕ) → left ≡ bit_and free ((2 ^ 64 - 1) * 2 ^ from % 2 ^ 64) → from < 64 → from ≤ i → i < 64 → bit_at left i ≡ bit_at free i
masked_inside free left from i is small low high =
    let both = ap (λ (n : ℕ). bit_at n i) (is ∙ ap (λ (m : ℕ). bit_and free m) (ones_shl 64 from (omega arith))) ∙ bit_at_and free (2 ^ 64 - 2 ^ from) i in
    let one = bit_at_mask_inside from 64 i low high in
    let bit = bit_at-lt free i in
    both ∙ ap (λ (b : ℕ). min (bit_at free i) b) one ∙ at_most_one (bit_at free i) bit

masked_below : (free left from i : ℕ) → left ≡ bit_and free ((2 ^ 64 - 1) * 2 ^ from % 2 ^ 64) → from < 64 → i < from → bit_at left i ≡ 0
masked_below free left from i is small low =
    let both = ap (λ (n : ℕ). bit_at n i) (is ∙ ap (λ (m : ℕ). bit_and free m) (ones_shl 64 from (omega arith))) ∙ bit_at_and free (2 ^ 64 - 2 ^ from) i in
    both ∙ ap (λ (b : ℕ). min (bit_at free i) b) (bit_at_mask_below from 64 i low) ∙ none_of (bit_at free i)

pub none_set : (free left from i : ℕ) → left ≡ bit_and free ((2 ^ 64 - 1) * 2 ^ from % 2 ^ 64) → left ≡ 0 → from < 64 → from ≤ i → i < 64 → bit_at free i ≡ 0
none_set free left from i is zero small low high =
    sym (masked_inside free left from i is small low high) ∙ ap (λ (n : ℕ). bit_at n i) zero ∙ bit_at-zero i

-- the lowest bit from a place on
pub first_set : (free left from : ℕ) → left ≡ bit_and free ((2 ^ 64 - 1) * 2 ^ from % 2 ^ 64) → from < 64 → 0 < left → left < 2 ^ 64 → IsFirstBit free from (trailing_zeros w64 left)
first_set free left from is small some fits =
    let at = bit_at-trailing_zeros w64 left some fits in
    let high : trailing_zeros w64 left < 64 = at.0 in
    let low : from ≤ trailing_zeros w64 left = elim (cases_lt (trailing_zeros w64 left) from) [
      | inl below ↦ absurd (not_both (bit_at left (trailing_zeros w64 left)) (masked_below free left from (trailing_zeros w64 left) is small below) at.1)
      | inr from_on ↦ from_on
    ] in record {
      above = low;
      within = high;
      set = sym (masked_inside free left from (trailing_zeros w64 left) is small low high) ∙ at.1;
      first = λ lower from_on below. sym (masked_inside free left from lower is small from_on (omega arith)) ∙ at.2 lower below;
    }

-- a word that isn't zero has a bit that is set
pub some_set : (word : ℕ) → 0 < word → word < 2 ^ 64 → (i : ℕ) × (i < 64) × (bit_at word i ≡ 1)
some_set word some fits = let at = bit_at-trailing_zeros w64 word some fits in (trailing_zeros w64 word, at.0, at.1)

-- and a word with a bit that is set isn't zero
pub is_some : (word i : ℕ) → bit_at word i ≡ 1 → 0 < word
is_some word i one = elim (cases_lt 0 word) [
  | inl some ↦ some
  | inr none ↦ let zero : word ≡ 0 = omega arith in absurd (not_both (bit_at word i) (ap (λ (n : ℕ). bit_at n i) zero ∙ bit_at-zero i) one)
]
