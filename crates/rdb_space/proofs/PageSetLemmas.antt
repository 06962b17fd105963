-- Sets of pages, word by word.
use Rattle.std.proofs.Common.{◌≡◌, ◌≢◌, ◌<◌, ◌≤◌, ◌+◌, ◌*◌, ◌/◌, ◌%◌, ℕ, List, length, set, slice_index, Bool, refl, sym, ap, ◌∙◌, arith, inl, inr, length-set}
use Rattle.std.specs.Int.{bit_at}
use Rattle.std.proofs.Permutation.{which}
use Rattle.std.proofs.lemmas.Bool.{cases_lt}
use Rattle.std.proofs.lemmas.List.{get_or-set_same, get_or-set_other, get_or_past}
use Rattle.std.proofs.lemmas.Nat.Bits.{bit_at-zero}
use Rattle.rdb_space.specs.Bits.{WithBit, IsFirstBit}
use Rattle.rdb_space.specs.PageSet.{member_bit, Puts, IsFirstMember}

same_place : (a b : ℕ) → a / 64 ≡ b / 64 → a % 64 ≡ b % 64 → a ≡ b
same_place a b p q = omega arith

pub puts : (words : List ℕ) (page word : ℕ) (is_member : Bool) → page < 64 * length words → WithBit (slice_index words (page / 64)) word (page % 64) is_member → Puts words (set words (page / 64) word) page is_member
puts words page word is_member within bits = record {
  count = length-set words (page / 64) word;
  here = ap (λ (w : ℕ). bit_at w (page % 64)) (get_or-set_same words (page / 64) word 0 (omega arith)) ∙ bits.here;
  elsewhere = λ other apart. elim (which (other / 64) (page / 64)) [
    | inl same ↦
        let place : other % 64 ≢ page % 64 = λ e. apart (same_place other page same e) in
        ap (λ (k : ℕ). bit_at (slice_index (set words (page / 64) word) k) (other % 64)) same
        ∙ ap (λ (w : ℕ). bit_at w (other % 64)) (get_or-set_same words (page / 64) word 0 (omega arith))
        ∙ bits.elsewhere (other % 64) (omega arith) place
        ∙ sym (ap (λ (k : ℕ). bit_at (slice_index words k) (other % 64)) same)
    | inr different ↦ ap (λ (w : ℕ). bit_at w (other % 64)) (get_or-set_other words (page / 64) (other / 64) word 0 different)
  ];
}

-- a page past the last word is in no set
pub past : (words : List ℕ) (page : ℕ) → length words ≤ page / 64 → member_bit words page ≡ 0
past words page late = ap (λ (w : ℕ). bit_at w (page % 64)) (get_or_past words (page / 64) 0 late) ∙ bit_at-zero (page % 64)

-- how far a search for a page has come: it goes on at a bit of a word, and no page before it is in the set
pub record Searched (words : List ℕ) (start at from : ℕ) : Type 0 where
  pub above : start ≤ 64 * at + from
  pub small : from < 64
  pub passed : (page : ℕ) → start ≤ page → page < 64 * at + from → member_bit words page ≡ 0

pub search-first : (words : List ℕ) (start : ℕ) → Searched words start (start / 64) (start % 64)
search-first words start = record {
  above = omega arith;
  small = omega arith;
  passed = λ page low high. absurd (omega arith);
}

in_word : (words : List ℕ) (page at i bit : ℕ) → page / 64 ≡ at → page % 64 ≡ i → bit_at (slice_index words at) i ≡ bit → member_bit words page ≡ bit
in_word words page at i bit is_word is_bit e =
    ap (λ (k : ℕ). bit_at (slice_index words k) (page % 64)) is_word ∙ ap (bit_at (slice_index words at)) is_bit ∙ e

pub search-next : (words : List ℕ) (start at from : ℕ) → Searched words start at from → ((i : ℕ) → from ≤ i → i < 64 → bit_at (slice_index words at) i ≡ 0) → Searched words start (at + 1) 0
search-next words start at from so_far none =
    let above = so_far.above in
    let small = so_far.small in
    record {
      above = omega arith;
      small = omega arith;
      passed = λ page low high. elim (cases_lt page (64 * at + from)) [
        | inl before ↦ so_far.passed page low before
        | inr later ↦ in_word words page at (page % 64) 0 (omega arith) refl (none (page % 64) (omega arith) (omega arith))
      ];
    }

pub search-found : (words : List ℕ) (start at from i : ℕ) → Searched words start at from → IsFirstBit (slice_index words at) from i → IsFirstMember words start (64 * at + i)
search-found words start at from i so_far bit =
    let above = so_far.above in
    let low = bit.above in
    let high = bit.within in
    record {
      above = omega arith;
      member = in_word words (64 * at + i) at i 1 (omega arith) (omega arith) bit.set;
      first = λ page after before. elim (cases_lt page (64 * at + from)) [
        | inl passed ↦ so_far.passed page after passed
        | inr later ↦ in_word words page at (page % 64) 0 (omega arith) refl (bit.first (page % 64) (omega arith) (omega arith))
      ];
    }

pub search-end : (words : List ℕ) (start at from : ℕ) → Searched words start at from → length words ≤ at → (page : ℕ) → start ≤ page → member_bit words page ≡ 0
search-end words start at from so_far late page low = elim (cases_lt page (64 * at + from)) [
  | inl before ↦ so_far.passed page low before
  | inr later ↦ past words page (omega arith)
]
