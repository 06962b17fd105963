-- The printed form of a text is one of the ways in which it may be written.
use Rattle.std.proofs.Common.{◌≡◌, ◌≢◌, ℕ, ◌/◌, ◌%◌, ◌<◌, Bool, true, false, ◌||◌, ◌==◌, List, [], ◌∷◌, ◌++◌, refl, sym, ap, ◌∙◌, inl, inr, arith}
use Rattle.std.specs.Prelude.{codes, nat_lt, if◌then◌else◌, flat_map}
use Rattle.std.specs.Char.{digit_value}
use Rattle.std.specs.Fmt.{digit_glyph}
use Rattle.std.specs.Str.Parse.{digits_value}
use Rattle.std.proofs.lemmas.Bool.{or_cases, or_parts, eqb-true, eq-eqb, ltb-true, false≢true}
use Rattle.std.proofs.lemmas.Fmt.{digits_is_IsNumeral, hex_one_digit}
use Rattle.rdb_literals.specs.Printed.{hex_pair, escaped}
use Rattle.rdb_literals.specs.Spelling.{IsPiece, IsSpelled}

-- a digit's value is what was written
glyph_value : (n : ℕ) → n < 16 → digit_value (digit_glyph false n) ≡ n
glyph_value n lt =
    let numeral = digits_is_IsNumeral 16 false (omega arith) (omega arith) n (omega arith) in
    let value : digits_value 16 (digit_glyph false n ∷ []) ≡ n = ap (digits_value 16) (sym (hex_one_digit false n lt)) ∙ numeral.1 in
    omega arith

-- a control byte is below 128
below_128 : (b : ℕ) → (nat_lt b 32 || b == 127) ≡ true → b < 128
below_128 b e = elim (or_cases (nat_lt b 32) (b == 127) e) [ inl p ↦ omega (arith, ltb-true b 32 p) | inr p ↦ omega (arith, eqb-true b 127 p) ]

differs : (b k : ℕ) → (b == k) ≡ false → b ≢ k
differs b k apart e = false≢true (sym apart ∙ eq-eqb b k e)

hex_piece : (b : ℕ) → b < 128 → IsPiece (codes "\\x" ++ hex_pair b) b
hex_piece b small =
    let high = glyph_value (b / 16) (omega arith) in
    let low = glyph_value (b % 16) (omega arith) in
    (refl, refl, omega arith, omega arith, omega arith, small)

printed_piece : (b : ℕ) → IsPiece (escaped b) b
printed_piece b = by_tests (b == 34 || b == 92) (nat_lt b 32 || b == 127) refl refl
  where
    by_tests : (t u : Bool) → (b == 34 || b == 92) ≡ t → (nat_lt b 32 || b == 127) ≡ u → IsPiece (if t then codes "\\" ++ b ∷ [] else (if u then codes "\\x" ++ hex_pair b else b ∷ [])) b
    by_tests true u te ue = (refl, refl, elim (or_cases (b == 34) (b == 92) te) [ inl p ↦ inl (eqb-true b 34 p) | inr p ↦ inr (eqb-true b 92 p) ])
    by_tests false true te ue = hex_piece b (below_128 b ue)
    by_tests false false te ue = let parts = or_parts (b == 34) (b == 92) te in (refl, differs b 34 parts.0, differs b 92 parts.1)

pub printed_spelled : (words : List ℕ) → IsSpelled (flat_map escaped words) words
printed_spelled [] = refl
printed_spelled (b ∷ words) = (escaped b, flat_map escaped words, refl, printed_piece b, printed_spelled words)
