-- How numbers with a sign are read from the front of a text.
use mir.Syntax.{w128}
use mir.Val.{SFits, to_z, of_z}
use Rattle.std.proofs.Common.{◌≡◌, ℕ, zero, suc, ℤ, ◌<◌, ◌^◌, List, [], ◌∷◌, ◌++◌, Bool, true, false, refl, sym, ap, ◌∙◌, subst, arith}
use Rattle.std.specs.Prelude.{codes}
use Rattle.std.specs.Str.Parse.{IsNumeral, digits_value}
use Rattle.std.proofs.lemmas.Int.{to_z-of_z}
use Rattle.std.proofs.lemmas.Str.Parse.{digit_from_value}
use Rattle.rdb_literals.specs.Spelling.{signed, with_sign}
use Rattle.rdb_literals.specs.SpelledValues.{IsNumberText}

-- behind a `-` stand the digits of a negative number
pub record Digits (text rest : List ℕ) (negative : Bool) (n : ℤ) : Type 0 where
  pub digits : List ℕ
  pub numeral : IsNumeral 10 digits
  pub small : digits_value 10 digits < 2 ^ 64
  pub value : n ≡ with_sign negative (digits_value 10 digits)
  pub e : text ≡ digits ++ rest

pub minus_number : (text behind spelled rest : List ℕ) (n : ℤ) → text ≡ codes "-" ++ behind → IsNumberText spelled n → text ≡ spelled ++ rest → Digits behind rest true n
minus_number text behind spelled rest n minus is e = by_sign is.0 is.1 is.2 is.3 is.4 is.5
  where
    by_sign : (negative : Bool) (digits : List ℕ) → spelled ≡ signed negative digits → IsNumeral 10 digits → digits_value 10 digits < 2 ^ 64 → n ≡ with_sign negative (digits_value 10 digits) → Digits behind rest true n
    by_sign true digits s numeral small value =
        let same : 45 ∷ behind ≡ 45 ∷ (digits ++ rest) = sym minus ∙ e ∙ ap (λ (t : List ℕ). t ++ rest) s in
        record { digits = digits; numeral = numeral; small = small; value = value; e = cc }
    by_sign false [] s numeral small value = absurd (omega (arith, numeral.0))
    by_sign false (d ∷ ds) s numeral small value =
        let same : 45 ∷ behind ≡ d ∷ (ds ++ rest) = sym minus ∙ e ∙ ap (λ (t : List ℕ). t ++ rest) s in
        let head : 45 ≡ d = cc in
        let range = digit_from_value d numeral.1.0 in
        absurd (omega arith)

pub plain_number : (text spelled rest : List ℕ) (n : ℤ) → ((behind : List ℕ) → text ≡ codes "-" ++ behind → ⊥) → IsNumberText spelled n → text ≡ spelled ++ rest → Digits text rest false n
plain_number text spelled rest n none is e = by_sign is.0 is.1 is.2 is.3 is.4 is.5
  where
    by_sign : (negative : Bool) (digits : List ℕ) → spelled ≡ signed negative digits → IsNumeral 10 digits → digits_value 10 digits < 2 ^ 64 → n ≡ with_sign negative (digits_value 10 digits) → Digits text rest false n
    by_sign true digits s numeral small value = absurd (none (digits ++ rest) (e ∙ ap (λ (t : List ℕ). t ++ rest) s))
    by_sign false digits s numeral small value = record { digits = digits; numeral = numeral; small = small; value = value; e = e ∙ ap (λ (t : List ℕ). t ++ rest) s }

-- the digits behind a `-` are a negative number
pub minus_read : (text behind rest digits : List ℕ) (size : ℕ) (n : ℤ) → text ≡ codes "-" ++ behind → IsNumeral 10 digits → digits_value 10 digits ≡ size → size < 2 ^ 64 → n ≡ with_sign true size → behind ≡ digits ++ rest
    → (spelled : List ℕ) × IsNumberText spelled n × (text ≡ spelled ++ rest)
minus_read text behind rest digits size n minus numeral value small is e = (
  45 ∷ digits,
  (true, digits, refl, numeral, subst (λ (m : ℕ). m < 2 ^ 64) (sym value) small, is ∙ ap (with_sign true) (sym value)),
  minus ∙ ap (λ (t : List ℕ). 45 ∷ t) e,
)

pub plain_read : (text rest digits : List ℕ) (size : ℕ) (n : ℤ) → IsNumeral 10 digits → digits_value 10 digits ≡ size → size < 2 ^ 64 → n ≡ with_sign false size → text ≡ digits ++ rest
    → (spelled : List ℕ) × IsNumberText spelled n × (text ≡ spelled ++ rest)
plain_read text rest digits size n numeral value small is e = (digits, (false, digits, refl, numeral, subst (λ (m : ℕ). m < 2 ^ 64) (sym value) small, is ∙ ap (with_sign false) (sym value)), e)

-- a number has far fewer than 128 bits
number_fits : (text : List ℕ) (n : ℤ) → IsNumberText text n → SFits w128 n
number_fits text n is = subst (SFits w128) (sym is.5) (by_sign is.0 (digits_value 10 is.1) is.4)
  where
    by_sign : (negative : Bool) (size : ℕ) → size < 2 ^ 64 → SFits w128 (with_sign negative size)
    by_sign false size small = record { sfits = omega arith }
    by_sign true zero small = record { sfits = omega arith }
    by_sign true (suc size) small = record { sfits = omega arith }

pub number_back : (text : List ℕ) (n : ℤ) → IsNumberText text n → to_z w128 (of_z w128 n) ≡ n
number_back text n is = to_z-of_z w128 n (number_fits text n is)
