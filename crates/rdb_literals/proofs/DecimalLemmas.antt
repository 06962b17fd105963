-- Printed numbers: what a word of digits is the printed form of.
use Rattle.std.proofs.Common.{◌≡◌, ◌≢◌, ℕ, zero, suc, ◌<◌, ◌≤◌, ◌^◌, List, length, get_or, Option, Some, None, IfSome, IfNone, sym, ap, ◌∙◌, subst, arith, SomeIff, decimal}
use Rattle.std.specs.Str.{IsUtf8}
use Rattle.std.specs.Str.Parse.{IsNumeral, AllDigits, digits_value}
use Rattle.std.proofs.lemmas.Fmt.{decimal-digits_value, decimal_is_IsNumeral, first_decimal, IsAscii-decimal, decimal_digit}
use Rattle.std.proofs.lemmas.Str.{IsUtf8-from_ascii}
use Rattle.std.proofs.lemmas.Str.Parse.{IsNumeralModel, numerals_by_value, tells_digits}

abbrev own : IsNumeralModel (AllDigits 10) (digits_value 10)
own = numerals_by_value (AllDigits 10) tells_digits

-- digits without a leading zero are the printed form of their value
pub printed_by_value : (ds : List ℕ) (r : Option ℕ) → (get_or ds 0 0 ≡ 48 → length ds ≤ 1) → SomeIff r (IsNumeral 10 ds × (digits_value 10 ds < 2 ^ 64)) (digits_value 10 ds) → IfSome r (λ n. (ds ≡ decimal n) × (n < 2 ^ 64))
printed_by_value ds None first h = tt
printed_by_value ds (Some n) first h =
    let same : decimal (digits_value 10 ds) ≡ ds = decimal-digits_value own ds h.0.0.1 h.0.0.0 (λ zero. let short = first zero in let some = h.0.0.0 in omega arith) h.0.1 in
    (sym same ∙ ap decimal (sym h.1), subst (λ (k : ℕ). k < 2 ^ 64) (sym h.1) h.0.1)

-- where they have no value, they are no printed form
pub unprinted_by_value : (ds : List ℕ) (r : Option ℕ) → SomeIff r (IsNumeral 10 ds × (digits_value 10 ds < 2 ^ 64)) (digits_value 10 ds) → IfNone r ((n : ℕ) → n < 2 ^ 64 → ds ≢ decimal n)
unprinted_by_value ds (Some n) h = tt
unprinted_by_value ds None h = λ n small e.
    let d = decimal_is_IsNumeral n small in
    h (subst (λ (text : List ℕ). IsNumeral 10 text × (digits_value 10 text < 2 ^ 64)) (sym e) (d.0, subst (λ (k : ℕ). k < 2 ^ 64) (sym d.1) small))

-- more than one digit with a zero in front is no printed form
pub leading_zero : (n : ℕ) (ds : List ℕ) → n < 2 ^ 64 → ds ≡ decimal n → get_or ds 0 0 ≡ 48 → 1 < length ds → ⊥
leading_zero zero ds small e first long =
    let one : length ds ≡ 1 = ap length e ∙ ap length (decimal_digit 0 (omega arith)) in omega arith
leading_zero (suc n) ds small e first long =
    let high : 48 < get_or (decimal (suc n)) 0 0 = first_decimal (suc n) (omega arith) small in
    let same : get_or ds 0 0 ≡ get_or (decimal (suc n)) 0 0 = ap (λ (xs : List ℕ). get_or xs 0 0) e in omega arith

-- a printed form is text
pub printed_is_text : (n : ℕ) (ds : List ℕ) → n < 2 ^ 64 → ds ≡ decimal n → IsUtf8 ds
printed_is_text n ds small e = subst IsUtf8 (sym e) (IsUtf8-from_ascii (decimal n) (IsAscii-decimal n small))

-- what `printed` says, where a word of the digits was read
pub IfNone-is : {X : Type 0} (r : Option X) (P : Type 0) → P → IfNone r P
IfNone-is None P h = h
IfNone-is (Some x) P h = tt
