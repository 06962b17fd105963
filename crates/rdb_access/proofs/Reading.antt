-- A field that is read is the row's.
use Rattle.std.proofs.Common.{◌≡◌, ℕ, zero, suc, ◌-◌, ◌*◌, ◌^◌, ◌<◌, ◌≤◌, Bool, true, false, ◌&&◌, ◌==◌, if◌then◌else◌, List, [], ◌∷◌, ◌++◌, length, take, drop, Some, slice_get, refl, sym, ap, ◌∙◌, arith, length-append, ℤ, pos, neg_ℤ}
use Rattle.std.specs.Prelude.{nat_le, nat_lt, int_le, negsuc, ◌-ℤ◌}
use Rattle.std.proofs.lemmas.Bool.{le-ltb, lt-ltb, false≢true}
use Rattle.std.proofs.lemmas.Bool.Decides.{nat_tests}
use Rattle.std.proofs.lemmas.Int.{ints}
use Rattle.std.proofs.lemmas.List.{take_at}
use Rattle.byteorder.specs.Endian.{little_number, twos_complement}
use Rattle.byteorder.specs.Numbers.{little_number-reads_back}
use Rattle.rdb_base.specs.declared.value.Leaf.TheVariants as leaf
use Rattle.rdb_base.specs.declared.value.Element.{Element}
use Rattle.rdb_base.specs.declared.value.Value.{Value}
use Rattle.rdb_base.specs.declared.value.Value.TheVariants as value
use Rattle.rdb_schema.specs.declared.schema.FieldType.TheVariants as ty
use Rattle.rdb_schema.specs.Values.{num_holds}
use Rattle.rdb_schema.specs.declared.types.ElementType.{ElementType}
use Rattle.rdb_schema.specs.declared.types.ValueType.{ValueType}
use Rattle.rdb_schema.specs.declared.types.ValueType.TheVariants as values
use Rattle.rdb_schema.specs.Types.{value_fits, row_fits}
use Rattle.rdb_schema.specs.Encoding.{pattern, number_bytes, vector_bytes, value_bytes, row_bytes}
use Rattle.rdb_access.specs.Walk.{number_from, number_by, number_in, after_values, before, items_by, items_in, text_by, text_in}
use Rattle.rdb_schema.proofs.EncodingLengths.{length-number}
use Rattle.rdb_access.proofs.Pairs.{first_of, second_of}
use Rattle.rdb_access.proofs.Walking.{value_there, bytes_there, value_step}

-- a number's range, by the half of all patterns
abbrev pub InRange : Bool → ℕ → ℤ → Type 0
InRange true half (pos m) = m < half
InRange true half (negsuc k) = k < half
InRange false half (pos m) = m < 2 * half
InRange false half (negsuc k) = ⊥

abbrev Holds : Bool → ℕ → ℤ → Bool
Holds true h n = int_le (neg_ℤ (pos (suc h))) n && int_le n (pos h)
Holds false h n = int_le (pos 0) n && int_le n (pos (2 * suc h - 1))

pub in_range : (signed : Bool) (h : ℕ) (n : ℤ) → Holds signed h n ≡ true → InRange signed (suc h) n
in_range true h (pos m) e = let b = second_of (int_le (neg_ℤ (pos (suc h))) (pos m)) (int_le (pos m) (pos h)) e in grind (arith, nat_tests, ints)
in_range true h (negsuc k) e = let b = first_of (int_le (neg_ℤ (pos (suc h))) (negsuc k)) (int_le (negsuc k) (pos h)) e in grind (arith, nat_tests, ints)
in_range false h (pos m) e = let b = second_of (int_le (pos 0) (pos m)) (int_le (pos m) (pos (2 * suc h - 1))) e in grind (arith, nat_tests, ints)
in_range false h (negsuc k) e = absurd (cc)

-- a number by its pattern
abbrev by_sign : Bool → ℕ → ℕ → ℤ
by_sign signed w x = if signed then twos_complement w x else pos x

pub pattern_fits : (signed : Bool) (w : ℕ) (n : ℤ) (half : ℕ) → 256 ^ w ≡ 2 * half → InRange signed half n → pattern w n < 256 ^ w
pattern_fits true w (pos m) half whole range = omega arith
pattern_fits true w (negsuc k) half whole range = omega arith
pattern_fits false w (pos m) half whole range = omega arith
pattern_fits false w (negsuc k) half whole range = absurd range

sign_back : (signed : Bool) (w : ℕ) (n : ℤ) (half : ℕ) → 2 ^ (8 * w - 1) ≡ half → 2 ^ (8 * w) ≡ 2 * half → 256 ^ w ≡ 2 * half → InRange signed half n → by_sign signed w (pattern w n) ≡ n
sign_back true w (pos m) half at_half twice whole range =
    let test : nat_lt m (2 ^ (8 * w - 1)) ≡ true = lt-ltb m (2 ^ (8 * w - 1)) (omega arith) in
    ap (λ b. if b then pos m else pos m -ℤ pos (2 ^ (8 * w))) test
sign_back true w (negsuc k) half at_half twice whole range =
    let test : nat_lt (256 ^ w - suc k) (2 ^ (8 * w - 1)) ≡ false = le-ltb (256 ^ w - suc k) (2 ^ (8 * w - 1)) (omega arith) in
    ap (λ b. if b then pos (256 ^ w - suc k) else pos (256 ^ w - suc k) -ℤ pos (2 ^ (8 * w))) test ∙ below (256 ^ w) (2 ^ (8 * w)) k (whole ∙ sym twice) (omega arith)
  where
    below : (a b k : ℕ) → a ≡ b → suc k ≤ a → pos (a - suc k) -ℤ pos b ≡ negsuc k
    below a b k e le = omega (arith, ints)
sign_back false w (pos m) half at_half twice whole range = refl
sign_back false w (negsuc k) half at_half twice whole range = absurd range

pub room_test : (w n : ℕ) → 1 ≤ w → w ≤ 8 → w ≤ n → (nat_lt 0 w && (nat_le w 8 && nat_le w n)) ≡ true
room_test w n low high room = grind (arith, nat_tests)

back_at : (signed : Bool) (w : ℕ) (n : ℤ) (rest : List ℕ) (half : ℕ) → 1 ≤ w → w ≤ 8 → 2 ^ (8 * w - 1) ≡ half → 2 ^ (8 * w) ≡ 2 * half → 256 ^ w ≡ 2 * half → InRange signed half n
    → number_from w signed (number_bytes w n ++ rest) ≡ n
back_at signed w n rest half low high at_half twice whole range =
    let fits : pattern w n < 256 ^ w = pattern_fits signed w n half whole range in
    let number : little_number w (number_bytes w n ++ rest) ≡ pattern w n = little_number-reads_back w (pattern w n) rest fits in
    let room : w ≤ length (number_bytes w n ++ rest) = omega (arith, length-append (number_bytes w n) rest, length-number w n) in
    ap (λ b. if b then by_sign signed w (little_number w (number_bytes w n ++ rest)) else pos 0) (room_test w (length (number_bytes w n ++ rest)) low high room)
    ∙ ap (by_sign signed w) number ∙ sign_back signed w n half at_half twice whole range

not_one : (w k : ℕ) → k < w → (w == k) ≡ false
not_one w k lt = grind (arith, nat_tests)

-- no number has more than 8 bytes
pub too_wide : (w : ℕ) (signed : Bool) (n : ℤ) → 8 < w → num_holds w signed n ≡ true → ⊥
too_wide w true n wide e =
    let one = not_one w 1 (omega arith) in
    let two = not_one w 2 (omega arith) in
    let four = not_one w 4 (omega arith) in
    let eight = not_one w 8 wide in
    false≢true (simp (one, two, four, eight) at e)
too_wide w false n wide e =
    let one = not_one w 1 (omega arith) in
    let two = not_one w 2 (omega arith) in
    let four = not_one w 4 (omega arith) in
    let eight = not_one w 8 wide in
    false≢true (simp (one, two, four, eight) at e)

-- a number's bytes give the number
pub number_back : (w : ℕ) (signed : Bool) (n : ℤ) (rest : List ℕ) → num_holds w signed n ≡ true → number_from w signed (number_bytes w n ++ rest) ≡ n
number_back zero true n rest e = absurd (false≢true e)
number_back zero false n rest e = absurd (false≢true e)
number_back (suc zero) true n rest e = back_at true 1 n rest 128 (omega arith) (omega arith) refl refl refl (in_range true 127 n e)
number_back (suc zero) false n rest e = back_at false 1 n rest 128 (omega arith) (omega arith) refl refl refl (in_range false 127 n e)
number_back (suc (suc zero)) true n rest e = back_at true 2 n rest 32768 (omega arith) (omega arith) refl refl refl (in_range true 32767 n e)
number_back (suc (suc zero)) false n rest e = back_at false 2 n rest 32768 (omega arith) (omega arith) refl refl refl (in_range false 32767 n e)
number_back (suc (suc (suc zero))) true n rest e = absurd (false≢true e)
number_back (suc (suc (suc zero))) false n rest e = absurd (false≢true e)
number_back (suc (suc (suc (suc zero)))) true n rest e = back_at true 4 n rest 2147483648 (omega arith) (omega arith) refl refl refl (in_range true 2147483647 n e)
number_back (suc (suc (suc (suc zero)))) false n rest e = back_at false 4 n rest 2147483648 (omega arith) (omega arith) refl refl refl (in_range false 2147483647 n e)
number_back (suc (suc (suc (suc (suc zero))))) true n rest e = absurd (false≢true e)
number_back (suc (suc (suc (suc (suc zero))))) false n rest e = absurd (false≢true e)
number_back (suc (suc (suc (suc (suc (suc zero)))))) true n rest e = absurd (false≢true e)
number_back (suc (suc (suc (suc (suc (suc zero)))))) false n rest e = absurd (false≢true e)
number_back (suc (suc (suc (suc (suc (suc (suc zero))))))) true n rest e = absurd (false≢true e)
number_back (suc (suc (suc (suc (suc (suc (suc zero))))))) false n rest e = absurd (false≢true e)
number_back (suc (suc (suc (suc (suc (suc (suc (suc zero)))))))) true n rest e =
    back_at true 8 n rest 9223372036854775808 (omega arith) (omega arith) refl refl refl (in_range true 9223372036854775807 n e)
number_back (suc (suc (suc (suc (suc (suc (suc (suc zero)))))))) false n rest e =
    back_at false 8 n rest 9223372036854775808 (omega arith) (omega arith) refl refl refl (in_range false 9223372036854775807 n e)
number_back (suc (suc (suc (suc (suc (suc (suc (suc (suc w))))))))) true n rest e = absurd (too_wide (suc (suc (suc (suc (suc (suc (suc (suc (suc w))))))))) true n (omega arith) e)
number_back (suc (suc (suc (suc (suc (suc (suc (suc (suc w))))))))) false n rest e = absurd (too_wide (suc (suc (suc (suc (suc (suc (suc (suc (suc w))))))))) false n (omega arith) e)

-- each value of a row has a type
pub type_there : (k : ℕ) (ts : List ValueType) (vs : List Value) (v : Value) → row_fits ts vs ≡ true → slice_get vs k ≡ Some v → (t : ValueType) × (slice_get ts k ≡ Some t)
type_there k [] [] v all d = absurd (cc)
type_there k [] (y ∷ vs) v all d = absurd (cc)
type_there k (x ∷ ts) [] v all d = absurd (cc)
type_there zero (x ∷ ts) (y ∷ vs) v all d = (x, refl)
type_there (suc k) (x ∷ ts) (y ∷ vs) v all d = type_there k ts vs v (second_of (value_fits x y) (row_fits ts vs) all) d

number_typed : (t : ValueType) (n : ℤ) (rest : List ℕ) → value_fits t (value.Leaf (leaf.Num n)) ≡ true → number_by (Some t) (value_bytes t (value.Leaf (leaf.Num n)) ++ rest) ≡ n
number_typed (values.Leaf (ty.Num w signed)) n rest e = number_back w signed n rest e
number_typed (values.Leaf ty.Str) n rest e = (cc)
number_typed (values.Leaf ty.Box4) n rest e = (cc)
number_typed (values.Leaf (ty.Vector of)) n rest e = (cc)
number_typed (values.Leaf (ty.Struct group)) n rest e = (cc)
number_typed (values.Vector of) n rest e = (cc)
number_typed (values.Group ts) n rest e = (cc)

-- the number that is read in a field is the row's
pub number_field : (ts : List ValueType) (row : List Value) (k : ℕ) (n : ℤ) → row_fits ts row ≡ true → slice_get row k ≡ Some (value.Leaf (leaf.Num n)) → number_in ts k (row_bytes ts row) ≡ n
number_field ts row k n all d =
    let t = type_there k ts row (value.Leaf (leaf.Num n)) all d in
    ap (λ o. number_by o (after_values (take k ts) (row_bytes ts row))) t.1
    ∙ ap (number_by (Some t.0)) (bytes_there k ts row t.0 (value.Leaf (leaf.Num n)) t.1 d all)
    ∙ number_typed t.0 n (row_bytes (drop (suc k) ts) (drop (suc k) row)) (value_there k ts row t.0 (value.Leaf (leaf.Num n)) t.1 d all)

before_back : (a rest : List ℕ) → before (a ++ rest) rest ≡ a
before_back a rest = take_at a rest (length (a ++ rest) - length rest) (omega (arith, length-append a rest))

-- the bytes that are read of a vector are its encoding
pub items_field : (ts : List ValueType) (row : List Value) (k : ℕ) (of : ElementType) (xs : List Element) → row_fits ts row ≡ true
    → slice_get ts k ≡ Some (values.Vector of) → slice_get row k ≡ Some (value.List xs) → items_in ts k (row_bytes ts row) ≡ vector_bytes of xs
items_field ts row k of xs all e d =
    let rest : List ℕ = row_bytes (drop (suc k) ts) (drop (suc k) row) in
    let there : after_values (take k ts) (row_bytes ts row) ≡ vector_bytes of xs ++ rest = bytes_there k ts row (values.Vector of) (value.List xs) e d all in
    ap (λ o. items_by o (after_values (take k ts) (row_bytes ts row))) e ∙ ap (items_by (Some (values.Vector of))) there
    ∙ ap (before (vector_bytes of xs ++ rest)) (value_step (values.Vector of) (value.List xs) rest (value_there k ts row (values.Vector of) (value.List xs) e d all))
    ∙ before_back (vector_bytes of xs) rest

text_typed : (t : ValueType) (words rest : List ℕ) → value_fits t (value.Leaf (leaf.Text words)) ≡ true → text_by (Some t) (value_bytes t (value.Leaf (leaf.Text words)) ++ rest) ≡ words
text_typed (values.Leaf (ty.Num w signed)) words rest e = absurd (false≢true e)
text_typed (values.Leaf ty.Str) words rest e = take_at words rest (length words) refl
text_typed (values.Leaf ty.Box4) words rest e = absurd (false≢true e)
text_typed (values.Leaf (ty.Vector of)) words rest e = absurd (false≢true e)
text_typed (values.Leaf (ty.Struct group)) words rest e = absurd (false≢true e)
text_typed (values.Vector of) words rest e = absurd (false≢true e)
text_typed (values.Group ts) words rest e = absurd (false≢true e)

-- the text that is read in a field is the row's
pub text_field : (ts : List ValueType) (row : List Value) (k : ℕ) (words : List ℕ) → row_fits ts row ≡ true → slice_get row k ≡ Some (value.Leaf (leaf.Text words)) → text_in ts k (row_bytes ts row) ≡ words
text_field ts row k words all d =
    let t = type_there k ts row (value.Leaf (leaf.Text words)) all d in
    ap (λ o. text_by o (after_values (take k ts) (row_bytes ts row))) t.1
    ∙ ap (text_by (Some t.0)) (bytes_there k ts row t.0 (value.Leaf (leaf.Text words)) t.1 d all)
    ∙ text_typed t.0 words (row_bytes (drop (suc k) ts) (drop (suc k) row)) (value_there k ts row t.0 (value.Leaf (leaf.Text words)) t.1 d all)
