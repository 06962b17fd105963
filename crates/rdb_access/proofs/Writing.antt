-- A number that is written over a field's leaves the encoding of the same row but for that field.
use Rattle.std.proofs.Common.{◌≡◌, ℕ, zero, suc, ◌-◌, ◌≤◌, Bool, true, false, ◌&&◌, List, [], ◌∷◌, ◌++◌, length, take, drop, Option, Some, None, slice_get, refl, sym, ap, ◌∙◌, append_assoc, arith, length-append, length-drop, ℤ, if◌then◌else◌, inl, inr}
use Rattle.std.specs.Prelude.{slice_set}
use Rattle.std.proofs.lemmas.Bool.{false≢true, cases_lt}
use Rattle.std.proofs.lemmas.List.{take_at, drop_at, take-set, drop-set-lt, drop_all, take_all, append-nil}
use Rattle.byteorder.specs.Endian.{little_bytes}
use Rattle.rdb_base.specs.declared.value.Leaf.TheVariants as leaf
use Rattle.rdb_base.specs.declared.value.Value.{Value}
use Rattle.rdb_base.specs.declared.value.Value.TheVariants as value
use Rattle.rdb_schema.specs.declared.schema.FieldType.TheVariants as ty
use Rattle.rdb_schema.specs.Values.{num_holds}
use Rattle.rdb_schema.specs.declared.types.ValueType.{ValueType}
use Rattle.rdb_schema.specs.declared.types.ValueType.TheVariants as values
use Rattle.rdb_schema.specs.Types.{value_fits, row_fits, number_fits}
use Rattle.rdb_schema.specs.Encoding.{pattern, number_bytes, value_bytes, row_bytes}
use Rattle.rdb_schema.specs.Proper.{EachIs, IsProperValue}
use Rattle.rdb_schema.specs.Encodes.{Encodes}
use Rattle.rdb_access.specs.Walk.{after_values, overwritten, overwritten_by, with_number_by, with_number}
use Rattle.rdb_schema.proofs.EncodingLengths.{length-number}
use Rattle.rdb_access.proofs.Pairs.{first_of, second_of}
use Rattle.rdb_access.proofs.Walking.{value_there, bytes_there}
use Rattle.rdb_access.proofs.Reading.{too_wide, room_test}

-- a row's encoding is that of the values before a place, of the one there, and of those after it
row_parts : (k : ℕ) (ts : List ValueType) (vs : List Value) (t : ValueType) (v : Value) → slice_get ts k ≡ Some t → slice_get vs k ≡ Some v
    → row_bytes ts vs ≡ row_bytes (take k ts) (take k vs) ++ (value_bytes t v ++ row_bytes (drop (suc k) ts) (drop (suc k) vs))
row_parts k [] vs t v e d = absurd (cc)
row_parts k (x ∷ ts) [] t v e d = absurd (cc)
row_parts zero (x ∷ ts) (y ∷ vs) t v e d =
    let same_type : x ≡ t = cc in
    let same_value : y ≡ v = cc in
    λ i. value_bytes (same_type i) (same_value i) ++ row_bytes ts vs
row_parts (suc k) (x ∷ ts) (y ∷ vs) t v e d =
    ap (λ xs. value_bytes x y ++ xs) (row_parts k ts vs t v e d)
    ∙ sym (append_assoc (value_bytes x y) (row_bytes (take k ts) (take k vs)) (value_bytes t v ++ row_bytes (drop (suc k) ts) (drop (suc k) vs)))

set_there : {A : Type 0} (xs : List A) (k : ℕ) (x y : A) → slice_get xs k ≡ Some x → slice_get (slice_set xs k y) k ≡ Some y
set_there [] k x y e = absurd (cc)
set_there (z ∷ xs) zero x y e = refl
set_there (z ∷ xs) (suc k) x y e = set_there xs k x y e

-- the same of the row with another value at the place
row_parts_set : (k : ℕ) (ts : List ValueType) (vs : List Value) (t : ValueType) (v w : Value) → slice_get ts k ≡ Some t → slice_get vs k ≡ Some v
    → row_bytes ts (slice_set vs k w) ≡ row_bytes (take k ts) (take k vs) ++ (value_bytes t w ++ row_bytes (drop (suc k) ts) (drop (suc k) vs))
row_parts_set k ts vs t v w e d =
    row_parts k ts (slice_set vs k w) t w e (set_there vs k v w d)
    ∙ ap (λ front. row_bytes (take k ts) front ++ (value_bytes t w ++ row_bytes (drop (suc k) ts) (drop (suc k) (slice_set vs k w)))) (take-set vs k w)
    ∙ ap (λ back. row_bytes (take k ts) (take k vs) ++ (value_bytes t w ++ row_bytes (drop (suc k) ts) back)) (drop-set-lt (suc k) vs k w (omega arith))

-- a row with another value of the type at a place has a value of each type
fits_set : (k : ℕ) (ts : List ValueType) (vs : List Value) (t : ValueType) (w : Value) → slice_get ts k ≡ Some t → value_fits t w ≡ true → row_fits ts vs ≡ true → row_fits ts (slice_set vs k w) ≡ true
fits_set k [] vs t w e new all = absurd (cc)
fits_set k (x ∷ ts) [] t w e new all = absurd (false≢true all)
fits_set zero (x ∷ ts) (y ∷ vs) t w e new all =
    let same_type : x ≡ t = cc in
    ap (λ s. value_fits s w && row_fits ts vs) same_type ∙ ap (λ b. b && row_fits ts vs) new ∙ second_of (value_fits x y) (row_fits ts vs) all
fits_set (suc k) (x ∷ ts) (y ∷ vs) t w e new all =
    ap (λ b. b && row_fits ts (slice_set vs k w)) (first_of (value_fits x y) (row_fits ts vs) all) ∙ fits_set k ts vs t w e new (second_of (value_fits x y) (row_fits ts vs) all)

each_set : {A : Type 0} (P : A → Type 0) (xs : List A) (k : ℕ) (y : A) → P y → EachIs P xs → EachIs P (slice_set xs k y)
each_set P [] k y new all = tt
each_set P (x ∷ xs) zero y new all = (new, all.1)
each_set P (x ∷ xs) (suc k) y new all = (all.0, each_set P xs k y new all.1)

-- where a number is one of a field's type, that is a number's
number_type : (o : Option ValueType) (n : ℤ) → number_fits o n ≡ true → (w : ℕ) × (signed : Bool) × (o ≡ Some (values.Leaf (ty.Num w signed))) × (num_holds w signed n ≡ true)
number_type None n e = absurd (false≢true e)
number_type (Some (values.Leaf (ty.Num w signed))) n e = (w, signed, refl, e)
number_type (Some (values.Leaf ty.Str)) n e = absurd (false≢true e)
number_type (Some (values.Leaf ty.Box4)) n e = absurd (false≢true e)
number_type (Some (values.Leaf (ty.Vector of))) n e = absurd (false≢true e)
number_type (Some (values.Leaf (ty.Struct group))) n e = absurd (false≢true e)
number_type (Some (values.Vector of)) n e = absurd (false≢true e)
number_type (Some (values.Group ts)) n e = absurd (false≢true e)

-- each type of a row has a value
value_at : (k : ℕ) (ts : List ValueType) (vs : List Value) (t : ValueType) → row_fits ts vs ≡ true → slice_get ts k ≡ Some t → (v : Value) × (slice_get vs k ≡ Some v)
value_at k [] vs t all e = absurd (cc)
value_at k (x ∷ ts) [] t all e = absurd (false≢true all)
value_at zero (x ∷ ts) (y ∷ vs) t all e = (y, refl)
value_at (suc k) (x ∷ ts) (y ∷ vs) t all e = value_at k ts vs t (second_of (value_fits x y) (row_fits ts vs) all) e

-- a value of a number's type takes its bytes
number_width : (w : ℕ) (signed : Bool) (v : Value) → value_fits (values.Leaf (ty.Num w signed)) v ≡ true → length (value_bytes (values.Leaf (ty.Num w signed)) v) ≡ w
number_width w signed (value.Leaf (leaf.Num n)) e = length-number w n
number_width w signed (value.Leaf (leaf.Text words)) e = absurd (false≢true e)
number_width w signed (value.Leaf (leaf.Rect box)) e = absurd (false≢true e)
number_width w signed (value.List es) e = absurd (false≢true e)
number_width w signed (value.Group ls) e = absurd (false≢true e)

no_width : (signed : Bool) (n : ℤ) → num_holds 0 signed n ≡ true → ⊥
no_width true n e = false≢true e
no_width false n e = false≢true e

-- over a number's bytes stand the new number's
over : (w : ℕ) (signed : Bool) (n : ℤ) (old rest : List ℕ) → num_holds w signed n ≡ true → 1 ≤ w → w ≤ 8 → length old ≡ w → overwritten w (pattern w n) (old ++ rest) ≡ number_bytes w n ++ rest
over w signed n old rest holds low high size =
    let room : w ≤ length (old ++ rest) = omega (arith, length-append old rest) in
    ap (λ b. if b then little_bytes w (pattern w n) ++ drop w (old ++ rest) else (old ++ rest)) (room_test w (length (old ++ rest)) low high room)
    ∙ ap (λ xs. number_bytes w n ++ xs) (drop_at old rest w size)

-- the same in a row
placed : (w : ℕ) (signed : Bool) (n : ℤ) (front old rest : List ℕ) → num_holds w signed n ≡ true → 1 ≤ w → w ≤ 8 → length old ≡ w
    → with_number_by (Some (values.Leaf (ty.Num w signed))) n (length (front ++ (old ++ rest)) - length (old ++ rest)) (front ++ (old ++ rest)) ≡ front ++ (number_bytes w n ++ rest)
placed w signed n front old rest holds low high size =
    let start : length front ≡ length (front ++ (old ++ rest)) - length (old ++ rest) = omega (arith, length-append front (old ++ rest)) in
    let before : take (length (front ++ (old ++ rest)) - length (old ++ rest)) (front ++ (old ++ rest)) ≡ front = take_at front (old ++ rest) _ start in
    let behind : drop (length (front ++ (old ++ rest)) - length (old ++ rest)) (front ++ (old ++ rest)) ≡ old ++ rest = drop_at front (old ++ rest) _ start in
    ap (λ xs. xs ++ overwritten w (pattern w n) (drop (length (front ++ (old ++ rest)) - length (old ++ rest)) (front ++ (old ++ rest)))) before
    ∙ ap (λ xs. front ++ overwritten w (pattern w n) xs) behind ∙ ap (λ xs. front ++ xs) (over w signed n old rest holds low high size)

-- a number's width is 1 to 8
width_low : (w : ℕ) (signed : Bool) (n : ℤ) → num_holds w signed n ≡ true → 1 ≤ w
width_low zero signed n e = absurd (no_width signed n e)
width_low (suc w) signed n e = omega arith

width_high : (w : ℕ) (signed : Bool) (n : ℤ) → num_holds w signed n ≡ true → w ≤ 8
width_high w signed n e = elim (cases_lt w 9) [
  | inl low ↦ omega arith
  | inr high ↦ absurd (too_wide w signed n (omega arith) e)
]

-- a number that is written over that in a field leaves the encoding of the row with it there
number_written : (ts : List ValueType) (row : List Value) (k : ℕ) (n : ℤ) → row_fits ts row ≡ true → number_fits (slice_get ts k) n ≡ true
    → with_number ts k n (row_bytes ts row) ≡ row_bytes ts (slice_set row k (value.Leaf (leaf.Num n)))
number_written ts row k n all new =
    let t = number_type (slice_get ts k) n new in
    let w = t.0 in
    let signed = t.1 in
    let ty = values.Leaf (ty.Num w signed) in
    let v = value_at k ts row ty all t.2 in
    let front = row_bytes (take k ts) (take k row) in
    let old = value_bytes ty v.0 in
    let rest = row_bytes (drop (suc k) ts) (drop (suc k) row) in
    let whole : row_bytes ts row ≡ front ++ (old ++ rest) = row_parts k ts row ty v.0 t.2 v.1 in
    let there : after_values (take k ts) (row_bytes ts row) ≡ old ++ rest = bytes_there k ts row ty v.0 t.2 v.1 all in
    ap (λ o. with_number_by o n (length (row_bytes ts row) - length (after_values (take k ts) (row_bytes ts row))) (row_bytes ts row)) t.2
    ∙ ap (λ xs. with_number_by (Some ty) n (length (row_bytes ts row) - length xs) (row_bytes ts row)) there
    ∙ ap (λ xs. with_number_by (Some ty) n (length xs - length (old ++ rest)) xs) whole
    ∙ placed w signed n front old rest t.3 (width_low w signed n t.3) (width_high w signed n t.3) (number_width w signed v.0 (value_there k ts row ty v.0 t.2 v.1 all))
    ∙ sym (row_parts_set k ts row ty v.0 (value.Leaf (leaf.Num n)) t.2 v.1)

-- the same of bytes that encode a row
pub encodes_written : (ts : List ValueType) (row : List Value) (k : ℕ) (n : ℤ) (xs ys : List ℕ) → number_fits (slice_get ts k) n ≡ true → Encodes ts row xs → ys ≡ with_number ts k n xs
    → Encodes ts (slice_set row k (value.Leaf (leaf.Num n))) ys
encodes_written ts row k n xs ys new old written =
    let t = number_type (slice_get ts k) n new in
    record {
      fits = fits_set k ts row (values.Leaf (ty.Num t.0 t.1)) (value.Leaf (leaf.Num n)) t.2 t.3 old.fits;
      proper = each_set IsProperValue row k (value.Leaf (leaf.Num n)) tt old.proper;
      bytes_are = written ∙ ap (with_number ts k n) old.bytes_are ∙ number_written ts row k n old.fits new;
    }

-- a write to all from a place on
pub written_from : (types : List ValueType) (field : ℕ) (n : ℤ) (t : ValueType) (xs new : List ℕ) (start : ℕ) → slice_get types field ≡ Some t → start ≡ length xs - length (after_values (take field types) xs)
    → new ≡ overwritten_by t n (take (length xs - start) (drop start xs)) → take start xs ++ (new ++ drop (length xs - start) (drop start xs)) ≡ with_number types field n xs
written_from types field n t xs new start e at written =
    let none : drop (length xs - start) (drop start xs) ≡ [] = drop_all (length xs - start) (drop start xs) (omega (arith, length-drop start xs)) in
    let whole : take (length xs - start) (drop start xs) ≡ drop start xs = take_all (length xs - start) (drop start xs) (omega (arith, length-drop start xs)) in
    ap (λ r. take start xs ++ (new ++ r)) none ∙ ap (λ r. take start xs ++ r) (append-nil new ∙ written ∙ ap (overwritten_by t n) whole)
    ∙ ap (λ k. take k xs ++ overwritten_by t n (drop k xs)) at
    ∙ sym (ap (λ o. with_number_by o n (length xs - length (after_values (take field types) xs)) xs) e)
