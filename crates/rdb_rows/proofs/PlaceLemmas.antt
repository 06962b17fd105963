-- Sizes of values, and the places of fields.
use Rattle.std.proofs.Common.{◌≡◌, ◌<◌, ◌+◌, ◌++◌, zero, suc, ℕ, List, [], ◌∷◌, length, drop, Bool, true, Some, slice_get, refl, sym, ap, subst, ◌∙◌, arith, append_assoc, length-append}
use Rattle.std.proofs.lemmas.Bool.{false≢true}
use Rattle.rdb_base.specs.declared.value.Leaf.{Leaf}
use Rattle.rdb_base.specs.declared.value.Value.{Value}
use Rattle.rdb_schema.specs.declared.schema.FieldType.{FieldType}
use Rattle.rdb_schema.specs.declared.types.ValueType.{ValueType}
use Rattle.rdb_schema.specs.declared.types.ValueType.TheVariants as values
use Rattle.rdb_base.specs.declared.value.Value.TheVariants as value
use Rattle.std.specs.Prelude.{Option, None, IfSome}
use Rattle.rdb_schema.specs.Encoding.{leaf_bytes, leaves_bytes, value_bytes, row_bytes, pairs_bytes}
use Rattle.rdb_schema.specs.Types.{all_pairs, value_fits}
use Rattle.rdb_schema.specs.Values.{leaf_holds}
use Rattle.rdb_access.proofs.Pairs.{first_of, second_of, drop_get}
use Rattle.rdb_rows.specs.declared.places.Step.{Step}
use Rattle.rdb_rows.specs.Places.{AreApart, AreSteps, behind}

-- two lists of pairs that pass a test, from a place on
module _ {A B : Type 0} (test : A → B → Bool) where
  pub all_from : (xs : List A) (ys : List B) (i : ℕ) → all_pairs test xs ys ≡ true → all_pairs test (drop i xs) (drop i ys) ≡ true
  all_from xs ys zero all = all
  all_from [] [] (suc i) all = refl
  all_from [] (y ∷ ys) (suc i) all = absurd (false≢true all)
  all_from (x ∷ xs) [] (suc i) all = absurd (false≢true all)
  all_from (x ∷ xs) (y ∷ ys) (suc i) all = all_from xs ys i (second_of (test x y) (all_pairs test xs ys) all)

  -- the pair at a place
  pub pair_at : (xs : List A) (ys : List B) (i : ℕ) (x : A) → slice_get xs i ≡ Some x → all_pairs test xs ys ≡ true → (y : B) × (slice_get ys i ≡ Some y) × (test x y ≡ true)
  pair_at [] ys i x e all = (cc)
  pair_at (z ∷ zs) [] i x e all = absurd (false≢true all)
  pair_at (z ∷ zs) (y ∷ ys) zero x e all =
      let same : z ≡ x = cc in
      (y, refl, subst (λ (a : A). test a y ≡ true) same (first_of (test z y) (all_pairs test zs ys) all))
  pair_at (z ∷ zs) (y ∷ ys) (suc i) x e all = pair_at zs ys i x e (second_of (test z y) (all_pairs test zs ys) all)

-- the bytes of pairs from a place on begin with those of the pair there
pub bytes_at : {A B : Type 0} (bytes : A → B → List ℕ) (xs : List A) (ys : List B) (i : ℕ) (x : A) (y : B) → slice_get xs i ≡ Some x → slice_get ys i ≡ Some y
    → pairs_bytes bytes (drop i xs) (drop i ys) ≡ bytes x y ++ pairs_bytes bytes (drop (suc i) xs) (drop (suc i) ys)
bytes_at bytes xs ys i x y e d = rw (drop_get xs i x e, drop_get ys i y d) refl

-- so many bytes are those of the first leaves
abbrev pub AreSized : List FieldType → ℕ → ℕ → Type 0
AreSized types i total = (ls : List Leaf) → all_pairs leaf_holds types ls ≡ true → length (leaves_bytes types ls) ≡ total + length (leaves_bytes (drop i types) (drop i ls))

pub none_sized : (types : List FieldType) → AreSized types 0 0
none_sized types ls all = omega arith

pub sized_more : (types : List FieldType) (i total size : ℕ) (t : FieldType) → slice_get types i ≡ Some t → ((l : Leaf) → leaf_holds t l ≡ true → length (leaf_bytes t l) ≡ size) → AreSized types i total → AreSized types (i + 1) (total + size)
sized_more types i total size t e sized so_far ls all =
    let there = pair_at leaf_holds types ls i t e all in
    let next : i + 1 ≡ suc i = omega arith in
    let before = so_far ls all in
    let split = ap (λ (xs : List ℕ). length xs) (bytes_at leaf_bytes types ls i t there.0 e there.1) ∙ length-append (leaf_bytes t there.0) (leaves_bytes (drop (suc i) types) (drop (suc i) ls)) in
    let one = sized there.0 there.2 in
    let same : length (leaves_bytes (drop (i + 1) types) (drop (i + 1) ls)) ≡ length (leaves_bytes (drop (suc i) types) (drop (suc i) ls)) = ap (λ (n : ℕ). length (leaves_bytes (drop n types) (drop n ls))) next in
    omega arith

-- the place of a field that is being found
pub record IsPlacing (types : List ValueType) (at offset : ℕ) (steps : List Step) : Type 0 where
  pub so_far : AreSteps types 0 steps
  pub here : AreApart types (behind 0 steps) at offset

pub placing_begins : (types : List ValueType) → IsPlacing types 0 0 []
placing_begins types = record { so_far = tt; here = λ row fits. record { bytes = []; long = refl; here = refl } }

-- a field of one size
pub placing_passes : (types : List ValueType) (at offset size : ℕ) (steps : List Step) (t : ValueType) → slice_get types at ≡ Some t → ((v : Value) → value_fits t v ≡ true → length (value_bytes t v) ≡ size) → IsPlacing types at offset steps → IsPlacing types (at + 1) (offset + size) steps
placing_passes types at offset size steps t e sized is = record {
  so_far = is.so_far;
  here = λ row fits.
      let before = is.here row fits in
      let there = pair_at value_fits types row at t e fits in
      let one = sized there.0 there.2 in
      let long = before.long in
      let both = length-append before.bytes (value_bytes t there.0) in
      let next : suc at ≡ at + 1 = omega arith in
      record {
        bytes = before.bytes ++ value_bytes t there.0;
        long = omega arith;
        here = before.here ∙ ap (λ (xs : List ℕ). before.bytes ++ xs) (bytes_at value_bytes types row at t there.0 e there.1)
            ∙ sym (append_assoc before.bytes (value_bytes t there.0) (row_bytes (drop (suc at) types) (drop (suc at) row)))
            ∙ ap (λ (n : ℕ). (before.bytes ++ value_bytes t there.0) ++ row_bytes (drop n types) (drop n row)) next;
      };
}

steps_more : (types : List ValueType) (start : ℕ) (steps : List Step) (s : Step) → AreSteps types start steps → s.field < length types → AreApart types (behind start steps) s.field s.offset → AreSteps types start (steps ++ s ∷ [])
steps_more types start [] s so_far there apart = (there, apart, tt)
steps_more types start (r ∷ rs) s so_far there apart = (so_far.0, so_far.1, steps_more types (suc r.field) rs s so_far.2 there apart)

behind_more : (start : ℕ) (steps : List Step) (s : Step) → behind start (steps ++ s ∷ []) ≡ suc s.field
behind_more start [] s = refl
behind_more start (r ∷ rs) s = behind_more (suc r.field) rs s

-- a field that varies
pub placing_steps : (types : List ValueType) (at offset : ℕ) (steps : List Step) → at < length types → IsPlacing types at offset steps → IsPlacing types (at + 1) 0 (steps ++ record { field = at; offset = offset } ∷ [])
placing_steps types at offset steps within is = record {
  so_far = steps_more types 0 steps (record { field = at; offset = offset }) is.so_far within is.here;
  here = λ row fits.
      let s : Step = record { field = at; offset = offset } in
      let next : at + 1 ≡ suc at = omega arith in
      record {
        bytes = [];
        long = refl;
        here = ap (λ (n : ℕ). row_bytes (drop n types) (drop n row)) (behind_more 0 steps s ∙ sym next);
      };
}

-- a struct of one size
pub group_sized : (o : Option ℕ) (t : ValueType) (ts : List FieldType) → t ≡ values.Group ts → IfSome o (λ size. (ls : List Leaf) → all_pairs leaf_holds ts ls ≡ true → length (leaves_bytes ts ls) ≡ size)
    → IfSome o (λ size. (v : Value) → value_fits t v ≡ true → length (value_bytes t v) ≡ size)
group_sized None t ts is sized = tt
group_sized (Some size) t ts is sized = subst (λ (u : ValueType). (v : Value) → value_fits u v ≡ true → length (value_bytes u v) ≡ size) (sym is) by_value
  where
    by_value : (v : Value) → value_fits (values.Group ts) v ≡ true → length (value_bytes (values.Group ts) v) ≡ size
    by_value (value.Leaf l) fits = absurd (false≢true fits)
    by_value (value.List es) fits = absurd (false≢true fits)
    by_value (value.Group ls) fits = sized ls fits
