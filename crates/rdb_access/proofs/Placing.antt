-- Places of fields, one after another.
use Rattle.std.proofs.Common.{◌≡◌, ℕ, zero, suc, ◌+◌, List, [], ◌∷◌, ◌++◌, length, take, drop, Some, slice_get, refl, sym, ap, subst, ◌∙◌, add-one, ◌⊎◌, inl, inr, arith, length-append}
use Rattle.std.specs.Option.{option_map_or}
use Rattle.std.proofs.lemmas.List.{drop-drop, take-append-le}
use Rattle.rdb_schema.specs.declared.schema.FieldType.{FieldType}
use Rattle.rdb_schema.specs.declared.types.ValueType.{ValueType}
use Rattle.rdb_access.specs.declared.places.Step.{Step}
use Rattle.rdb_access.specs.declared.places.Place.{Place}
use Rattle.rdb_access.specs.declared.places.Table.{Table}
use Rattle.rdb_access.specs.Walk.{after_leaf, after_leaves, after_value, after_values}
use Rattle.rdb_access.specs.Places.{after_step, after_steps, IsPlace, ArePlaces, IsTableTo}
use Rattle.rdb_access.proofs.Pairs.{drop_get}

push_get : {A : Type 0} (xs : List A) (y : A) (k : ℕ) (x : A) → slice_get (xs ++ y ∷ []) k ≡ Some x → (slice_get xs k ≡ Some x) ⊎ ((k ≡ length xs) × (y ≡ x))
push_get [] y zero x e = inr (refl, cc)
push_get [] y (suc k) x e = absurd (cc)
push_get (z ∷ xs) y zero x e = inl e
push_get (z ∷ xs) y (suc k) x e = elim (push_get xs y k x e) [
  | inl there ↦ inl there
  | inr last ↦ inr (ap suc last.0, last.1)
]

-- one place more
places_push : (types : List ValueType) (steps : List Step) (places : List Place) (p : Place) → ArePlaces types steps places → IsPlace types steps (length places) p → ArePlaces types steps (places ++ p ∷ [])
places_push types steps places p before here k place e = elim (push_get places p k place e) [
  | inl there ↦ before k place there
  | inr last ↦ subst (λ n. IsPlace types steps n place) (sym last.0) (subst (IsPlace types steps (length places)) last.1 here)
]

-- a step more keeps the places
steps_push : (types : List ValueType) (steps : List Step) (s : Step) (places : List Place) → ArePlaces types steps places → ArePlaces types (steps ++ s ∷ []) places
steps_push types steps s places before k place e =
    let old = before k place e in
    record {
      there = omega (arith, length-append steps (s ∷ []), old.there);
      begins = λ xs. old.begins xs ∙ ap (λ ss. drop place.offset (after_steps types ss xs)) (sym (take-append-le place.steps steps (s ∷ []) old.there));
    }

take_all : {A : Type 0} (xs : List A) → take (length xs) xs ≡ xs
take_all [] = refl
take_all (x ∷ xs) = ap (λ ys. x ∷ ys) (take_all xs)

steps_last : (types : List ValueType) (steps : List Step) (s : Step) (xs : List ℕ) → after_steps types (steps ++ s ∷ []) xs ≡ after_step types s (after_steps types steps xs)
steps_last types [] s xs = refl
steps_last types (t ∷ steps) s xs = steps_last types steps s (after_step types t xs)

values_more : (i : ℕ) (ts : List ValueType) (t : ValueType) (xs : List ℕ) → slice_get ts i ≡ Some t → after_values (take (suc i) ts) xs ≡ after_value t (after_values (take i ts) xs)
values_more i [] t xs e = absurd (cc)
values_more zero (x ∷ ts) t xs e = let same : x ≡ t = cc in ap (λ y. after_value y xs) same
values_more (suc i) (x ∷ ts) t xs e = values_more i ts t (after_value x xs) e

-- the place of the next field is known
pub placed : (types : List ValueType) (field offset : ℕ) (table : Table) (p : Place) (places : List Place) → IsTableTo types field offset table → p.steps ≡ length table.steps → p.offset ≡ offset
    → places ≡ table.places ++ p ∷ [] → (length places ≡ field + 1) × ArePlaces types table.steps places
placed types field offset table p places t counted same e =
    let here : IsPlace types table.steps (length table.places) p = record {
      there = omega arith;
      begins = λ xs. ap (λ n. after_values (take n types) xs) t.whole ∙ t.here xs ∙ ap (λ ss. drop offset (after_steps types ss xs)) (sym (take_all table.steps))
          ∙ ap (λ n. drop offset (after_steps types (take n table.steps) xs)) (sym counted) ∙ ap (λ n. drop n (after_steps types (take p.steps table.steps) xs)) (sym same);
    } in
    (omega (arith, ap length e, length-append table.places (p ∷ []), t.whole), subst (ArePlaces types table.steps) (sym e) (places_push types table.steps table.places p t.right here))

-- behind a field of one size
pub behind_fixed : (types : List ValueType) (field offset behind : ℕ) (t : ValueType) (steps : List Step) → slice_get types field ≡ Some t
    → ((xs : List ℕ) → after_values (take field types) xs ≡ drop offset (after_steps types steps xs)) → ((xs : List ℕ) → after_value t (drop offset xs) ≡ drop behind xs)
    → (xs : List ℕ) → after_values (take (field + 1) types) xs ≡ drop behind (after_steps types steps xs)
behind_fixed types field offset behind t steps e here size xs =
    ap (λ n. after_values (take n types) xs) (add-one field) ∙ values_more field types t xs e ∙ ap (after_value t) (here xs) ∙ size (after_steps types steps xs)

-- behind a field that varies
pub behind_step : (types : List ValueType) (field offset : ℕ) (t : ValueType) (steps new : List Step) (s : Step) → slice_get types field ≡ Some t → s.field ≡ field → s.offset ≡ offset → new ≡ steps ++ s ∷ []
    → ((xs : List ℕ) → after_values (take field types) xs ≡ drop offset (after_steps types steps xs)) → (xs : List ℕ) → after_values (take (field + 1) types) xs ≡ drop 0 (after_steps types new xs)
behind_step types field offset t steps new s e at same last here xs =
    let there : slice_get types s.field ≡ Some t = ap (slice_get types) at ∙ e in
    ap (λ n. after_values (take n types) xs) (add-one field) ∙ values_more field types t xs e ∙ ap (after_value t) (here xs)
    ∙ ap (λ n. after_value t (drop n (after_steps types steps xs))) (sym same)
    ∙ sym (ap (λ o. option_map_or (λ t. after_value t (drop s.offset (after_steps types steps xs))) o (after_steps types steps xs)) there) ∙ sym (steps_last types steps s xs)
    ∙ ap (λ ss. after_steps types ss xs) (sym last)

pub step_kept : (types : List ValueType) (steps : List Step) (s : Step) (places : List Place) (new : List Step) → ArePlaces types steps places → new ≡ steps ++ s ∷ [] → ArePlaces types new places
step_kept types steps s places new before e = subst (λ ss. ArePlaces types ss places) (sym e) (steps_push types steps s places before)

-- the size of one leaf more
pub next_leaf : (types : List FieldType) (i : ℕ) (t : FieldType) (total size : ℕ) → slice_get types i ≡ Some t → ((xs : List ℕ) → after_leaves types xs ≡ after_leaves (drop i types) (drop total xs))
    → ((xs : List ℕ) → after_leaf t xs ≡ drop size xs) → (xs : List ℕ) → after_leaves types xs ≡ after_leaves (drop (i + 1) types) (drop (total + size) xs)
next_leaf types i t total size e here behind xs =
    here xs ∙ ap (λ ts. after_leaves ts (drop total xs)) (drop_get types i t e) ∙ ap (after_leaves (drop (suc i) types)) (behind (drop total xs) ∙ drop-drop size total xs)
    ∙ ap (λ n. after_leaves (drop n types) (drop (total + size) xs)) (sym (add-one i))
