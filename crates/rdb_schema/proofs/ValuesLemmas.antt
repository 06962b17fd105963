-- Lists of values against lists of fields.
use Rattle.std.proofs.Common.{◌≡◌, ℕ, zero, suc, ◌+◌, Bool, true, false, ◌&&◌, List, [], ◌∷◌, length, drop, Some, slice_get, refl, sym, ap, ◌∙◌, arith, add-one, ◌≤◌, min, inl, inr}
use Rattle.std.proofs.lemmas.Bool.{cases_lt}
use Rattle.std.proofs.lemmas.List.{drop_all}
use Rattle.rdb_base.specs.declared.value.Leaf.{Leaf}
use Rattle.rdb_base.specs.declared.value.Value.{Value}
use Rattle.rdb_schema.specs.declared.schema.Field.{Field}
use Rattle.rdb_schema.specs.declared.schema.Schema.{Schema}
use Rattle.rdb_schema.specs.Values.{leaf_holds, leaves_hold, holds, values_hold, leaf_length, leaves_length, value_length, values_length}

-- leaves that aren't as many as the fields don't hold
pub leaves_unlike : (fs : List Field) (ls : List Leaf) → (length fs ≡ length ls → ⊥) → leaves_hold fs ls ≡ false
leaves_unlike [] [] unlike = absurd (unlike refl)
leaves_unlike [] (l ∷ ls) unlike = refl
leaves_unlike (f ∷ fs) [] unlike = refl
leaves_unlike (f ∷ fs) (l ∷ ls) unlike = go (leaf_holds f.ty l) (leaves_unlike fs ls (λ e. unlike (ap suc e)))
  where
    go : (b : Bool) → leaves_hold fs ls ≡ false → (b && leaves_hold fs ls) ≡ false
    go true e = e
    go false e = refl

pub values_unlike : (schema : Schema) (fs : List Field) (vs : List Value) → (length fs ≡ length vs → ⊥) → values_hold schema fs vs ≡ false
values_unlike schema [] [] unlike = absurd (unlike refl)
values_unlike schema [] (v ∷ vs) unlike = refl
values_unlike schema (f ∷ fs) [] unlike = refl
values_unlike schema (f ∷ fs) (v ∷ vs) unlike = go (holds schema f.ty v) (values_unlike schema fs vs (λ e. unlike (ap suc e)))
  where
    go : (b : Bool) → values_hold schema fs vs ≡ false → (b && values_hold schema fs vs) ≡ false
    go true e = e
    go false e = refl

-- what is left of a list from a place on begins with the element there
pub drop_get : {A : Type 0} (xs : List A) (i : ℕ) (x : A) → slice_get xs i ≡ Some x → drop i xs ≡ x ∷ drop (suc i) xs
drop_get [] i x e = (cc)
drop_get (y ∷ ys) zero x e = (cc)
drop_get (y ∷ ys) (suc i) x e = drop_get ys i x e

-- the leaves from a place on hold where the one there does and the others do
pub leaves_more : (fs : List Field) (ls : List Leaf) (i : ℕ) (f : Field) (l : Leaf) → slice_get fs i ≡ Some f → slice_get ls i ≡ Some l → leaves_hold (drop i fs) (drop i ls) ≡ (leaf_holds f.ty l && leaves_hold (drop (i + 1) fs) (drop (i + 1) ls))
leaves_more fs ls i f l e d = rw (add-one, drop_get fs i f e, drop_get ls i l d) refl

pub values_more : (schema : Schema) (fs : List Field) (vs : List Value) (i : ℕ) (f : Field) (v : Value) → slice_get fs i ≡ Some f → slice_get vs i ≡ Some v → values_hold schema (drop i fs) (drop i vs) ≡ (holds schema f.ty v && values_hold schema (drop (i + 1) fs) (drop (i + 1) vs))
values_more schema fs vs i f v e d = rw (add-one, drop_get fs i f e, drop_get vs i v d) refl

-- one more element that holds, or the first that doesn't
pub holds_on : (a b m whole : Bool) → m ≡ (a && b) → a ≡ true → m ≡ whole → b ≡ whole
holds_on a b m whole e t w = ap (λ x. x && b) (sym t) ∙ sym e ∙ w

pub fails_on : (a b m whole : Bool) → m ≡ (a && b) → a ≡ false → m ≡ whole → false ≡ whole
fails_on a b m whole e t w = ap (λ x. x && b) (sym t) ∙ sym e ∙ w

-- the length from a place on is that of the leaf there and of the others
pub leaves_length_more : (fs : List Field) (ls : List Leaf) (i : ℕ) (f : Field) (l : Leaf) → slice_get fs i ≡ Some f → slice_get ls i ≡ Some l → leaves_length (drop i fs) (drop i ls) ≡ leaf_length f.ty l + leaves_length (drop (i + 1) fs) (drop (i + 1) ls)
leaves_length_more fs ls i f l e d = rw (add-one, drop_get fs i f e, drop_get ls i l d) refl

pub values_length_more : (schema : Schema) (fs : List Field) (vs : List Value) (i : ℕ) (f : Field) (v : Value) → slice_get fs i ≡ Some f → slice_get vs i ≡ Some v → values_length schema (drop i fs) (drop i vs) ≡ value_length schema f.ty v + values_length schema (drop (i + 1) fs) (drop (i + 1) vs)
values_length_more schema fs vs i f v e d = rw (add-one, drop_get fs i f e, drop_get vs i v d) refl

-- past the shorter of the two nothing is left
leaves_length_none : (fs : List Field) → leaves_length fs [] ≡ 0
leaves_length_none [] = refl
leaves_length_none (f ∷ fs) = refl

values_length_none : (schema : Schema) (fs : List Field) → values_length schema fs [] ≡ 0
values_length_none schema [] = refl
values_length_none schema (f ∷ fs) = refl

pub leaves_length_end : (fs : List Field) (ls : List Leaf) (i : ℕ) → min (length fs) (length ls) ≤ i → leaves_length (drop i fs) (drop i ls) ≡ 0
leaves_length_end fs ls i over = elim (cases_lt i (length fs)) [
  | inr le ↦ ap (λ r. leaves_length r (drop i ls)) (drop_all i fs le)
  | inl gt ↦ ap (λ r. leaves_length (drop i fs) r) (drop_all i ls (omega arith)) ∙ leaves_length_none (drop i fs)
]

pub values_length_end : (schema : Schema) (fs : List Field) (vs : List Value) (i : ℕ) → min (length fs) (length vs) ≤ i → values_length schema (drop i fs) (drop i vs) ≡ 0
values_length_end schema fs vs i over = elim (cases_lt i (length fs)) [
  | inr le ↦ ap (λ r. values_length schema r (drop i vs)) (drop_all i fs le)
  | inl gt ↦ ap (λ r. values_length schema (drop i fs) r) (drop_all i vs (omega arith)) ∙ values_length_none schema (drop i fs)
]
