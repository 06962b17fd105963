-- What a program holds is proper.
use Rattle.std.proofs.Common.{◌≡◌, ℕ, suc, ◌+◌, ◌≤◌, ◌⊎◌, inl, inr, Bool, true, List, [], ◌∷◌, length, drop, Some, slice_get, refl, sym, ap, subst, add-one, arith, ℤ, pos, length-drop, Result, Ok, Err}
use Rattle.std.specs.Prelude.{negsuc, OnOk}
use Rattle.std.proofs.lemmas.Bool.{false≢true}
use Rattle.std.proofs.lemmas.Bool.Decides.{nat_tests}
use Rattle.std.proofs.lemmas.Int.{ints}
use mir.Syntax.{w32}
use mir.Val.{SFits}
use Rattle.rdb_base.specs.declared.value.Rect.{Rect}
use Rattle.rdb_schema.specs.Values.{num_holds}
use Rattle.rdb_schema.specs.Types.{all_pairs}
use Rattle.rdb_schema.specs.Proper.{EachIs, HasEdges}
use Rattle.rdb_access.proofs.Pairs.{drop_get, second_of}

-- a number of 32 bits is one of 4 bytes
pub edge_holds : (n : ℤ) → SFits w32 n → num_holds 4 true n ≡ true
edge_holds (pos m) fits = grind (arith, nat_tests, ints)
edge_holds (negsuc k) fits = grind (arith, nat_tests, ints)

-- one more of them passes
pub each_more : {A : Type 0} (P : A → Type 0) (xs : List A) (i : ℕ) (x : A) → slice_get xs i ≡ Some x → P x → (EachIs P (drop i xs) → EachIs P xs) → EachIs P (drop (i + 1) xs) → EachIs P xs
each_more P xs i x e here so_far rest =
    so_far (subst (EachIs P) (sym (drop_get xs i x e)) (here, subst (λ n. EachIs P (drop n xs)) (add-one i) rest))

each_none : {A : Type 0} (P : A → Type 0) (xs : List A) → length xs ≡ 0 → EachIs P xs
each_none P [] e = tt
each_none P (x ∷ xs) e = absurd (omega arith)

pairs_length : {A B : Type 0} (test : A → B → Bool) (xs : List A) (ys : List B) → all_pairs test xs ys ≡ true → length xs ≡ length ys
pairs_length test [] [] e = refl
pairs_length test [] (y ∷ ys) e = absurd (false≢true e)
pairs_length test (x ∷ xs) [] e = absurd (false≢true e)
pairs_length test (x ∷ xs) (y ∷ ys) e = ap suc (pairs_length test xs ys (second_of (test x y) (all_pairs test xs ys) e))

-- behind the end of either list of pairs all have passed
pub each_passed : {A B : Type 0} (P : B → Type 0) (test : A → B → Bool) (xs : List A) (ys : List B) (i : ℕ) → (length xs ≤ i) ⊎ (length ys ≤ i) → all_pairs test (drop i xs) (drop i ys) ≡ true
    → (EachIs P (drop i ys) → EachIs P ys) → EachIs P ys
each_passed P test xs ys i over all so_far =
    let same : length (drop i xs) ≡ length (drop i ys) = pairs_length test (drop i xs) (drop i ys) all in
    so_far (each_none P (drop i ys) (elim over [
      | inl first ↦ omega (arith, same, length-drop i xs)
      | inr second ↦ omega (arith, length-drop i ys)
    ]))

-- where a box's edges have 32 bits, they do whatever is answered
pub edges_ok : {A E : Type 0} (r : Result A E) (box : Rect) → num_holds 4 true box.x1 ≡ true → num_holds 4 true box.y1 ≡ true → num_holds 4 true box.x2 ≡ true → num_holds 4 true box.y2 ≡ true → OnOk r (HasEdges box)
edges_ok (Ok x) box a b c d = record { x1 = a; y1 = b; x2 = c; y2 = d }
edges_ok (Err e) box a b c d = tt
