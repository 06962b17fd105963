-- Two lists side by side, from a place on.
use Rattle.std.proofs.Common.{◌≡◌, ℕ, zero, suc, ◌+◌, Bool, true, false, ◌&&◌, List, [], ◌∷◌, ◌++◌, drop, flat_map, Some, slice_get, Result, Ok, Err, refl, sym, ap, ◌∙◌, append_assoc, add-one, ℤ}
use Rattle.std.specs.Prelude.{OnOk}
use Rattle.std.specs.List.{list_all}
use Rattle.rdb_base.specs.declared.value.Rect.{Rect}
use Rattle.rdb_schema.specs.Types.{all_pairs}
use Rattle.rdb_schema.specs.Encoding.{number_bytes, rect_bytes, pairs_bytes}

pub first_of : (a b : Bool) → (a && b) ≡ true → a ≡ true
first_of true b e = refl
first_of false b e = e

pub second_of : (a b : Bool) → (a && b) ≡ true → b ≡ true
second_of true b e = e
second_of false b e = (cc)

-- what is left of a list from a place on begins with the element there
pub drop_get : {A : Type 0} (xs : List A) (i : ℕ) (x : A) → slice_get xs i ≡ Some x → drop i xs ≡ x ∷ drop (suc i) xs
drop_get [] i x e = (cc)
drop_get (y ∷ ys) zero x e = (cc)
drop_get (y ∷ ys) (suc i) x e = drop_get ys i x e

pub pairs_more : {A B : Type 0} (bytes : A → B → List ℕ) (xs : List A) (ys : List B) (i : ℕ) (x : A) (y : B) → slice_get xs i ≡ Some x → slice_get ys i ≡ Some y
    → pairs_bytes bytes (drop i xs) (drop i ys) ≡ bytes x y ++ pairs_bytes bytes (drop (i + 1) xs) (drop (i + 1) ys)
pairs_more bytes xs ys i x y e d = rw (add-one, drop_get xs i x e, drop_get ys i y d) refl

pub all_more : {A B : Type 0} (test : A → B → Bool) (xs : List A) (ys : List B) (i : ℕ) (x : A) (y : B) → slice_get xs i ≡ Some x → slice_get ys i ≡ Some y
    → all_pairs test (drop i xs) (drop i ys) ≡ (test x y && all_pairs test (drop (i + 1) xs) (drop (i + 1) ys))
all_more test xs ys i x y e d = rw (add-one, drop_get xs i x e, drop_get ys i y d) refl

-- the pair at a place passes the test, and so do those after it
pub all_here : {A B : Type 0} (test : A → B → Bool) (xs : List A) (ys : List B) (i : ℕ) (x : A) (y : B) → slice_get xs i ≡ Some x → slice_get ys i ≡ Some y
    → all_pairs test (drop i xs) (drop i ys) ≡ true → test x y ≡ true
all_here test xs ys i x y e d all = first_of (test x y) (all_pairs test (drop (i + 1) xs) (drop (i + 1) ys)) (sym (all_more test xs ys i x y e d) ∙ all)

pub all_rest : {A B : Type 0} (test : A → B → Bool) (xs : List A) (ys : List B) (i : ℕ) (x : A) (y : B) → slice_get xs i ≡ Some x → slice_get ys i ≡ Some y
    → all_pairs test (drop i xs) (drop i ys) ≡ true → all_pairs test (drop (i + 1) xs) (drop (i + 1) ys) ≡ true
all_rest test xs ys i x y e d all = second_of (test x y) (all_pairs test (drop (i + 1) xs) (drop (i + 1) ys)) (sym (all_more test xs ys i x y e d) ∙ all)

-- one pair more is written
pub pairs_written : {A B : Type 0} (bytes : A → B → List ℕ) (xs : List A) (ys : List B) (i : ℕ) (x : A) (y : B) (before now whole : List ℕ) → slice_get xs i ≡ Some x → slice_get ys i ≡ Some y
    → now ≡ before ++ bytes x y → before ++ pairs_bytes bytes (drop i xs) (drop i ys) ≡ whole
    → now ++ pairs_bytes bytes (drop (i + 1) xs) (drop (i + 1) ys) ≡ whole
pairs_written bytes xs ys i x y before now whole e d wrote so_far =
    ap (λ t. t ++ pairs_bytes bytes (drop (i + 1) xs) (drop (i + 1) ys)) wrote ∙ append_assoc before (bytes x y) (pairs_bytes bytes (drop (i + 1) xs) (drop (i + 1) ys))
    ∙ ap (λ t. before ++ t) (sym (pairs_more bytes xs ys i x y e d)) ∙ so_far

-- four parts, one after another
four_parts : (o o1 o2 o3 o4 a b c d : List ℕ) → o1 ≡ o ++ a → o2 ≡ o1 ++ b → o3 ≡ o2 ++ c → o4 ≡ o3 ++ d → o4 ≡ o ++ (a ++ (b ++ (c ++ d)))
four_parts o o1 o2 o3 o4 a b c d e1 e2 e3 e4 =
    e4 ∙ ap (λ t. t ++ d) (e3 ∙ ap (λ t. t ++ c) (e2 ∙ ap (λ t. t ++ b) e1)) ∙ simp append_assoc

-- a box is written by its four numbers
pub rect_written : {A E : Type 0} (r : Result A E) (o o1 o2 o3 o4 : List ℕ) (box : Rect) (x1 y1 x2 y2 : ℤ) → x1 ≡ box.x1 → y1 ≡ box.y1 → x2 ≡ box.x2 → y2 ≡ box.y2
    → o1 ≡ o ++ number_bytes 4 x1 → o2 ≡ o1 ++ number_bytes 4 y1 → o3 ≡ o2 ++ number_bytes 4 x2 → OnOk r (o4 ≡ o3 ++ number_bytes 4 y2) → OnOk r (o4 ≡ o ++ rect_bytes box)
rect_written (Ok x) o o1 o2 o3 o4 box x1 y1 x2 y2 f1 f2 f3 f4 e1 e2 e3 e4 =
    four_parts o o1 o2 o3 o4 (number_bytes 4 box.x1) (number_bytes 4 box.y1) (number_bytes 4 box.x2) (number_bytes 4 box.y2)
    (e1 ∙ ap (λ n. o ++ number_bytes 4 n) f1) (e2 ∙ ap (λ n. o1 ++ number_bytes 4 n) f2) (e3 ∙ ap (λ n. o2 ++ number_bytes 4 n) f3) (e4 ∙ ap (λ n. o3 ++ number_bytes 4 n) f4)
rect_written (Err e) o o1 o2 o3 o4 box x1 y1 x2 y2 f1 f2 f3 f4 e1 e2 e3 e4 = tt

-- one element more is written
pub element_written : {A : Type 0} (bytes : A → List ℕ) (xs : List A) (i : ℕ) (x : A) (before now whole : List ℕ) → slice_get xs i ≡ Some x → now ≡ before ++ bytes x
    → before ++ flat_map bytes (drop i xs) ≡ whole → now ++ flat_map bytes (drop (i + 1) xs) ≡ whole
element_written bytes xs i x before now whole e wrote so_far =
    ap (λ t. t ++ flat_map bytes (drop (i + 1) xs)) wrote ∙ append_assoc before (bytes x) (flat_map bytes (drop (i + 1) xs))
    ∙ ap (λ n. before ++ (bytes x ++ flat_map bytes (drop n xs))) (add-one i) ∙ sym (ap (λ ys. before ++ flat_map bytes ys) (drop_get xs i x e)) ∙ so_far

-- the element at a place passes the test, and so do those after it
pub each_here : {A : Type 0} (test : A → Bool) (xs : List A) (i : ℕ) (x : A) → slice_get xs i ≡ Some x → list_all test (drop i xs) ≡ true → test x ≡ true
each_here test xs i x e all = first_of (test x) (list_all test (drop (suc i) xs)) (sym (ap (list_all test) (drop_get xs i x e)) ∙ all)

pub each_rest : {A : Type 0} (test : A → Bool) (xs : List A) (i : ℕ) (x : A) → slice_get xs i ≡ Some x → list_all test (drop i xs) ≡ true → list_all test (drop (i + 1) xs) ≡ true
each_rest test xs i x e all = ap (λ n. list_all test (drop n xs)) (add-one i) ∙ second_of (test x) (list_all test (drop (suc i) xs)) (sym (ap (list_all test) (drop_get xs i x e)) ∙ all)
