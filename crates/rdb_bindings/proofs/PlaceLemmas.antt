-- The last element that passes a test, and its place.
use Rattle.std.proofs.Common.{◌≡◌, ℕ, zero, suc, Bool, true, false, cond, List, [], ◌∷◌, ◌++◌, length, map, take, slice_get, Option, Some, None, Result, Ok, Err, refl, ap, ◌∙◌}
use Rattle.std.specs.Prelude.{IfOk, OnOk}
use Rattle.std.specs.Option.{option_map, option_or}
use Rattle.rdb_model.specs.Answer.{find_last}
use Rattle.rdb_bindings.specs.Keeping.{last_place}

-- one element more
pub last_place_more : {X : Type 0} (test : X → Bool) (xs : List X) (x : X) → last_place test (xs ++ x ∷ []) ≡ cond (test x) (Some (length xs)) (last_place test xs)
last_place_more test [] x = refl
last_place_more test (y ∷ ys) x =
    ap (λ o. option_or (option_map suc o) (cond (test y) (Some 0) None)) (last_place_more test ys x) ∙ go (test x)
  where
    go : (b : Bool) → option_or (option_map suc (cond b (Some (length ys)) (last_place test ys))) (cond (test y) (Some 0) None) ≡ cond b (Some (suc (length ys))) (option_or (option_map suc (last_place test ys)) (cond (test y) (Some 0) None))
    go true = refl
    go false = refl

pub find_last_more : {X : Type 0} (test : X → Bool) (xs : List X) (x : X) → find_last test (xs ++ x ∷ []) ≡ cond (test x) (Some x) (find_last test xs)
find_last_more test [] x = refl
find_last_more test (y ∷ ys) x =
    ap (λ o. option_or o (cond (test y) (Some y) None)) (find_last_more test ys x) ∙ go (test x)
  where
    go : (b : Bool) → option_or (cond b (Some x) (find_last test ys)) (cond (test y) (Some y) None) ≡ cond b (Some x) (option_or (find_last test ys) (cond (test y) (Some y) None))
    go true = refl
    go false = refl

-- among what elements are mapped to
pub last_place-map : {X Y : Type 0} (f : X → Y) (test : Y → Bool) (xs : List X) → last_place test (map f xs) ≡ last_place (λ x. test (f x)) xs
last_place-map f test [] = refl
last_place-map f test (x ∷ xs) = ap (λ o. option_or (option_map suc o) (cond (test (f x)) (Some 0) None)) (last_place-map f test xs)

pub find_last-map : {X Y : Type 0} (f : X → Y) (test : Y → Bool) (xs : List X) → find_last test (map f xs) ≡ option_map f (find_last (λ x. test (f x)) xs)
find_last-map {X = X} f test [] = refl
find_last-map {X = X} f test (x ∷ xs) =
    ap (λ o. option_or o (cond (test (f x)) (Some (f x)) None)) (find_last-map f test xs) ∙ go (find_last (λ y. test (f y)) xs) (test (f x))
  where
    go : (o : Option X) (b : Bool) → option_or (option_map f o) (cond b (Some (f x)) None) ≡ option_map f (option_or o (cond b (Some x) None))
    go None true = refl
    go None false = refl
    go (Some y) b = refl

-- the element at the last place, if there is one, is the last that passes
abbrev pub IsThere : {X : Type 0} → List X → Option X → Option ℕ → Type 0
IsThere xs last None = last ≡ None
IsThere {X} xs last (Some n) = (x : X) × (slice_get xs n ≡ Some x) × (last ≡ Some x)

pub last_there : {X : Type 0} (test : X → Bool) (xs : List X) → IsThere xs (find_last test xs) (last_place test xs)
last_there test [] = refl
last_there {X} test (x ∷ xs) = go (last_place test xs) (find_last test xs) (test x) (last_there test xs)
  where
    go : (o : Option ℕ) (last : Option X) (b : Bool) → IsThere xs last o → IsThere (x ∷ xs) (option_or last (cond b (Some x) None)) (option_or (option_map suc o) (cond b (Some 0) None))
    go None last true is = (x, refl, ap (λ l. option_or l (Some x)) is)
    go None last false is = ap (λ l. option_or l None) is
    go (Some n) last b is = (is.0, is.1, ap (λ l. option_or l (cond b (Some x) None)) is.2)

-- an element that is found stands somewhere
pub found_there : {X : Type 0} (test : X → Bool) (xs : List X) (x : X) → find_last test xs ≡ Some x → (n : ℕ) × (slice_get xs n ≡ Some x)
found_there {X} test xs x e = go (last_place test xs) (last_there test xs)
  where
    go : (o : Option ℕ) → IsThere xs (find_last test xs) o → (n : ℕ) × (slice_get xs n ≡ Some x)
    go None is = absurd (cc)
    go (Some n) is = (n, is.1 ∙ (let there = is.2 in let same : is.0 ≡ x = cc in ap Some same))

-- what is taken from the front stands where it stood
pub slice_get-taken : {X : Type 0} (xs : List X) (n k : ℕ) (x : X) → slice_get (take n xs) k ≡ Some x → slice_get xs k ≡ Some x
slice_get-taken [] zero k x e = absurd (cc)
slice_get-taken [] (suc n) k x e = absurd (cc)
slice_get-taken (y ∷ ys) zero k x e = absurd (cc)
slice_get-taken (y ∷ ys) (suc n) zero x e = e
slice_get-taken (y ∷ ys) (suc n) (suc k) x e = slice_get-taken ys n k x e

pub slice_get-map : {X Y : Type 0} (f : X → Y) (xs : List X) (n : ℕ) → slice_get (map f xs) n ≡ option_map f (slice_get xs n)
slice_get-map f [] n = refl
slice_get-map f (x ∷ xs) zero = refl
slice_get-map f (x ∷ xs) (suc n) = slice_get-map f xs n

-- what an Ok holds, carried over
pub if_ok_then : {X E : Type 0} (P Q : X → Type 0) (r : Result X E) → ((x : X) → P x → Q x) → IfOk r P → IfOk r Q
if_ok_then P Q (Ok x) f h = f x h
if_ok_then P Q (Err e) f h = tt

pub on_ok_then : {X E : Type 0} (P Q : Type 0) (r : Result X E) → (P → Q) → OnOk r P → OnOk r Q
on_ok_then P Q (Ok x) f h = f h
on_ok_then P Q (Err e) f h = tt
