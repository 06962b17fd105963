-- Lines of numbered pairs, one pair more at a time.
use Rattle.std.proofs.Common.{◌≡◌, ℕ, zero, suc, ◌+◌, ◌<◌, List, [], ◌∷◌, ◌++◌, flat_map, take, length, min, slice_get, Some, None, refl, sym, ap, ◌∙◌, append_assoc, append-nil, zero-add, add-one, arith}
use Rattle.std.specs.List.{enumerate_from, zip}
use Rattle.std.proofs.lemmas.Slice.Zip.{length-zip}

-- two appends are one of both
pub appended : {X : Type 0} (first second third a b : List X) → second ≡ first ++ a → third ≡ second ++ b → third ≡ first ++ (a ++ b)
appended first second third a b before now = now ∙ ap (λ t. t ++ b) before ∙ append_assoc first a b

-- the pairs at the first i places, numbered from s, and the pair at the next place
more_from : {A B L : Type 0} (f : ℕ × (A × B) → List L) (s : ℕ) (xs : List A) (ys : List B) (i : ℕ) (x : A) (y : B) → slice_get xs i ≡ Some x → slice_get ys i ≡ Some y → flat_map f (enumerate_from s (take (suc i) (zip xs ys))) ≡ flat_map f (enumerate_from s (take i (zip xs ys))) ++ f (i + s, (x, y))
more_from f s [] ys i x y ex ey = cc
more_from f s (v ∷ xs) [] i x y ex ey = cc
more_from f s (v ∷ xs) (w ∷ ys) zero x y ex ey =
    let first : v ≡ x = cc in
    let second : w ≡ y = cc in
    append-nil (f (s, (v, w))) ∙ ap (λ p. f (s, p)) (ap (λ a. (a, w)) first ∙ ap (λ b. (x, b)) second) ∙ ap (λ n. f (n, (x, y))) (sym (zero-add s))
more_from f s (v ∷ xs) (w ∷ ys) (suc i) x y ex ey =
    let front = f (s, (v, w)) in
    let before = flat_map f (enumerate_from (s + 1) (take i (zip xs ys))) in
    let number : i + (s + 1) ≡ suc i + s = omega arith in
    ap (λ t. front ++ t) (more_from f (s + 1) xs ys i x y ex ey) ∙ sym (append_assoc front before (f (i + (s + 1), (x, y))))
    ∙ ap (λ n. (front ++ before) ++ f (n, (x, y))) number

-- one pair more, numbered from 1
pub numbered_more : {A B L : Type 0} (f : ℕ × (A × B) → List L) (xs : List A) (ys : List B) (i : ℕ) (x : A) (y : B) → slice_get xs i ≡ Some x → slice_get ys i ≡ Some y → flat_map f (enumerate_from 1 (take (i + 1) (zip xs ys))) ≡ flat_map f (enumerate_from 1 (take i (zip xs ys))) ++ f (i + 1, (x, y))
numbered_more f xs ys i x y ex ey = let e = more_from f 1 xs ys i x y ex ey in rw add-one (rw add-one at e)
