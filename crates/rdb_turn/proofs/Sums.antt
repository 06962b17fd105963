-- Sums over the passes, as one of them changes.
use Rattle.std.proofs.Common.{◌≡◌, ℕ, zero, suc, ◌+◌, ◌≤◌, List, [], ◌∷◌, set, refl, ap, sym, arith, sum_by}
use Rattle.std.proofs.lemmas.List.Sums.{sum_by-cons}
use mathlib.Core.Option.{some, some-injective, some-ne-none}
use lib.ListN.{get_elem?}

module _ {A : Type 0} (f : A → ℕ) where
  pub sum_set : (xs : List A) (i : ℕ) (v w : A) → get_elem? xs i ≡ some v → sum_by f (set xs i w) + f v ≡ sum_by f xs + f w
  sum_set [] i v w at = absurd (some-ne-none v (sym at))
  sum_set (x ∷ xs) zero v w at = omega (arith, ap f (some-injective x v at), sum_by-cons f w xs, sum_by-cons f x xs)
  sum_set (x ∷ xs) (suc i) v w at = omega (arith, sum_set xs i v w at, sum_by-cons f x xs, sum_by-cons f x (set xs i w))

  pub sum_at : (xs : List A) (i : ℕ) (v : A) → get_elem? xs i ≡ some v → f v ≤ sum_by f xs
  sum_at [] i v at = absurd (some-ne-none v (sym at))
  sum_at (x ∷ xs) zero v at = omega (arith, ap f (some-injective x v at), sum_by-cons f x xs)
  sum_at (x ∷ xs) (suc i) v at = omega (arith, sum_at xs i v at, sum_by-cons f x xs)

  pub sum_below : (g : A → ℕ) (xs : List A) → ((i : ℕ) (v : A) → get_elem? xs i ≡ some v → f v ≤ g v) → sum_by f xs ≤ sum_by g xs
  sum_below g [] h = omega arith
  sum_below g (x ∷ xs) h = let first : f x ≤ g x = h 0 x refl in omega (arith, first, sum_below g xs (λ i v at. h (suc i) v at), sum_by-cons f x xs, sum_by-cons g x xs)

  pub sum_none : (xs : List A) → ((i : ℕ) (v : A) → get_elem? xs i ≡ some v → f v ≡ 0) → sum_by f xs ≡ 0
  sum_none [] h = refl
  sum_none (x ∷ xs) h = let first : f x ≡ 0 = h 0 x refl in omega (arith, first, sum_none xs (λ i v at. h (suc i) v at), sum_by-cons f x xs)
