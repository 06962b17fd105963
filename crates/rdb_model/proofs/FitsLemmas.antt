-- What an operation that fits names is there.
use Rattle.std.proofs.Common.{◌≡◌, ℕ, zero, suc, ◌<◌, Bool, true, false, ◌&&◌, List, [], ◌∷◌, length, slice_get, refl, arith}
use Rattle.std.specs.Option.{option_map_or}

-- a test that an element passes has an element
pub in_range : {A : Type 0} (test : A → Bool) (xs : List A) (i : ℕ) → option_map_or test (slice_get xs i) false ≡ true → i < length xs
in_range test [] i e = (cc)
in_range test (x ∷ xs) zero e = omega arith
in_range test (x ∷ xs) (suc i) e = let rest = in_range test xs i e in omega arith

-- the parts of a test of two parts
pub first_of : (a b : Bool) → (a && b) ≡ true → a ≡ true
first_of true b e = refl
first_of false b e = e

pub second_of : (a b : Bool) → (a && b) ≡ true → b ≡ true
second_of true b e = e
second_of false b e = (cc)
