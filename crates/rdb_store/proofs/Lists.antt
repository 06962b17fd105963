-- Elements of lists.
use Rattle.std.proofs.Common.{◌≡◌, ◌<◌, ◌⊎◌, zero, suc, ℕ, List, [], ◌∷◌, length, get_or, slice_get, Some, inl, inr, refl, sym, ap, zero-lt-suc, suc-le-suc, arith}
use Rattle.std.specs.List.{Contains}

pub first_in : {X : Type 0} (x : X) (xs : List X) → Contains (x ∷ xs) x
first_in x xs = (0, zero-lt-suc _, refl)

pub later_in : {X : Type 0} (x y : X) (xs : List X) → Contains xs y → Contains (x ∷ xs) y
later_in x y xs within = (suc within.0, suc-le-suc within.1, within.2)

pub either_in : {X : Type 0} (x : X) (xs : List X) (y : X) → Contains (x ∷ xs) y → Contains (x ∷ []) y ⊎ Contains xs y
either_in x xs y (zero, below, is) = inl (0, zero-lt-suc _, is)
either_in x xs y (suc k, below, is) = inr (k, omega arith, is)

pub none_in : {X : Type 0} (x : X) → ¬ Contains [] x
none_in x within = let below = within.1 in absurd (omega arith)

-- the element at a place, as a loop has it
pub at_place : {X : Type 0} (xs : List X) (k : ℕ) (x : X) → k < length xs → x ≡ get_or xs k x → slice_get xs k ≡ Some x
at_place [] k x below is = absurd (omega arith)
at_place (y ∷ ys) zero x below is = ap Some (sym is)
at_place (y ∷ ys) (suc k) x below is = at_place ys k x (omega arith) is
