-- An element at a place of a list, and another put there.
use Rattle.std.proofs.Common.{◌≡◌, ◌≢◌, ◌<◌, ◌+◌, ◌++◌, zero, suc, ℕ, List, [], ◌∷◌, length, map, slice_get, slice_set, get_or, Some, inl, inr, refl, sym, ap, subst, ◌∙◌, arith}
use Rattle.std.proofs.Permutation.{which}
use Rattle.std.proofs.lemmas.Option.{slice_get-map}
use Rattle.std.specs.Option.{option_map, option_map_or}

pub some_is : {X : Type 0} (x y : X) → Some x ≡ Some y → x ≡ y
some_is x y e = ap (λ o. option_map_or (λ z. z) o x) e

module _ {X : Type 0} where
  -- a list at a place of it
  pub split_place : (xs : List X) (i : ℕ) (x : X) → slice_get xs i ≡ Some x → (front : List X) × (back : List X) × (xs ≡ front ++ x ∷ back) × (length front ≡ i)
  split_place [] i x at = cc
  split_place (y ∷ ys) zero x at = ([], ys, ap (λ (z : X). z ∷ ys) (some_is y x at), refl)
  split_place (y ∷ ys) (suc i) x at = let rest = split_place ys i x at in (y ∷ rest.0, rest.1, ap (λ (zs : List X). y ∷ zs) rest.2, ap suc rest.3)

  pub get_here : (front : List X) (x : X) (back : List X) → slice_get (front ++ x ∷ back) (length front) ≡ Some x
  get_here [] x back = refl
  get_here (y ∷ ys) x back = get_here ys x back

  pub get_elsewhere : (front : List X) (x y : X) (back : List X) (i : ℕ) → i ≢ length front → slice_get (front ++ y ∷ back) i ≡ slice_get (front ++ x ∷ back) i
  get_elsewhere [] x y back zero apart = absurd (apart refl)
  get_elsewhere [] x y back (suc i) apart = refl
  get_elsewhere (z ∷ zs) x y back zero apart = refl
  get_elsewhere (z ∷ zs) x y back (suc i) apart = get_elsewhere zs x y back i (λ same. apart (ap suc same))

  -- what holds of each element holds with another one in its place, if it holds of that
  pub each_with : (P : ℕ → X → Type 0) (front : List X) (x y : X) (back : List X) → ((i : ℕ) (z : X) → slice_get (front ++ x ∷ back) i ≡ Some z → P i z) → P (length front) y → (i : ℕ) (z : X) → slice_get (front ++ y ∷ back) i ≡ Some z → P i z
  each_with P front x y back each here i z at = elim (which i (length front)) [
    | inl same ↦ subst (λ (k : ℕ). P k z) (sym same) (subst (P (length front)) (some_is y z (sym (get_here front y back) ∙ ap (slice_get (front ++ y ∷ back)) (sym same) ∙ at)) here)
    | inr apart ↦ each i z (sym (get_elsewhere front x y back i apart) ∙ at)
  ]

  pub same_length : (front : List X) (x y : X) (back : List X) → length (front ++ y ∷ back) ≡ length (front ++ x ∷ back)
  same_length [] x y back = refl
  same_length (z ∷ zs) x y back = ap suc (same_length zs x y back)

  -- there is an element at each place
  pub some_at : (xs : List X) (i : ℕ) → i < length xs → (x : X) × (slice_get xs i ≡ Some x)
  some_at [] i within = absurd (omega arith)
  some_at (x ∷ xs) zero within = (x, refl)
  some_at (x ∷ xs) (suc i) within = some_at xs i (omega arith)

-- an element of a list that was mapped
pub got_mapped : {X Y : Type 0} (f : X → Y) (xs : List X) (i : ℕ) (x : X) (y : Y) → slice_get xs i ≡ Some x → slice_get (map f xs) i ≡ Some y → f x ≡ y
got_mapped f xs i x y at got = some_is (f x) y (sym (slice_get-map f xs i ∙ ap (option_map f) at) ∙ got)

module _ {X : Type 0} where
  pub got_within : (xs : List X) (i : ℕ) (x : X) → slice_get xs i ≡ Some x → i < length xs
  got_within [] i x at = cc
  got_within (y ∷ ys) zero x at = omega arith
  got_within (y ∷ ys) (suc i) x at = let rest = got_within ys i x at in omega arith

  -- the elements before a place, and those behind it
  pub get_before : (front : List X) (x : X) (back : List X) (i : ℕ) (z : X) → slice_get front i ≡ Some z → slice_get (front ++ x ∷ back) i ≡ Some z
  get_before [] x back i z at = cc
  get_before (y ∷ ys) x back zero z at = at
  get_before (y ∷ ys) x back (suc i) z at = get_before ys x back i z at

  pub get_behind : (front : List X) (x : X) (back : List X) (i : ℕ) → slice_get (front ++ x ∷ back) (suc (length front + i)) ≡ slice_get back i
  get_behind [] x back i = let e : suc (0 + i) ≡ suc i = omega arith in ap (slice_get (x ∷ back)) e
  get_behind (y ∷ ys) x back i =
      let e : suc (suc (length ys) + i) ≡ suc (suc (length ys + i)) = omega arith in
      ap (slice_get (y ∷ (ys ++ x ∷ back))) e ∙ get_behind ys x back i

-- mapped lists with another element in a place
pub set_mapped : {X : Type 0} (f : X → ℕ) (front : List X) (x y : X) (back : List X) (n : ℕ) → f y ≡ n → slice_set (map f (front ++ x ∷ back)) (length front) n ≡ map f (front ++ y ∷ back)
set_mapped f [] x y back n is = ap (λ (k : ℕ). k ∷ map f back) (sym is)
set_mapped f (z ∷ zs) x y back n is = ap (λ (ns : List ℕ). f z ∷ ns) (set_mapped f zs x y back n is)

pub map_set : {X : Type 0} (f : X → ℕ) (xs : List X) (i : ℕ) (x : X) → map f (slice_set xs i x) ≡ slice_set (map f xs) i (f x)
map_set f [] i x = refl
map_set f (y ∷ ys) zero x = refl
map_set f (y ∷ ys) (suc i) x = ap (λ (ns : List ℕ). f y ∷ ns) (map_set f ys i x)

pub same_mapped : {X : Type 0} (f : X → ℕ) (front : List X) (x y : X) (back : List X) → f y ≡ f x → map f (front ++ y ∷ back) ≡ map f (front ++ x ∷ back)
same_mapped f [] x y back same = ap (λ (k : ℕ). k ∷ map f back) same
same_mapped f (z ∷ zs) x y back same = ap (λ (ns : List ℕ). f z ∷ ns) (same_mapped f zs x y back same)

-- an element that stands at a place
pub got_or : {X : Type 0} (xs : List X) (i : ℕ) (d : X) → i < length xs → slice_get xs i ≡ Some (get_or xs i d)
got_or [] i d within = absurd (omega arith)
got_or (x ∷ xs) zero d within = refl
got_or (x ∷ xs) (suc i) d within = got_or xs i d (omega arith)
