-- What stands at a place of a list that grows at its end, or that is changed at one place.
use Rattle.std.proofs.Common.{◌≡◌, ◌≢◌, ℕ, zero, suc, ◌+◌, ◌<◌, List, [], ◌∷◌, ◌++◌, length, take, drop, set, slice_get, Some, refl, sym, ap, ◌∙◌, arith, inl, inr, ◌⊎◌, add-one}

module _ {A : Type 0} where
  pub get_left : (xs ys : List A) (i : ℕ) → i < length xs → slice_get (xs ++ ys) i ≡ slice_get xs i
  get_left [] ys i h = absurd (omega arith)
  get_left (x ∷ xs) ys zero h = refl
  get_left (x ∷ xs) ys (suc i) h = get_left xs ys i (omega arith)

  pub get_last : (xs : List A) (y : A) → slice_get (xs ++ y ∷ []) (length xs) ≡ Some y
  get_last [] y = refl
  get_last (x ∷ xs) y = get_last xs y

  pub get_within : (xs : List A) (i : ℕ) (x : A) → slice_get xs i ≡ Some x → i < length xs
  get_within [] i x e = (cc)
  get_within (y ∷ xs) zero x e = omega arith
  get_within (y ∷ xs) (suc i) x e = let below = get_within xs i x e in omega arith

  pub get_there : (xs : List A) (i : ℕ) → i < length xs → (x : A) × (slice_get xs i ≡ Some x)
  get_there [] i h = absurd (omega arith)
  get_there (x ∷ xs) zero h = (x, refl)
  get_there (x ∷ xs) (suc i) h = get_there xs i (omega arith)

  -- an element of a list that is one longer is one of the list, or the last
  pub get_pushed : (xs : List A) (y x : A) (i : ℕ) → slice_get (xs ++ y ∷ []) i ≡ Some x → (slice_get xs i ≡ Some x) ⊎ ((i ≡ length xs) × (y ≡ x))
  get_pushed [] y x zero e = inr (refl, (cc))
  get_pushed [] y x (suc i) e = (cc)
  get_pushed (z ∷ xs) y x zero e = inl e
  get_pushed (z ∷ xs) y x (suc i) e = elim (get_pushed xs y x i e) [ inl f ↦ inl f | inr f ↦ inr (ap suc f.0, f.1) ]

  pub get_set_same : (xs : List A) (i : ℕ) (x y : A) → slice_get xs i ≡ Some x → slice_get (set xs i y) i ≡ Some y
  get_set_same [] i x y e = (cc)
  get_set_same (z ∷ xs) zero x y e = refl
  get_set_same (z ∷ xs) (suc i) x y e = get_set_same xs i x y e

  pub get_set_other : (xs : List A) (i j : ℕ) (y : A) → j ≢ i → slice_get (set xs i y) j ≡ slice_get xs j
  get_set_other [] i j y apart = refl
  get_set_other (z ∷ xs) zero zero y apart = absurd (apart refl)
  get_set_other (z ∷ xs) zero (suc j) y apart = refl
  get_set_other (z ∷ xs) (suc i) zero y apart = refl
  get_set_other (z ∷ xs) (suc i) (suc j) y apart = get_set_other xs i j y (λ e. apart (ap suc e))

  drop_suc : (xs : List A) (i : ℕ) (x : A) → slice_get xs i ≡ Some x → drop i xs ≡ x ∷ drop (suc i) xs
  drop_suc [] i x e = (cc)
  drop_suc (y ∷ xs) zero x e = let one : y ≡ x = (cc) in ap (λ z. z ∷ xs) one
  drop_suc (y ∷ xs) (suc i) x e = drop_suc xs i x e

  pub drop_here : (xs : List A) (i : ℕ) (x : A) → slice_get xs i ≡ Some x → drop i xs ≡ x ∷ drop (i + 1) xs
  drop_here xs i x e = drop_suc xs i x e ∙ ap (λ k. x ∷ drop k xs) (sym (add-one i))

  take_suc : (xs : List A) (i : ℕ) (x : A) → slice_get xs i ≡ Some x → take (suc i) xs ≡ take i xs ++ x ∷ []
  take_suc [] i x e = (cc)
  take_suc (y ∷ xs) zero x e = let one : y ≡ x = (cc) in ap (λ z. z ∷ []) one
  take_suc (y ∷ xs) (suc i) x e = ap (λ ys. y ∷ ys) (take_suc xs i x e)

  pub take_more : (xs : List A) (i : ℕ) (x : A) → slice_get xs i ≡ Some x → take (i + 1) xs ≡ take i xs ++ x ∷ []
  take_more xs i x e = ap (λ k. take k xs) (add-one i) ∙ take_suc xs i x e
