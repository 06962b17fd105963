-- Places of a list, as one of them is written.
use Rattle.std.proofs.Common.{◌≡◌, ◌≢◌, ◌<◌, ◌⊎◌, ◌+◌, ℕ, zero, suc, List, [], ◌∷◌, length, set, replicate, Some, None, slice_get, sum_by, inl, inr, refl, sym, ap, ◌∙◌, arith}
use Rattle.std.proofs.lemmas.Option.{slice_get_within, get_or_from_slice_get}
use Rattle.std.proofs.lemmas.List.Sums.{sum_by-set}

module _ {X : Type 0} where
  pub at_set_same : (xs : List X) (i : ℕ) (x : X) → i < length xs → slice_get (set xs i x) i ≡ Some x
  at_set_same [] i x lt = absurd (omega arith)
  at_set_same (y ∷ xs) zero x lt = refl
  at_set_same (y ∷ xs) (suc i) x lt = at_set_same xs i x (omega arith)

  pub at_set_other : (xs : List X) (i j : ℕ) (x : X) → j ≢ i → slice_get (set xs i x) j ≡ slice_get xs j
  at_set_other [] i j x ne = refl
  at_set_other (y ∷ xs) zero zero x ne = absurd (ne refl)
  at_set_other (y ∷ xs) zero (suc j) x ne = refl
  at_set_other (y ∷ xs) (suc i) zero x ne = refl
  at_set_other (y ∷ xs) (suc i) (suc j) x ne = at_set_other xs i j x (λ e. ne (ap suc e))

  pub there : (xs : List X) (i : ℕ) → i < length xs → (x : X) × (slice_get xs i ≡ Some x)
  there [] i h = absurd (omega arith)
  there (x ∷ xs) zero h = (x, refl)
  there (x ∷ xs) (suc i) h = there xs i (omega arith)

  pub one_at : (xs : List X) (i : ℕ) (x y : X) → slice_get xs i ≡ Some x → slice_get xs i ≡ Some y → x ≡ y
  one_at xs i x y hx hy = let e : Some x ≡ Some y = sym hx ∙ hy in cc

  pub in_replicate : (n i : ℕ) (x : X) → (slice_get (replicate n x) i ≡ Some x) ⊎ (slice_get (replicate n x) i ≡ None)
  in_replicate zero i x = inr refl
  in_replicate (suc n) zero x = inl refl
  in_replicate (suc n) (suc i) x = in_replicate n i x

  pub of_replicate : (n i : ℕ) (x y : X) → slice_get (replicate n x) i ≡ Some y → x ≡ y
  of_replicate n i x y e = elim (in_replicate n i x) [
    | inl some ↦ one_at (replicate n x) i x y some e
    | inr none ↦ let no : None ≡ Some y = sym none ∙ e in absurd cc
  ]

  pub same_list : (xs ys : List X) → ((i : ℕ) → slice_get xs i ≡ slice_get ys i) → xs ≡ ys
  same_list [] [] same = refl
  same_list [] (y ∷ ys) same = let first : None ≡ Some y = same 0 in absurd cc
  same_list (x ∷ xs) [] same = let first : Some x ≡ None = same 0 in absurd cc
  same_list (x ∷ xs) (y ∷ ys) same =
      let first : Some x ≡ Some y = same 0 in
      let one : x ≡ y = cc in
      let rest = same_list xs ys (λ i. same (suc i)) in
      λ i. one i ∷ rest i

  pub sum_set : (f : X → ℕ) (xs : List X) (i : ℕ) (x y : X) → slice_get xs i ≡ Some x → sum_by f (set xs i y) + f x ≡ sum_by f xs + f y
  sum_set f xs i x y at =
      let within = slice_get_within xs i x at in
      let was = ap f (get_or_from_slice_get xs i x x at) in
      let sums = sum_by-set f xs i y x within in
      omega arith
