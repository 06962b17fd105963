-- What holds of each element, and of each two in order, of a list from which one is taken, or in which one is replaced.
use Rattle.std.proofs.Common.{suc, List, [], ◌∷◌, ◌++◌, arith}
use Rattle.std.specs.List.{AllByRecursion, AllPairs}
use Rattle.std.proofs.lemmas.List.Elements.{recursion_from_All, All-from_recursion}
use Rattle.std.proofs.lemmas.List.Kept.{AllPairs-cons}

-- a relation of each element and each later one, by recursion
abbrev pub Pairs : {A : Type 0} → (A → A → Type 0) → List A → Type 0
Pairs R [] = Unit {0}
Pairs R (x ∷ xs) = AllByRecursion (R x) xs × Pairs R xs

module _ {A : Type 0} where
  pub pairs_from : (R : A → A → Type 0) (xs : List A) → AllPairs R xs → Pairs R xs
  pairs_from R [] all = tt
  pairs_from R (x ∷ xs) all = (
    recursion_from_All (R x) xs (λ k d lt. all 0 (suc k) d (omega arith) (omega arith)),
    pairs_from R xs (λ i j d less lt. all (suc i) (suc j) d (omega arith) (omega arith)),
  )

  pub pairs_to : (R : A → A → Type 0) (xs : List A) → Pairs R xs → AllPairs R xs
  pairs_to R [] pairs = λ i j d less lt. absurd (omega arith)
  pairs_to R (x ∷ xs) pairs = AllPairs-cons R x xs (All-from_recursion (R x) xs pairs.0) (pairs_to R xs pairs.1)

  pub all_always : (P : A → Type 0) (xs : List A) → ((x : A) → P x) → AllByRecursion P xs
  all_always P [] holds = tt
  all_always P (x ∷ xs) holds = (holds x, all_always P xs holds)

  pub all_weaker : (P Q : A → Type 0) (xs : List A) → ((x : A) → P x → Q x) → AllByRecursion P xs → AllByRecursion Q xs
  all_weaker P Q [] more all = tt
  all_weaker P Q (x ∷ xs) more all = (more x all.0, all_weaker P Q xs more all.1)

  pub all_both : (P Q : A → Type 0) (xs : List A) → AllByRecursion P xs → AllByRecursion Q xs → AllByRecursion (λ x. P x × Q x) xs
  all_both P Q [] all others = tt
  all_both P Q (x ∷ xs) all others = ((all.0, others.0), all_both P Q xs all.1 others.1)

  pub all_join : (P : A → Type 0) (front back : List A) → AllByRecursion P front → AllByRecursion P back → AllByRecursion P (front ++ back)
  all_join P [] back all others = others
  all_join P (x ∷ xs) back all others = (all.0, all_join P xs back all.1 others)

  pub all_front : (P : A → Type 0) (front back : List A) → AllByRecursion P (front ++ back) → AllByRecursion P front
  all_front P [] back all = tt
  all_front P (x ∷ xs) back all = (all.0, all_front P xs back all.1)

  pub all_back : (P : A → Type 0) (front back : List A) → AllByRecursion P (front ++ back) → AllByRecursion P back
  all_back P [] back all = all
  all_back P (x ∷ xs) back all = all_back P xs back all.1

  pub all_without : (P : A → Type 0) (front : List A) (v : A) (back : List A) → AllByRecursion P (front ++ v ∷ back) → AllByRecursion P (front ++ back)
  all_without P [] v back all = all.1
  all_without P (x ∷ xs) v back all = (all.0, all_without P xs v back all.1)

  pub all_at : (P : A → Type 0) (front : List A) (v : A) (back : List A) → AllByRecursion P (front ++ v ∷ back) → P v
  all_at P [] v back all = all.0
  all_at P (x ∷ xs) v back all = all_at P xs v back all.1

  pub all_put : (P : A → Type 0) (front : List A) (v w : A) (back : List A) → (P v → P w) → AllByRecursion P (front ++ v ∷ back) → AllByRecursion P (front ++ w ∷ back)
  all_put P [] v w back put all = (put all.0, all.1)
  all_put P (x ∷ xs) v w back put all = (all.0, all_put P xs v w back put all.1)

  pub pairs_weaker : (R S : A → A → Type 0) (xs : List A) → ((x y : A) → R x y → S x y) → Pairs R xs → Pairs S xs
  pairs_weaker R S [] more pairs = tt
  pairs_weaker R S (x ∷ xs) more pairs = (all_weaker (R x) (S x) xs (more x) pairs.0, pairs_weaker R S xs more pairs.1)

  pub pairs_without : (R : A → A → Type 0) (front : List A) (v : A) (back : List A) → Pairs R (front ++ v ∷ back) → Pairs R (front ++ back)
  pairs_without R [] v back pairs = pairs.1
  pairs_without R (x ∷ xs) v back pairs = (all_without (R x) xs v back pairs.0, pairs_without R xs v back pairs.1)

  -- one element among those before it and those behind it
  pub pairs_before : (R : A → A → Type 0) (front : List A) (v : A) (back : List A) → Pairs R (front ++ v ∷ back) → AllByRecursion (λ w. R w v) front
  pairs_before R [] v back pairs = tt
  pairs_before R (x ∷ xs) v back pairs = (all_at (R x) xs v back pairs.0, pairs_before R xs v back pairs.1)

  pub pairs_behind : (R : A → A → Type 0) (front : List A) (v : A) (back : List A) → Pairs R (front ++ v ∷ back) → AllByRecursion (R v) back
  pairs_behind R [] v back pairs = pairs.0
  pairs_behind R (x ∷ xs) v back pairs = pairs_behind R xs v back pairs.1

  pub pairs_put : (R : A → A → Type 0) (front : List A) (v w : A) (back : List A) → ((x : A) → R x v → R x w) → ((x : A) → R v x → R w x)
      → Pairs R (front ++ v ∷ back) → Pairs R (front ++ w ∷ back)
  pairs_put R [] v w back left right pairs = (all_weaker (R v) (R w) back right pairs.0, pairs.1)
  pairs_put R (x ∷ xs) v w back left right pairs = (all_put (R x) xs v w back (left x) pairs.0, pairs_put R xs v w back left right pairs.1)

  -- a relation that follows from another one and from what holds of each element
  pub pairs_with : (R S : A → A → Type 0) (P : A → Type 0) (xs : List A) → ((x y : A) → P x → P y → R x y → S x y) → AllByRecursion P xs → Pairs R xs → Pairs S xs
  pairs_with R S P [] more all pairs = tt
  pairs_with R S P (x ∷ xs) more all pairs = (step xs all.1 pairs.0, pairs_with R S P xs more all.1 pairs.1)
    where
      step : (ys : List A) → AllByRecursion P ys → AllByRecursion (R x) ys → AllByRecursion (S x) ys
      step [] holds related = tt
      step (y ∷ ys) holds related = (more x y all.0 holds.0 related.0, step ys holds.1 related.1)
