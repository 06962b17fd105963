-- Entries that go from one list to two others.
use Rattle.std.proofs.Common.{◌≡◌, ◌+◌, List, [], ◌∷◌, ◌++◌, length, length-append, sym, ap, subst, arith}
use Rattle.std.proofs.lemmas.List.{append_assoc, append-nil}
use Rattle.std.proofs.lemmas.List.Sorted.{IsPermutation-trans, IsPermutation-cons, IsPermutation-sym, IsPermutation-middle, IsPermutation-append_left, IsPermutation-append_right, length_permutation}
use Rattle.std.specs.Prelude.{IsPermutation}

module _ {X : Type 0} where
  pub two_taken : (all first second : List X) (a b : X) → IsPermutation all (a ∷ first) → IsPermutation first (b ∷ second) → IsPermutation all (b ∷ a ∷ second)
  two_taken all first second a b one two =
      IsPermutation-trans all (a ∷ first) (b ∷ a ∷ second) one
      (IsPermutation-trans (a ∷ first) (a ∷ b ∷ second) (b ∷ a ∷ second) (IsPermutation-cons a first (b ∷ second) two)
      (IsPermutation-sym (b ∷ a ∷ second) (a ∷ b ∷ second) (IsPermutation-middle (b ∷ []) a second)))

  taken_then : (all both rest left : List X) (x : X) → IsPermutation all (both ++ rest) → IsPermutation rest (x ∷ left) → IsPermutation all (x ∷ (both ++ left))
  taken_then all both rest left x whole one =
      IsPermutation-trans all (both ++ rest) (x ∷ (both ++ left)) whole
      (IsPermutation-trans (both ++ rest) (both ++ x ∷ left) (x ∷ (both ++ left)) (IsPermutation-append_right both rest (x ∷ left) one) (IsPermutation-middle both x left))

  pub goes_first : (all first second rest left : List X) (x : X) → IsPermutation all ((first ++ second) ++ rest) → IsPermutation rest (x ∷ left) → IsPermutation all (((first ++ x ∷ []) ++ second) ++ left)
  goes_first all first second rest left x whole one =
      IsPermutation-trans all (x ∷ ((first ++ second) ++ left)) (((first ++ x ∷ []) ++ second) ++ left) (taken_then all (first ++ second) rest left x whole one)
      (IsPermutation-append_left left (x ∷ (first ++ second)) ((first ++ x ∷ []) ++ second)
      (subst (λ (ys : List X). IsPermutation (x ∷ (first ++ second)) ys) (sym (append_assoc first (x ∷ []) second))
      (IsPermutation-sym (first ++ x ∷ second) (x ∷ (first ++ second)) (IsPermutation-middle first x second))))

  pub goes_second : (all first second rest left : List X) (x : X) → IsPermutation all ((first ++ second) ++ rest) → IsPermutation rest (x ∷ left) → IsPermutation all ((first ++ (second ++ x ∷ [])) ++ left)
  goes_second all first second rest left x whole one =
      IsPermutation-trans all (x ∷ ((first ++ second) ++ left)) ((first ++ (second ++ x ∷ [])) ++ left) (taken_then all (first ++ second) rest left x whole one)
      (IsPermutation-append_left left (x ∷ (first ++ second)) (first ++ (second ++ x ∷ []))
      (subst (λ (ys : List X). IsPermutation (x ∷ (first ++ second)) ys) (append_assoc first second (x ∷ []))
      (IsPermutation-sym ((first ++ second) ++ x ∷ []) (x ∷ (first ++ second)) (ended x (first ++ second)))))
    where
      ended : (y : X) (ys : List X) → IsPermutation (ys ++ y ∷ []) (y ∷ ys)
      ended y ys = subst (λ (zs : List X). IsPermutation (ys ++ y ∷ []) (y ∷ zs)) (append-nil ys) (IsPermutation-middle ys y [])

  pub so_many : (all first second rest : List X) → IsPermutation all ((first ++ second) ++ rest) → length first + length second + length rest ≡ length all
  so_many all first second rest whole =
      let same = length_permutation all ((first ++ second) ++ rest) whole in
      let outer = length-append (first ++ second) rest in
      let inner = length-append first second in
      omega arith

  pub pushed : (xs ys : List X) (x : X) → ys ≡ xs ++ x ∷ [] → length ys ≡ length xs + 1
  pushed xs ys x is = let same = ap (length {A = X}) is in let long = length-append xs (x ∷ []) in omega arith

  pub one_less : (xs ys : List X) (x : X) → IsPermutation xs (x ∷ ys) → length ys + 1 ≡ length xs
  one_less xs ys x order = let same = length_permutation xs (x ∷ ys) order in omega arith
