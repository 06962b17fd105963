-- That the order in which records are taken back doesn't matter where no two have a pair of one cell.
use Rattle.std.proofs.Common.{◌≡◌, ◌<◌, ◌||◌, ℕ, zero, suc, List, [], ◌∷◌, length, Bool, true, false, refl, sym, ap, ◌∙◌, arith, inl, inr, subst}
use Rattle.std.proofs.lemmas.List.Sorted.{Contains-permutation, IsPermutation-sym, list_any-IsPermutation}
use Rattle.std.specs.List.{list_any, Contains, slice_index_or}
use Rattle.std.specs.Prelude.{IsPermutation}
use Rattle.rdb_cells.specs.declared.pairs.Pair.{Pair}
use Rattle.rdb_cells.specs.Images.{Image, SameImage}
use Rattle.rdb_cells.specs.Records.{names, taken_back, settled, AreApart}
use Rattle.rdb_cells.proofs.SettledLemmas.{true_or_false, taken_back-named, taken_back-other, settled-other}

-- a record of the list that names the cell
member_names : (rs : List (List Pair)) (r : List Pair) (n k : ℕ) → k < length rs → slice_index_or rs k r ≡ r → names r n ≡ true → list_any (λ q. names q n) rs ≡ true
member_names [] r n k lt e named = absurd (omega arith)
member_names (q ∷ qs) r n zero lt e named = ap (λ (b : Bool). b || list_any (λ (s : List Pair). names s n) qs) (subst (λ (s : List Pair). names s n ≡ true) (sym e) named)
member_names (q ∷ qs) r n (suc k) lt e named =
    let rest = member_names qs r n k (omega arith) e named in
    elim (names q n) as (λ (b : Bool). (b || list_any (λ (s : List Pair). names s n) qs) ≡ true) [ true ↦ refl | false ↦ rest ]

-- where the records are apart, it alone sets the cell
only_one : (rs : List (List Pair)) (r : List Pair) (n k : ℕ) (image : Image) → AreApart rs → k < length rs → slice_index_or rs k r ≡ r → names r n ≡ true → settled rs image n ≡ taken_back r image n
only_one [] r n k image apart lt e named = absurd (omega arith)
only_one (q ∷ qs) r n zero image apart lt e named =
    taken_back-named q (settled qs image) image n (subst (λ (s : List Pair). names s n ≡ true) (sym e) named)
    ∙ ap (λ (s : List Pair). taken_back s image n) e
only_one (q ∷ qs) r n (suc k) image apart lt e named = elim (true_or_false (names q n)) [
  | inl both ↦
      let none = apart.0 n both in
      let some = member_names qs r n k (omega arith) e named in
      cc (none, some)
  | inr off ↦ taken_back-other q (settled qs image) n off ∙ only_one qs r n k image apart.1 (omega arith) e named
]

-- in any order, the first record that names the cell sets it
first_one : (ss : List (List Pair)) (n : ℕ) (image : Image) → list_any (λ q. names q n) ss ≡ true → (s : List Pair) × Contains ss s × (names s n ≡ true) × (settled ss image n ≡ taken_back s image n)
first_one [] n image e = cc
first_one (q ∷ qs) n image e = elim (true_or_false (names q n)) [
  | inl on ↦ (q, (0, omega arith, refl), on, taken_back-named q (settled qs image) image n on)
  | inr off ↦
      let t = first_one qs n image (sym (ap (λ (b : Bool). b || list_any (λ (s : List Pair). names s n) qs) off) ∙ e) in
      (t.0, (suc t.1.0, omega (arith, t.1.1), t.1.2), t.2, taken_back-other q (settled qs image) n off ∙ t.3)
]

pub order_free : (rs ss : List (List Pair)) (image : Image) → AreApart rs → IsPermutation rs ss → SameImage (settled rs image) (settled ss image)
order_free rs ss image apart perm n = elim (true_or_false (list_any (λ (q : List Pair). names q n) ss)) [
  | inl on ↦
      let t = first_one ss n image on in
      let there = Contains-permutation ss rs t.0 (IsPermutation-sym rs ss perm) t.1 in
      only_one rs t.0 n there.0 image apart there.1 there.2 t.2 ∙ sym t.3
  | inr off ↦
      settled-other rs image n (list_any-IsPermutation (λ (q : List Pair). names q n) rs ss perm ∙ off)
      ∙ sym (settled-other ss image n off)
]
