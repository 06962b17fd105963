-- Where a listed version stands: among a node's keys, at the place behind those before it, or below the child at that place.
use Rattle.std.proofs.Common.{◌≡◌, ◌≢◌, ◌+◌, ◌⊎◌, zero, suc, ℕ, List, [], ◌∷◌, ◌++◌, length, cond, slice_get, Option, Some, IsSome, Bool, true, false, inl, inr, refl, sym, ap, ap₂, subst, ◌∙◌, arith}
use Rattle.std.proofs.lemmas.Bool.{false≢true}
use Rattle.std.proofs.lemmas.List.{append-nil}
use Rattle.std.proofs.lemmas.List.Elements.{Contains-append_right}
use Rattle.std.specs.List.{Contains, prefix_len}
use Rattle.std.specs.Ordering.{is_lt, is_some_and, ordering_reverse}
use Rattle.std.specs.declared.cmp.Ordering.{Ordering}
use Rattle.std.specs.declared.cmp.Ordering.TheVariants.{Less}
use Rattle.rdb_pages.specs.declared.cell.CellRef.{CellRef}
use Rattle.rdb_cells.specs.Keys.{Version, Sayings, version_order}
use Rattle.rdb_cells.proofs.ListedLemmas.{contains_either, contains_later}
use Rattle.rdb_cells.proofs.VersionOrder.{version_order_total}
use Rattle.rdb_tree.specs.Order.{IsBefore, AreAscending, is_before, order_of_both}
use Rattle.rdb_tree.specs.Trees.{Each, woven}
use Rattle.rdb_tree.proofs.VersionLemmas.{some_version, goes_before}
use Rattle.rdb_tree.proofs.WovenLemmas.{each_back, ascending_back}

contains_split : (xs ys : List CellRef) (r : CellRef) → Contains (xs ++ ys) r → Contains xs r ⊎ Contains ys r
contains_split [] ys r within = inr within
contains_split (x ∷ xs) ys r within = elim (contains_either x (xs ++ ys) r within) [
  | inl same ↦ inl (0, omega arith, same)
  | inr later ↦ elim (contains_split xs ys r later) [
    | inl front ↦ inl (contains_later x r xs front)
    | inr back ↦ inr back
  ]
]

each_of : (P : CellRef → Type 0) (xs : List CellRef) (r : CellRef) → Each P xs → Contains xs r → P r
each_of P [] r each within = absurd (omega (arith, within.1))
each_of P (x ∷ xs) r each within = elim (contains_either x xs r within) [
  | inl same ↦ subst P same each.0
  | inr later ↦ each_of P xs r each.1 later
]

module _ (said : Sayings) (version : CellRef) (keyed : IsSome (said.version_of version.number)) where
  abbrev near : CellRef → Bool
  near = is_before said version

  near_before : (a : CellRef) → IsBefore said a version → near a ≡ true
  near_before a before = ap₂ (λ (o p : Option Version). is_some_and is_lt (order_of_both o p)) before.is_first before.is_second ∙ ap is_lt before.less

  never_less : (o : Ordering) → o ≡ ordering_reverse o → o ≡ Less → ⊥
  never_less o turned less = false≢true (ap is_lt (sym (ap ordering_reverse less)) ∙ ap is_lt (sym turned) ∙ ap is_lt less)

  not_itself : near version ≢ true
  not_itself is =
      let x = some_version (said.version_of version.number) keyed in
      let before = goes_before said version x.0 x.1 version keyed is in
      let firsts : Some before.first ≡ Some before.second = sym before.is_first ∙ before.is_second in
      let same : before.first ≡ before.second = cc in
      never_less (version_order before.first before.first) (version_order_total.antisymm before.first before.first) (ap (version_order before.first) same ∙ before.less)

  not_both : (a : CellRef) → IsSome (said.version_of a.number) → near a ≡ true → IsBefore said version a → ⊥
  not_both a has is after =
      let x = some_version (said.version_of version.number) keyed in
      let before = goes_before said version x.0 x.1 a has is in
      let firsts : Some after.second ≡ Some before.first = sym after.is_second ∙ before.is_first in
      let same : after.second ≡ before.first = cc in
      let others : Some after.first ≡ Some before.second = sym after.is_first ∙ before.is_second in
      let also : after.first ≡ before.second = cc in
      let chain = version_order_total.trans after.first after.second after.first after.less (ap₂ version_order same also ∙ before.less) in
      never_less (version_order after.first after.first) (version_order_total.antisymm after.first after.first) chain

  before_later : (xs : List CellRef) (k : CellRef) (ys : List CellRef) (r : CellRef) → AreAscending said (xs ++ k ∷ ys) → Contains xs r → IsBefore said r k
  before_later [] k ys r ascending within = absurd (omega (arith, within.1))
  before_later (x ∷ xs) k ys r ascending within = elim (contains_either x xs r within) [
    | inl same ↦ subst (λ (q : CellRef). IsBefore said q k) same (each_back (IsBefore said x) xs (k ∷ ys) ascending.0).0
    | inr later ↦ before_later xs k ys r ascending.1 later
  ]

  -- in a leaf
  pub located_leaf : (keys : List CellRef) (n : ℕ) → n ≡ prefix_len near keys → AreAscending said keys → Contains keys version → slice_get keys n ≡ Some version
  located_leaf [] n same ascending within = absurd (omega (arith, within.1))
  located_leaf (k ∷ ks) zero same ascending within = by_test (near k) refl same
    where
      by_test : (b : Bool) → near k ≡ b → 0 ≡ cond b (1 + prefix_len near ks) 0 → Some k ≡ Some version
      by_test true is none = absurd (omega arith)
      by_test false far none = elim (contains_either k ks version within) [
        | inl is ↦ ap Some is
        | inr later ↦ absurd (false≢true (sym far ∙ near_before k (each_of (IsBefore said k) ks version ascending.0 later)))
      ]
  located_leaf (k ∷ ks) (suc n) same ascending within = by_test (near k) refl same (λ inner later. located_leaf ks n inner ascending.1 later)
    where
      by_test : (b : Bool) → near k ≡ b → suc n ≡ cond b (1 + prefix_len near ks) 0 → (n ≡ prefix_len near ks → Contains ks version → slice_get ks n ≡ Some version) → slice_get ks n ≡ Some version
      by_test true is one inner = elim (contains_either k ks version within) [
        | inl same_one ↦ absurd (not_itself (subst (λ (q : CellRef). near q ≡ true) same_one is))
        | inr later ↦ inner (omega arith) later
      ]
      by_test false far one inner = absurd (omega arith)

  -- in a node with children
  pub record IsBelow (parts : List (List CellRef)) (n : ℕ) : Type 0 where
    pub part : List CellRef
    pub there : slice_get parts n ≡ Some part
    pub within : Contains part version

  pub located : (keys : List CellRef) (parts : List (List CellRef)) (n : ℕ) → n ≡ prefix_len near keys → length parts ≡ length keys + 1 → ((r : CellRef) → Contains (woven keys parts) r → IsSome (said.version_of r.number)) → AreAscending said (woven keys parts) → Contains (woven keys parts) version →
      (slice_get keys n ≡ Some version) ⊎ IsBelow parts n
  located [] [] n same many all ascending within = absurd (omega arith)
  located [] (p ∷ q ∷ ps) n same many all ascending within = absurd (omega arith)
  located [] (p ∷ []) zero same many all ascending within = inr (record { part = p; there = refl; within = subst (λ (rs : List CellRef). Contains rs version) (append-nil p) within })
  located [] (p ∷ []) (suc n) same many all ascending within = absurd (omega arith)
  located (k ∷ ks) [] n same many all ascending within = absurd (omega arith)
  located (k ∷ ks) (p ∷ ps) zero same many all ascending within = by_test (near k) refl same (contains_split p (k ∷ woven ks ps) version within)
    where
      of_rest : near k ≡ false → (k ≡ version) ⊎ Contains (woven ks ps) version → (Some k ≡ Some version) ⊎ IsBelow (p ∷ ps) 0
      of_rest far (inl is) = inl (ap Some is)
      of_rest far (inr later) = absurd (false≢true (sym far ∙ near_before k (each_of (IsBefore said k) (woven ks ps) version (ascending_back said p (k ∷ woven ks ps) ascending).0 later)))

      by_test : (b : Bool) → near k ≡ b → 0 ≡ cond b (1 + prefix_len near ks) 0 → Contains p version ⊎ Contains (k ∷ woven ks ps) version → (Some k ≡ Some version) ⊎ IsBelow (p ∷ ps) 0
      by_test true is none place = absurd (omega arith)
      by_test false far none (inl own) = inr (record { part = p; there = refl; within = own })
      by_test false far none (inr rest) = of_rest far (contains_either k (woven ks ps) version rest)
  located (k ∷ ks) (p ∷ ps) (suc n) same many all ascending within = by_test (near k) refl same (contains_split p (k ∷ woven ks ps) version within) (λ inner later. located ks ps n inner (omega arith) (λ r inside. all r (in_rest r inside)) (ascending_back said p (k ∷ woven ks ps) ascending).1 later)
    where
      in_rest : (r : CellRef) → Contains (woven ks ps) r → Contains (p ++ k ∷ woven ks ps) r
      in_rest r inside = Contains-append_right p (k ∷ woven ks ps) r (contains_later k r (woven ks ps) inside)

      lift : (slice_get ks n ≡ Some version) ⊎ IsBelow ps n → (slice_get ks n ≡ Some version) ⊎ IsBelow (p ∷ ps) (suc n)
      lift (inl is) = inl is
      lift (inr below) = inr (record { part = below.part; there = below.there; within = below.within })

      of_rest : near k ≡ true → n ≡ prefix_len near ks → (k ≡ version) ⊎ Contains (woven ks ps) version → (n ≡ prefix_len near ks → Contains (woven ks ps) version → (slice_get ks n ≡ Some version) ⊎ IsBelow ps n) → (slice_get ks n ≡ Some version) ⊎ IsBelow (p ∷ ps) (suc n)
      of_rest is inner (inl one) go = absurd (not_itself (subst (λ (q : CellRef). near q ≡ true) one is))
      of_rest is inner (inr later) go = lift (go inner later)

      by_test : (b : Bool) → near k ≡ b → suc n ≡ cond b (1 + prefix_len near ks) 0 → Contains p version ⊎ Contains (k ∷ woven ks ps) version → (n ≡ prefix_len near ks → Contains (woven ks ps) version → (slice_get ks n ≡ Some version) ⊎ IsBelow ps n) → (slice_get ks n ≡ Some version) ⊎ IsBelow (p ∷ ps) (suc n)
      by_test true is one (inl own) go = absurd (not_both k (all k (Contains-append_right p (k ∷ woven ks ps) k (0, omega arith, refl))) is (before_later p k (woven ks ps) version ascending own))
      by_test true is one (inr rest) go = of_rest is (omega arith) (contains_either k (woven ks ps) version rest) go
      by_test false far one place go = absurd (omega arith)
