-- Where a version stands that isn't listed: what is before the place goes before it, and what is behind doesn't.
use Rattle.std.proofs.Common.{◌≡◌, ◌+◌, zero, suc, ℕ, List, [], ◌∷◌, ◌++◌, length, cond, slice_get, Some, Bool, true, false, refl, sym, ap, subst, ◌∙◌, arith}
use Rattle.std.proofs.lemmas.List.{append_assoc}
use Rattle.std.specs.List.{prefix_len}
use Rattle.rdb_pages.specs.declared.cell.CellRef.{CellRef}
use Rattle.rdb_tree.specs.Trees.{Each, woven}
use Rattle.rdb_tree.proofs.PartLemmas.{IsParted}
use Rattle.rdb_tree.proofs.SeekLemmas.{all_before, cut_back}
use Rattle.rdb_tree.specs.Ways.{IsCut}
use Rattle.rdb_tree.proofs.WovenLemmas.{each_both}

-- one part more in front
pub record IsDeeper (keys : List CellRef) (parts : List (List CellRef)) (n : ℕ) (part front back : List CellRef) : Type 0 where
  pub parted : IsParted keys parts n part
  pub front_is : parted.front ≡ front
  pub back_is : parted.back ≡ back

pub deeper : (k : CellRef) (ks : List CellRef) (p : List CellRef) (ps : List (List CellRef)) (n : ℕ) (part : List CellRef) (rest : IsParted ks ps n part) → IsDeeper (k ∷ ks) (p ∷ ps) (suc n) part (p ++ k ∷ rest.front) rest.back
deeper k ks p ps n part rest = record {
  parted = record {
    front = p ++ k ∷ rest.front;
    back = rest.back;
    whole = ap (λ (w : List CellRef). p ++ k ∷ w) rest.whole ∙ sym (append_assoc p (k ∷ rest.front) (part ++ rest.back));
    other = λ q. ap (λ (w : List CellRef). p ++ k ∷ w) (rest.other q) ∙ sym (append_assoc p (k ∷ rest.front) (q ++ rest.back));
    two = λ q r j. ap (λ (w : List CellRef). p ++ k ∷ w) (rest.two q r j) ∙ sym (append_assoc p (k ∷ rest.front) (q ++ j ∷ (r ++ rest.back)));
  };
  front_is = refl;
  back_is = refl;
}

pub shallow : (k : CellRef) (ks : List CellRef) (p : List CellRef) (ps : List (List CellRef)) (part : List CellRef) → p ≡ part → IsDeeper (k ∷ ks) (p ∷ ps) zero part [] (k ∷ woven ks ps)
shallow k ks p ps part is = record {
  parted = record { front = []; back = k ∷ woven ks ps; whole = ap (λ (q : List CellRef). q ++ k ∷ woven ks ps) is; other = λ q. refl; two = λ q r j. refl };
  front_is = refl;
  back_is = refl;
}

pub only : (p part : List CellRef) → p ≡ part → IsDeeper [] (p ∷ []) zero part [] []
only p part is = record {
  parted = record { front = []; back = []; whole = ap (λ (q : List CellRef). q ++ []) is; other = λ q. refl; two = λ q r k. refl };
  front_is = refl;
  back_is = refl;
}

module _ (near : CellRef → Bool) where
  -- the part stands at the cut: all before it are on the near side, and none behind it is
  pub record IsAtCut (keys : List CellRef) (parts : List (List CellRef)) (n : ℕ) (part : List CellRef) : Type 0 where
    pub parted : IsParted keys parts n part
    pub before : Each (λ r. near r ≡ true) parted.front
    pub behind : Each (λ r. near r ≡ false) parted.back

  from_deeper : (keys : List CellRef) (parts : List (List CellRef)) (n : ℕ) (part front back : List CellRef) → IsDeeper keys parts n part front back → Each (λ r. near r ≡ true) front → Each (λ r. near r ≡ false) back → IsAtCut keys parts n part
  from_deeper keys parts n part front back is first second = record {
    parted = is.parted;
    before = subst (Each (λ r. near r ≡ true)) (sym is.front_is) first;
    behind = subst (Each (λ r. near r ≡ false)) (sym is.back_is) second;
  }

  -- the part behind the keys on the near side
  pub at_cut : (keys : List CellRef) (parts : List (List CellRef)) (n : ℕ) (part : List CellRef) → slice_get parts n ≡ Some part → length parts ≡ length keys + 1 → n ≡ prefix_len near keys → IsCut near (woven keys parts) → IsAtCut keys parts n part
  at_cut keys [] n part at same place cut = cc
  at_cut [] (p ∷ []) zero part at same place cut = let is : p ≡ part = cc in from_deeper [] (p ∷ []) zero part [] [] (only p part is) tt tt
  at_cut [] (p ∷ []) (suc n) part at same place cut = cc
  at_cut [] (p ∷ q ∷ ps) n part at same place cut = absurd (omega arith)
  at_cut (k ∷ ks) (p ∷ ps) zero part at same place cut = by_test (near k) refl place
    where
      by_test : (b : Bool) → near k ≡ b → 0 ≡ cond b (1 + prefix_len near ks) 0 → IsAtCut (k ∷ ks) (p ∷ ps) zero part
      by_test true is none = absurd (omega arith)
      by_test false far none =
          let is : p ≡ part = cc in
          from_deeper (k ∷ ks) (p ∷ ps) zero part [] (k ∷ woven ks ps) (shallow k ks p ps part is) tt (far, (cut_back near p (k ∷ woven ks ps) cut).0 far)
  at_cut (k ∷ ks) (p ∷ ps) (suc n) part at same place cut = by_test (near k) refl place (λ inner. at_cut ks ps n part at (omega arith) inner (cut_back near p (k ∷ woven ks ps) cut).1)
    where
      by_test : (b : Bool) → near k ≡ b → suc n ≡ cond b (1 + prefix_len near ks) 0 → (n ≡ prefix_len near ks → IsAtCut ks ps n part) → IsAtCut (k ∷ ks) (p ∷ ps) (suc n) part
      by_test true is one inner =
          let rest = inner (omega arith) in
          from_deeper (k ∷ ks) (p ∷ ps) (suc n) part (p ++ k ∷ rest.parted.front) rest.parted.back (deeper k ks p ps n part rest.parted)
          (each_both (λ r. near r ≡ true) p (k ∷ rest.parted.front) (all_before near p k (woven ks ps) cut is) (is, rest.before)) rest.behind
      by_test false is one inner = absurd (omega arith)
