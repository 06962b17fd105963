-- A version that comes to its place in a part comes to its place in the whole.
use Rattle.std.proofs.Common.{◌≡◌, ◌+◌, zero, suc, ℕ, List, [], ◌∷◌, ◌++◌, take, drop, cond, map, Bool, true, false, refl, sym, ap, ◌∙◌, arith}
use Rattle.std.proofs.lemmas.List.{append_assoc, take-append-drop}
use Rattle.std.specs.List.{prefix_len}
use Rattle.rdb_pages.specs.declared.cell.CellRef.{CellRef}
use Rattle.rdb_tree.specs.Changes.{raised_keys}
use Rattle.rdb_tree.specs.Growth.{ComesTo}
use Rattle.rdb_tree.specs.Trees.{BTree, Each, woven, versions}
use Rattle.rdb_tree.specs.Ways.{IsCut}
use Rattle.rdb_tree.proofs.ChildLemmas.{with_another, with_two, map_another, map_two}
use Rattle.rdb_tree.proofs.PlaceLemmas.{IsAtCut}
use Rattle.rdb_tree.proofs.WovenLemmas.{each_both}

module _ (near : CellRef → Bool) (version : CellRef) where
  module _ (keys : List CellRef) (parts : List (List CellRef)) (n : ℕ) (part now : List CellRef) (place : IsAtCut near keys parts n part) (comes : ComesTo near version part now) where
    pub comes_up : (all : List CellRef) → all ≡ place.parted.front ++ (now ++ place.parted.back) → ComesTo near version (woven keys parts) all
    comes_up all is = record {
      front = place.parted.front ++ comes.front;
      back = comes.back ++ place.parted.back;
      was_is =
          place.parted.whole
          ∙ ap (λ (p : List CellRef). place.parted.front ++ (p ++ place.parted.back)) comes.was_is
          ∙ ap (λ (p : List CellRef). place.parted.front ++ p) (append_assoc comes.front comes.back place.parted.back)
          ∙ sym (append_assoc place.parted.front comes.front (comes.back ++ place.parted.back));
      now_is =
          is
          ∙ ap (λ (p : List CellRef). place.parted.front ++ (p ++ place.parted.back)) comes.now_is
          ∙ ap (λ (p : List CellRef). place.parted.front ++ p) (append_assoc comes.front (version ∷ comes.back) place.parted.back)
          ∙ sym (append_assoc place.parted.front comes.front (version ∷ (comes.back ++ place.parted.back)));
      before = each_both (λ r. near r ≡ true) place.parted.front comes.front place.before comes.before;
      behind = each_both (λ r. near r ≡ false) comes.back place.parted.back comes.behind place.behind;
    }

  module _ (h : ℕ) (keys : List CellRef) (ts : List (BTree h)) (n : ℕ) (part : List CellRef) (place : IsAtCut near keys (map (versions h) ts) n part) where
    -- with another child in the place of one
    pub comes_another : (d : BTree h) → ComesTo near version part (versions h d) → ComesTo near version (woven keys (map (versions h) ts)) (woven keys (map (versions h) (with_another n d ts)))
    comes_another d comes = comes_up keys (map (versions h) ts) n part (versions h d) place comes (woven keys (map (versions h) (with_another n d ts)))
        (ap (woven keys) (map_another (versions h) n d ts) ∙ place.parted.other (versions h d))

    -- with two, and a key between them
    pub comes_two : (l r : BTree h) (k : CellRef) → ComesTo near version part (versions h l ++ k ∷ versions h r) → ComesTo near version (woven keys (map (versions h) ts)) (woven (raised_keys n k keys) (map (versions h) (with_two n l r ts)))
    comes_two l r k comes = comes_up keys (map (versions h) ts) n part (versions h l ++ k ∷ versions h r) place comes (woven (raised_keys n k keys) (map (versions h) (with_two n l r ts)))
        (ap (woven (raised_keys n k keys)) (map_two (versions h) n l r ts)
        ∙ place.parted.two (versions h l) (versions h r) k
        ∙ ap (λ (p : List CellRef). place.parted.front ++ p) (sym (append_assoc (versions h l) (k ∷ versions h r) place.parted.back)))

  -- in a leaf
  cut_keys : (place : ℕ) (keys : List CellRef) → place ≡ prefix_len near keys → IsCut near keys → Each (λ r. near r ≡ true) (take place keys) × Each (λ r. near r ≡ false) (drop place keys)
  cut_keys zero [] same cut = (tt, tt)
  cut_keys (suc n) [] same cut = (tt, tt)
  cut_keys zero (k ∷ ks) same cut = by_test (near k) refl same
    where
      by_test : (b : Bool) → near k ≡ b → 0 ≡ cond b (1 + prefix_len near ks) 0 → Each (λ r. near r ≡ true) [] × Each (λ r. near r ≡ false) (k ∷ ks)
      by_test true is none = absurd (omega arith)
      by_test false far none = (tt, (far, cut.0 far))
  cut_keys (suc n) (k ∷ ks) same cut = by_test (near k) refl same (λ inner. cut_keys n ks inner cut.1)
    where
      by_test : (b : Bool) → near k ≡ b → suc n ≡ cond b (1 + prefix_len near ks) 0 → (n ≡ prefix_len near ks → Each (λ r. near r ≡ true) (take n ks) × Each (λ r. near r ≡ false) (drop n ks)) → Each (λ r. near r ≡ true) (k ∷ take n ks) × Each (λ r. near r ≡ false) (drop n ks)
      by_test true is one inner = let rest = inner (omega arith) in ((is, rest.0), rest.1)
      by_test false is one inner = absurd (omega arith)

  pub comes_leaf : (place : ℕ) (keys : List CellRef) → place ≡ prefix_len near keys → IsCut near keys → ComesTo near version keys (raised_keys place version keys)
  comes_leaf place keys same cut =
      let parts = cut_keys place keys same cut in
      record {
        front = take place keys;
        back = drop place keys;
        was_is = sym (take-append-drop place keys);
        now_is = refl;
        before = parts.0;
        behind = parts.1;
      }
