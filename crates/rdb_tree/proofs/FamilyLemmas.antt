-- Trees side by side below a node, of which one is changed, or split in two: the others still stand.
use Rattle.std.proofs.Common.{◌≡◌, zero, suc, ℕ, List, [], ◌∷◌, slice_get, Some, sym, subst}
use Rattle.std.specs.List.{flat_map}
use Rattle.rdb_cells.specs.Images.{Image}
use Rattle.rdb_cells.specs.Links.{IsAmong, AreOnce, SameOn}
use Rattle.rdb_cells.proofs.LinkLemmas.{among_front, among_back, once_parts}
use Rattle.rdb_tree.specs.TreeLaws.{still_stands}
use Rattle.rdb_tree.specs.Trees.{BTree, Each, cells, Stands}
use Rattle.rdb_tree.proofs.ChildLemmas.{with_another, with_two}
use Rattle.rdb_tree.proofs.WovenLemmas.{own_cells}

module _ (before after : Image) (h : ℕ) where
  -- trees whose cells stay still stand
  pub all_still : (ts : List (BTree h)) → SameOn (flat_map (cells h) ts) before after → Each (Stands h before) ts → Each (Stands h after) ts
  all_still [] same stand = tt
  all_still (t ∷ ts) same stand = (
    still_stands before after h t (λ n within. same n (among_front (cells h t) (flat_map (cells h) ts) n within)) stand.0,
    all_still ts (λ n within. same n (among_back (cells h t) (flat_map (cells h) ts) n within)) stand.1,
  )

  -- one is changed, the others stay
  pub others_still : (ts : List (BTree h)) (n : ℕ) (c d : BTree h) → slice_get ts n ≡ Some c → AreOnce (flat_map (cells h) ts) → ((m : ℕ) → IsAmong (flat_map (cells h) ts) m → (¬ IsAmong (cells h c) m) → after m ≡ before m) → Each (Stands h before) ts → Stands h after d → Each (Stands h after) (with_another n d ts)
  others_still [] n c d at once same stand here = cc
  others_still (t ∷ ts) zero c d at once same stand here =
      let is : t ≡ c = cc in
      let parts = once_parts (cells h t) (flat_map (cells h) ts) once in
      (here, all_still ts (λ m within. same m (among_back (cells h t) (flat_map (cells h) ts) m within) (λ own. parts.2 m (subst (λ (x : BTree h). IsAmong (cells h x) m) (sym is) own) within)) stand.1)
  others_still (t ∷ ts) (suc n) c d at once same stand here =
      let parts = once_parts (cells h t) (flat_map (cells h) ts) once in (
        still_stands before after h t (λ m within. same m (among_front (cells h t) (flat_map (cells h) ts) m within) (λ own. parts.2 m within (own_cells h ts n c at m own))) stand.0,
        others_still ts n c d at parts.1 (λ m within. same m (among_back (cells h t) (flat_map (cells h) ts) m within)) stand.1 here,
      )

  -- two stand in the place of one, the others stay
  pub two_still : (ts : List (BTree h)) (n : ℕ) (c l r : BTree h) → slice_get ts n ≡ Some c → AreOnce (flat_map (cells h) ts) → ((m : ℕ) → IsAmong (flat_map (cells h) ts) m → (¬ IsAmong (cells h c) m) → after m ≡ before m) → Each (Stands h before) ts → Stands h after l → Stands h after r → Each (Stands h after) (with_two n l r ts)
  two_still [] n c l r at once same stand left right = cc
  two_still (t ∷ ts) zero c l r at once same stand left right =
      let is : t ≡ c = cc in
      let parts = once_parts (cells h t) (flat_map (cells h) ts) once in
      (left, (right, all_still ts (λ m within. same m (among_back (cells h t) (flat_map (cells h) ts) m within) (λ own. parts.2 m (subst (λ (x : BTree h). IsAmong (cells h x) m) (sym is) own) within)) stand.1))
  two_still (t ∷ ts) (suc n) c l r at once same stand left right =
      let parts = once_parts (cells h t) (flat_map (cells h) ts) once in (
        still_stands before after h t (λ m within. same m (among_front (cells h t) (flat_map (cells h) ts) m within) (λ own. parts.2 m within (own_cells h ts n c at m own))) stand.0,
        two_still ts n c l r at parts.1 (λ m within. same m (among_back (cells h t) (flat_map (cells h) ts) m within)) stand.1 left right,
      )
