-- A node with what was raised into it, which may be one key too many: written as it is, or split.
use Rattle.std.proofs.Common.{◌≡◌, ◌≢◌, ◌≤◌, ◌+◌, zero, suc, ℕ, List, [], ◌∷◌, ◌++◌, length, take, drop, map, slice_get, Some, Bool, inl, inr, refl, sym, ap, subst, ◌∙◌, arith}
use Rattle.std.proofs.lemmas.List.Sums.{prefix_len-le-length}
use Rattle.std.specs.List.{flat_map, prefix_len}
use Rattle.rdb_pages.specs.declared.cell.CellRef.{CellRef}
use Rattle.rdb_cells.specs.Images.{Image, Writes}
use Rattle.rdb_cells.specs.Links.{IsAmong, AreOnce, AreDisjoint}
use Rattle.rdb_cells.proofs.LinkLemmas.{among_either, among_front, among_back, among_past, among_but, once_parts, once_together}
use Rattle.rdb_tree.specs.Changes.{cell_of, raised_keys, raised_children}
use Rattle.rdb_tree.specs.Growth.{ComesTo, AddsCells, StaysBeside, IsGrown, IsHalved}
use Rattle.rdb_tree.specs.Trees.{BTree, Below, Each, versions, cells, roots, Stands, IsShaped, least_keys}
use Rattle.rdb_tree.proofs.ChangeLemmas.{below_there, one_key_more}
use Rattle.rdb_tree.proofs.ChildLemmas.{with_two, each_two, length_two, two_roots}
use Rattle.rdb_tree.proofs.ComingLemmas.{comes_leaf, comes_two}
use Rattle.rdb_tree.proofs.FamilyLemmas.{all_still, two_still}
use Rattle.rdb_tree.proofs.GrownLemmas.{IsPart}
use Rattle.rdb_tree.proofs.HalfLemmas.{left_half, right_half, overfull, leaf_halves, inner_halves, inner_half_versions, leaf_half_versions, inner_halves_stand, half_cells}
use Rattle.rdb_tree.proofs.MiddleLemmas.{adds_two}
use Rattle.rdb_tree.proofs.PlaceLemmas.{IsAtCut, at_cut}
use Rattle.rdb_tree.proofs.WovenLemmas.{map_there, length_map, own_cells}

-- the children that a node is to have stand, and there is one more of them than keys
abbrev pub IsBuilt : (h : ℕ) → Image → List CellRef → List (Below h) → Type 0
IsBuilt zero b keys children = Unit {0}
IsBuilt (suc h) b keys children = (length children ≡ length keys + 1) × Each (IsShaped h least_keys) children × Each (Stands h b) children

-- these are the keys and children that a node is to have, with the version at its place
pub record IsRisen (a b : Image) (near : CellRef → Bool) (version : CellRef) (fresh : List ℕ) (h : ℕ) (t : BTree h) (keys : List CellRef) (children : List (Below h)) : Type 0 where
  pub one_more : length keys ≡ length t.keys + 1
  pub built : IsBuilt h b keys children
  pub comes : ComesTo near version (versions h t) (versions h (overfull h t.at keys children))
  pub adds : AddsCells fresh (cells h t) (cells h (overfull h t.at keys children))
  pub elsewhere : StaysBeside a b (cells h t) fresh

-- a leaf, with the version
pub leaf_risen : (a b : Image) (near : CellRef → Bool) (version : CellRef) (own : List ℕ) (t : BTree zero) (place : ℕ) → place ≡ prefix_len near t.keys → IsPart a near own zero t → ((n : ℕ) → b n ≡ a n) → IsRisen a b near version [] zero t (raised_keys place version t.keys) []
leaf_risen a b near version own t place same part stays =
    let few = prefix_len-le-length near t.keys in
    record {
      one_more = one_key_more place version t.keys (omega arith);
      built = tt;
      comes = comes_leaf near version place t.keys same part.cut;
      adds = record { more = λ n within. inl within; kept = λ n within. within; used = λ n none. absurd none; once = part.once };
      elsewhere = λ n out new. stays n;
    }

-- a node, with the halves of a child and the key between them
module _ (a b : Image) (near : CellRef → Bool) (version : CellRef) (own fresh : List ℕ) (h : ℕ) (t : BTree (suc h)) (n : ℕ) (c : BTree h) (key right : CellRef) (at : slice_get t.children n ≡ Some c) (place : n ≡ prefix_len near t.keys)
    (part : IsPart a near own (suc h) t) (apart : AreDisjoint fresh (cells (suc h) t)) (halved : IsHalved a b near version fresh h c key right) where
  at_place : IsAtCut near t.keys (map (versions h) t.children) n (versions h c)
  at_place = at_cut near t.keys (map (versions h) t.children) n (versions h c) (map_there (versions h) t.children n c at) (length_map (versions h) t.children ∙ part.shape.1) place part.cut

  place_within : n ≤ length t.keys
  place_within = let few = prefix_len-le-length near t.keys in omega arith

  built_two : IsBuilt (suc h) b (raised_keys n key t.keys) (with_two n halved.l halved.r t.children)
  built_two =
      let keys = one_key_more n key t.keys place_within in
      let children = length_two n halved.l halved.r t.children (below_there t.children n c at) in
      let many = part.shape.1 in (
        omega arith,
        each_two (IsShaped h least_keys) n halved.l halved.r t.children part.shape.2 halved.left_shape halved.right_shape,
        two_still a b h t.children n c halved.l halved.r at part.once.1 (λ m within out. halved.elsewhere m out (λ new. apart m new (inr within))) part.stands.1 halved.left_stands halved.right_stands,
      )

  pub inner_risen : IsRisen a b near version fresh (suc h) t (raised_keys n key t.keys) (with_two n halved.l halved.r t.children)
  inner_risen = record {
    one_more = one_key_more n key t.keys place_within;
    built = built_two;
    comes = comes_two near version h t.keys t.children n (versions h c) at_place halved.l halved.r key halved.comes;
    adds = adds_two h t.children n t.at.number fresh c at part.once apart halved.l halved.r halved.adds;
    elsewhere = λ m out new. halved.elsewhere m (λ within. out (inr (own_cells h t.children n c at m within))) new;
  }

  pub inner_roots : roots (suc h) (with_two n halved.l halved.r t.children) ≡ raised_children n right (roots (suc h) t.children)
  inner_roots = two_roots h t n c at part.shape.1 halved.l halved.r halved.left_at ∙ ap (λ (r : CellRef). raised_children n r (roots (suc h) t.children)) halved.right_at

-- the children of a node still stand, where other cells were written
children_still : (b d : Image) (h : ℕ) (keys : List CellRef) (children : List (BTree h)) → IsBuilt (suc h) b keys children → ((m : ℕ) → IsAmong (flat_map (cells h) children) m → d m ≡ b m) → Each (Stands h d) children
children_still b d h keys children built same = all_still b d h children same built.2

-- written as it is
module _ (a b d : Image) (near : CellRef → Bool) (version : CellRef) (fresh : List ℕ) where
  pub settled : (h : ℕ) (t : BTree h) (keys : List CellRef) (children : List (Below h)) → IsRisen a b near version fresh h t keys children → length keys ≤ 7 → Writes b d t.at.number (cell_of keys (roots h children)) → IsGrown a d near version fresh h t (overfull h t.at keys children)
  settled zero t keys children risen fit writes = record {
    at = refl;
    stands = writes.here;
    shape = λ least s. record { enough = (let more = risen.one_more in let enough = s.enough in omega arith); fit = fit };
    comes = risen.comes;
    adds = risen.adds;
    elsewhere = λ m out new. writes.elsewhere m (λ same. out (inl (sym same))) ∙ risen.elsewhere m out new;
  }
  settled (suc h) t keys children risen fit writes = record {
    at = refl;
    stands = (writes.here, children_still b d h keys children risen.built (λ m within. writes.elsewhere m (λ same. risen.adds.once.0 (subst (IsAmong (flat_map (cells h) children)) same within))));
    shape = λ least s. (record { enough = (let more = risen.one_more in let enough = s.0.enough in omega arith); fit = fit }, risen.built.0, risen.built.1);
    comes = risen.comes;
    adds = risen.adds;
    elsewhere = λ m out new. writes.elsewhere m (λ same. out (inl (sym same))) ∙ risen.elsewhere m out new;
  }

-- the cells of two halves, the second's root being a fresh one
module _ (fresh was : List ℕ) (m : ℕ) (right : ℕ) (xs ys : List ℕ) (adds : AddsCells fresh was (m ∷ (xs ++ ys))) (not_was : ¬ IsAmong was right) (not_fresh : ¬ IsAmong fresh right) where
  right_apart : ¬ IsAmong (m ∷ (xs ++ ys)) right
  right_apart within = elim (adds.more right within) [ inl old ↦ not_was old | inr new ↦ not_fresh new ]

  once_with : AreOnce (m ∷ (xs ++ right ∷ ys))
  once_with =
      let parts = once_parts (m ∷ xs) ys adds.once in
      once_together (m ∷ xs) (right ∷ ys) parts.0 ((λ behind. right_apart (among_back (m ∷ xs) ys right behind)), parts.1) (λ n ahead behind. elim behind [
        | inl same ↦ right_apart (subst (IsAmong (m ∷ (xs ++ ys))) (sym same) (among_front (m ∷ xs) ys n ahead))
        | inr later ↦ parts.2 n ahead later
      ])

  pub adds_right : AddsCells (fresh ++ right ∷ []) was (m ∷ (xs ++ right ∷ ys))
  adds_right = record {
    more = λ n within. elim (among_but (m ∷ xs) right ys n within) [
      | inl same ↦ inr (among_back fresh (right ∷ []) n (inl same))
      | inr other ↦ elim (adds.more n other) [
        | inl old ↦ inl old
        | inr new ↦ inr (among_front fresh (right ∷ []) n new)
      ]
    ];
    kept = λ n within. among_past (m ∷ xs) right ys n (adds.kept n within);
    used = λ n within. elim (among_either fresh (right ∷ []) n within) [
      | inl new ↦ among_past (m ∷ xs) right ys n (adds.used n new)
      | inr last ↦ among_back (m ∷ xs) (right ∷ ys) n (elim last [ inl same ↦ inl same | inr none ↦ absurd none ])
    ];
    once = once_with;
  }

-- split
module _ (a b c d : Image) (near : CellRef → Bool) (version : CellRef) (fresh : List ℕ) (key right : CellRef) where
  module _ (own : List ℕ) (mine : ℕ) (stays : StaysBeside a b own fresh) (first : (m : ℕ) → m ≢ right.number → c m ≡ b m) (second : (m : ℕ) → m ≢ mine → d m ≡ c m) (inside : IsAmong own mine) where
    beside_halves : StaysBeside a d own (fresh ++ right.number ∷ [])
    beside_halves m out new =
        second m (λ same. out (subst (IsAmong own) (sym same) inside))
        ∙ first m (λ same. new (among_back fresh (right.number ∷ []) m (inl (sym same))))
        ∙ stays m out (λ old. new (among_front fresh (right.number ∷ []) m old))

  pub halves : (h : ℕ) (t : BTree h) (keys : List CellRef) (children : List (Below h)) → IsRisen a b near version fresh h t keys children → length keys ≡ 8 → slice_get keys 3 ≡ Some key →
      Writes b c right.number (cell_of (drop 4 keys) (drop 4 (roots h children))) → Writes c d t.at.number (cell_of (take 3 keys) (take 4 (roots h children))) → (¬ IsAmong (cells h t) right.number) → (¬ IsAmong fresh right.number) → right.number ≢ t.at.number →
      IsHalved a d near version (fresh ++ right.number ∷ []) h t key right
  halves zero t keys children risen eight there behind before not_own not_fresh other = record {
    l = left_half zero t.at keys children;
    r = right_half zero right keys children;
    left_at = refl;
    right_at = refl;
    left_stands = before.here;
    right_stands = before.elsewhere right.number other ∙ behind.here;
    left_shape = (leaf_halves t.at right keys eight children).0;
    right_shape = (leaf_halves t.at right keys eight children).1;
    comes = subst (ComesTo near version t.keys) (sym (leaf_half_versions t.at right keys eight children key there)) risen.comes;
    adds = adds_right fresh (cells zero t) t.at.number right.number [] [] risen.adds not_own not_fresh;
    elsewhere = beside_halves (cells zero t) t.at.number risen.elsewhere behind.elsewhere before.elsewhere (inl refl);
  }
  halves (suc h) t keys children risen eight there behind before not_own not_fresh other =
      let nine : length children ≡ 9 = (let many = risen.built.0 in omega arith) in
      let shapes = inner_halves t.at right keys eight h children nine risen.built.1 in
      let not_right : ¬ IsAmong (cells (suc h) (overfull (suc h) t.at keys children)) right.number = λ within. elim (risen.adds.more right.number within) [ inl old ↦ not_own old | inr new ↦ not_fresh new ] in
      let below = children_still b d h keys children risen.built (λ m within.
      before.elsewhere m (λ same. risen.adds.once.0 (subst (IsAmong (flat_map (cells h) children)) same within))
      ∙ behind.elsewhere m (λ same. not_right (inr (subst (IsAmong (flat_map (cells h) children)) same within)))) in
      let stand = inner_halves_stand d t.at right keys h children before.here (before.elsewhere right.number other ∙ behind.here) below in
      let adds : AddsCells fresh (cells (suc h) t) (t.at.number ∷ (flat_map (cells h) (take 4 children) ++ flat_map (cells h) (drop 4 children))) =
      subst (λ (xs : List ℕ). AddsCells fresh (cells (suc h) t) (t.at.number ∷ xs)) (sym (half_cells h children)) risen.adds in
      record {
        l = left_half (suc h) t.at keys children;
        r = right_half (suc h) right keys children;
        left_at = refl;
        right_at = refl;
        left_stands = stand.0;
        right_stands = stand.1;
        left_shape = shapes.0;
        right_shape = shapes.1;
        comes = subst (ComesTo near version (versions (suc h) t)) (sym (inner_half_versions t.at right keys eight h children nine key there)) risen.comes;
        adds = adds_right fresh (cells (suc h) t) t.at.number right.number (flat_map (cells h) (take 4 children)) (flat_map (cells h) (drop 4 children)) adds not_own not_fresh;
        elsewhere = beside_halves (cells (suc h) t) t.at.number risen.elsewhere behind.elsewhere before.elsewhere (inl refl);
      }
