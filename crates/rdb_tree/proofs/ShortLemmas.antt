-- A node one of whose children may be a key too few: the pair with the sibling before or behind it, and how it is mended.
use Rattle.std.proofs.Common.{◌≡◌, ◌≤◌, ◌<◌, ◌+◌, zero, suc, ℕ, List, [], ◌∷◌, ◌++◌, length, length-append, refl, sym, ap, subst, ◌∙◌, arith}
use Rattle.rdb_pages.specs.declared.cell.CellRef.{CellRef}
use Rattle.rdb_cells.specs.Links.{AreOnce}
use Rattle.rdb_cells.specs.Work.{Work, reading}
use Rattle.rdb_tree.specs.Changes.{Siblings, shared_left, shared_right, merged}
use Rattle.rdb_tree.specs.Losses.{HasMended}
use Rattle.rdb_tree.specs.Trees.{BTree, Each, cells, roots, Stands, HasKeys, IsShaped, least_keys}
use Rattle.rdb_tree.proofs.PairEnds.{sib, left_gives, right_gives, they_merge}

-- a list at a place
pub record IsCutAt (X : Type 0) (xs : List X) (n : ℕ) : Type 0 where
  pub front : List X
  pub here : X
  pub back : List X
  pub is : xs ≡ front ++ here ∷ back
  pub place : length front ≡ n

pub cut_there : {X : Type 0} (xs : List X) (n : ℕ) → n < length xs → IsCutAt X xs n
cut_there [] n below = absurd (omega arith)
cut_there (x ∷ xs) zero below = record { front = []; here = x; back = xs; is = refl; place = refl }
cut_there (x ∷ xs) (suc n) below =
    let rest = cut_there xs n (omega arith) in
    record { front = x ∷ rest.front; here = rest.here; back = rest.back; is = ap (λ (ys : _). x ∷ ys) rest.is; place = ap suc rest.place }

-- a shape with fewer keys
pub fewer : (h : ℕ) (c : BTree h) → IsShaped h least_keys c → IsShaped h 2 c
fewer zero c shape = record { enough = (let enough = shape.enough in omega arith); fit = shape.fit }
fewer (suc h) c shape = (record { enough = (let enough = shape.0.enough in omega arith); fit = shape.0.fit }, shape.1, shape.2)

pub full : (h : ℕ) (c : BTree h) → IsShaped h 2 c → least_keys ≤ length c.keys → IsShaped h least_keys c
full zero c shape enough = record { enough = enough; fit = shape.fit }
full (suc h) c shape enough = (record { enough = enough; fit = shape.0.fit }, shape.1, shape.2)

-- a pair of children of the node, and the key between them
pub record IsPairOf (h : ℕ) (t : BTree (suc h)) (place : ℕ) (F B : List (BTree h)) (x y : BTree h) : Type 0 where
  pub K : List CellRef
  pub L : List CellRef
  pub k : CellRef
  pub whole : t ≡ record { at = t.at; keys = K ++ k ∷ L; children = F ++ x ∷ y ∷ B }
  pub same : length K ≡ length F
  pub place_is : length K ≡ place

pub pair_of : (h : ℕ) (t : BTree (suc h)) (place : ℕ) (F B : List (BTree h)) (x y : BTree h) → t.children ≡ F ++ x ∷ y ∷ B → length F ≡ place → length t.children ≡ length t.keys + 1 → IsPairOf h t place F B x y
pair_of h t place F B x y is at many =
    let count = ap (length {A = BTree h}) is in
    let both = length-append F (x ∷ y ∷ B) in
    let cut = cut_there t.keys place (omega arith) in
    record {
      K = cut.front;
      L = cut.back;
      k = cut.here;
      whole = λ i. record { at = t.at; keys = cut.is i; children = is i };
      same = cut.place ∙ sym at;
      place_is = cut.place;
    }

module _ (w : Work) (at : CellRef) (h place : ℕ) (t : BTree (suc h)) (root : t.at ≡ at) (stands : Stands (suc h) (reading w) t) (keys : HasKeys 1 t.keys) (many : length t.children ≡ length t.keys + 1) (once : AreOnce (cells (suc h) t))
    (F B : List (BTree h)) (x y : BTree h) (pair : IsPairOf h t place F B x y) (front : Each (IsShaped h least_keys) F) (back : Each (IsShaped h least_keys) B) (left_shape : IsShaped h 2 x) (right_shape : IsShaped h 2 y)
    (vs cs : List CellRef) (v_is : vs ≡ t.keys) (c_is : cs ≡ roots (suc h) t.children) where
  abbrev node : BTree (suc h)
  node = record { at = t.at; keys = pair.K ++ pair.k ∷ pair.L; children = F ++ x ∷ y ∷ B }

  stands_now : Stands (suc h) (reading w) node
  stands_now = subst (Stands (suc h) (reading w)) pair.whole stands

  few_now : length (pair.K ++ pair.k ∷ pair.L) ≤ 7
  few_now = subst (λ (u : BTree (suc h)). length u.keys ≤ 7) pair.whole keys.fit

  many_now : length (F ++ x ∷ y ∷ B) ≡ length (pair.K ++ pair.k ∷ pair.L) + 1
  many_now = subst (λ (u : BTree (suc h)). length u.children ≡ length u.keys + 1) pair.whole many

  once_now : AreOnce (cells (suc h) node)
  once_now = subst (λ (u : BTree (suc h)). AreOnce (cells (suc h) u)) pair.whole once

  keys_now : vs ≡ pair.K ++ pair.k ∷ pair.L
  keys_now = v_is ∙ ap (λ (u : BTree (suc h)). u.keys) pair.whole

  children_now : cs ≡ roots (suc h) (F ++ x ∷ y ∷ B)
  children_now = c_is ∙ ap (λ (u : BTree (suc h)). roots (suc h) u.children) pair.whole

  own : Siblings (reading w) (pair.K ++ pair.k ∷ pair.L) (roots (suc h) (F ++ x ∷ y ∷ B)) place
  own = sib w t.at h place pair.K pair.L pair.k F B x y pair.same pair.place_is stands_now few_now many_now once_now front back left_shape right_shape

  abbrev IsSiblings : List CellRef → List CellRef → ℕ → ℕ → Type 0
  IsSiblings ks rs left right = (s : Siblings (reading w) ks rs place) × (length s.left_keys ≡ left) × (length s.right_keys ≡ right)

  -- as the slices say
  pub the_siblings : IsSiblings vs cs (length x.keys) (length y.keys)
  unfolding sib own
  the_siblings =
      subst (λ (ks : List CellRef). IsSiblings ks cs (length x.keys) (length y.keys)) (sym keys_now)
      (subst (λ (rs : List CellRef). IsSiblings (pair.K ++ pair.k ∷ pair.L) rs (length x.keys) (length y.keys)) (sym children_now)
      (own, refl, refl))

  lifted : (after : Work) → HasMended w after h node → HasMended w after h t
  lifted after has = subst (HasMended w after h) (sym pair.whole) has

  module _ (after : Work) where
    pub left_ends : ((s : Siblings (reading w) vs cs place) → after ≡ shared_left w at s) → IsShaped h least_keys x → least_keys < length x.keys → length y.keys ≤ 6 → HasMended w after h t
    unfolding own
    left_ends works shape enough room =
        let moved = subst (λ (ks : List CellRef). (s : Siblings (reading w) ks cs place) → after ≡ shared_left w at s) keys_now works in
        let there = subst (λ (rs : List CellRef). (s : Siblings (reading w) (pair.K ++ pair.k ∷ pair.L) rs place) → after ≡ shared_left w at s) children_now moved in
        lifted after (subst (λ (v : Work). HasMended w v h node) (sym (there own ∙ ap (λ (r : CellRef). shared_left w r own) (sym root)))
        (left_gives w t.at h place pair.K pair.L pair.k F B x y pair.same pair.place_is stands_now few_now many_now once_now front back left_shape right_shape shape enough room))

    pub right_ends : ((s : Siblings (reading w) vs cs place) → after ≡ shared_right w at s) → IsShaped h least_keys y → least_keys < length y.keys → length x.keys ≤ 6 → HasMended w after h t
    unfolding own
    right_ends works shape enough room =
        let moved = subst (λ (ks : List CellRef). (s : Siblings (reading w) ks cs place) → after ≡ shared_right w at s) keys_now works in
        let there = subst (λ (rs : List CellRef). (s : Siblings (reading w) (pair.K ++ pair.k ∷ pair.L) rs place) → after ≡ shared_right w at s) children_now moved in
        lifted after (subst (λ (v : Work). HasMended w v h node) (sym (there own ∙ ap (λ (r : CellRef). shared_right w r own) (sym root)))
        (right_gives w t.at h place pair.K pair.L pair.k F B x y pair.same pair.place_is stands_now few_now many_now once_now front back left_shape right_shape shape enough room))

    pub merge_ends : ((s : Siblings (reading w) vs cs place) → after ≡ merged w at s) → length x.keys + length y.keys ≤ 6 → HasMended w after h t
    unfolding own
    merge_ends works room =
        let moved = subst (λ (ks : List CellRef). (s : Siblings (reading w) ks cs place) → after ≡ merged w at s) keys_now works in
        let there = subst (λ (rs : List CellRef). (s : Siblings (reading w) (pair.K ++ pair.k ∷ pair.L) rs place) → after ≡ merged w at s) children_now moved in
        lifted after (subst (λ (v : Work). HasMended w v h node) (sym (there own ∙ ap (λ (r : CellRef). merged w r own) (sym root)))
        (they_merge w t.at h place pair.K pair.L pair.k F B x y pair.same pair.place_is stands_now few_now many_now once_now front back left_shape right_shape room))
