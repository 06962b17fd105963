-- A removal ends: the root keeps a key, or goes, and the head leads to what is below it.
use Rattle.std.proofs.Common.{◌≡◌, ◌≢◌, ◌≤◌, ◌<◌, ◌+◌, ◌*◌, ◌⊎◌, zero, suc, ℕ, List, [], ◌∷◌, length, slice_get, Some, true, inl, inr, refl, sym, ap, ap₂, subst, ◌∙◌, arith}
use Rattle.std.proofs.lemmas.List.{append-nil}
use Rattle.std.proofs.Permutation.{which}
use Rattle.std.specs.List.{Contains, flat_map}
use Rattle.std.specs.Option.{unwrap_or}
use Rattle.rdb_pages.specs.declared.cell.Cell.{Cell}
use Rattle.rdb_pages.specs.declared.cell.CellRef.{CellRef}
use Rattle.rdb_pages.specs.Pages.{zero_cell}
use Rattle.rdb_cells.specs.HeadFormat.{index_head_cell, rooted_head}
use Rattle.rdb_cells.specs.Images.{IsCell}
use Rattle.rdb_cells.specs.Keys.{Sayings}
use Rattle.rdb_cells.specs.Links.{IsAmong, AreOnce}
use Rattle.rdb_cells.specs.Words.{no_ref}
use Rattle.rdb_cells.specs.Work.{Work, reading}
use Rattle.rdb_cells.proofs.WorkLemmas.{put_reads, lowest_none}
use Rattle.rdb_tree.specs.Changes.{cell_of, with_cell, IsNodeAt, HasPlaces}
use Rattle.rdb_tree.specs.Growth.{StaysBeside}
use Rattle.rdb_tree.specs.Losses.{Leaves, DropsCells, IsPlain, IsHome, HasLost, IsTreeRemoved, LowersRoot}
use Rattle.rdb_tree.specs.Nature.{IsTree, IsRootedAt, most_levels}
use Rattle.rdb_tree.specs.TreeLaws.{still_stands}
use Rattle.rdb_tree.specs.Trees.{BTree, Each, Tree, Empty, Rooted, root_of, versions, versions_of, cells, cells_of, roots, Stands, TreeStands, IsShaped, IsBTree, least_keys}
use Rattle.rdb_tree.proofs.ClimbLemmas.{node_spent}
use Rattle.rdb_tree.proofs.LevelLemmas.{tree_rooted}
use Rattle.rdb_tree.proofs.MendLemmas.{plain_put, plain_within}
use Rattle.rdb_tree.proofs.NodeLemmas.{few_keys, roots_fit, stands_held, own_cell, looser, cell_there}
use Rattle.rdb_tree.proofs.RootLemmas.{head_spent, head_apart}

pub root_stays : (w : Work) (head root : CellRef) (keys children : List CellRef) → 0 < length keys → LowersRoot w w head root keys children
root_stays w head root [] children some = absurd (omega arith)
root_stays w head root (k ∷ ks) children some = refl

pub root_goes : (w after : Work) (head root : CellRef) (keys children : List CellRef) → length keys ≤ 0 → after ≡ with_cell (with_cell w root zero_cell) head (index_head_cell (rooted_head (unwrap_or (slice_get children 0) no_ref))) → LowersRoot w after head root keys children
root_goes w after head root [] children none is = is
root_goes w after head root (k ∷ ks) children none is = absurd (omega arith)

tree_removed : (before after : Work) (version head : CellRef) (was now : Tree) → reading after head.number ≡ Some (index_head_cell (rooted_head (root_of now))) → TreeStands (reading after) now → IsBTree now → Leaves version (versions_of was) (versions_of now) → DropsCells (reading after) (cells_of was) (cells_of now) →
    StaysBeside (reading before) (reading after) (head.number ∷ cells_of was) [] → IsPlain before after (head.number ∷ cells_of was) 36 → IsTreeRemoved before after version head.number was
tree_removed before after version head was now leads stand shape leaves drops elsewhere plain = record {
  now = now;
  changed = record {
    leads = leads;
    stands = stand;
    shape = shape;
    more = λ n within. inl (drops.more n within);
    gone = drops.gone;
    used = λ n none. absurd none;
    once = drops.once;
    elsewhere = elsewhere;
    lowest = lowest_none before after [] plain.none (λ n none. absurd none);
    left = λ n none. absurd none;
    says = λ n out none. plain.says n out;
    goes_on = plain.goes_on;
  };
  leaves = leaves;
  none = plain.none;
  places = plain.places;
}

strict : (h : ℕ) (u : BTree h) → IsShaped h 0 u → 0 < length u.keys → IsShaped h 1 u
strict zero u shape some = record { enough = omega arith; fit = shape.fit }
strict (suc h) u shape some = (record { enough = omega arith; fit = shape.0.fit }, shape.1, shape.2)

module _ (before mid after : Work) (version head : CellRef) (h : ℕ) (t : BTree h) (leads : reading before head.number ≡ Some (index_head_cell (rooted_head t.at))) (stands : Stands h (reading before) t) (shape : IsShaped h 1 t) (levels : suc h ≤ most_levels) (has : HasLost before mid version (3 * h + 2) h t) where
  abbrev u : BTree h
  u = has.now

  head_out : ¬ IsAmong (cells h t) head.number
  head_out = head_apart before head (Rooted h t) leads stands

  plain : IsPlain before mid (head.number ∷ cells h t) (3 * h + 2)
  plain = record {
    none = has.plain.none;
    places = has.plain.places;
    says = λ n out. has.plain.says n (λ within. out (inr within));
    goes_on = has.plain.goes_on;
  }

  -- the root as it is now
  pub root_now : IsNodeAt (reading mid) t.at has.now.keys (roots h has.now.children)
  root_now = record {
    few = (few_keys h 0 has.now (has.less.shape 0 shape)).fit;
    fits = roots_fit h 0 has.now (has.less.shape 0 shape);
    here = subst (λ (r : CellRef). reading mid r.number ≡ Some (cell_of has.now.keys (roots h has.now.children))) has.less.at (stands_held h (reading mid) has.now has.less.stands);
  }

  pub head_now : reading mid head.number ≡ Some (index_head_cell (rooted_head t.at))
  head_now = has.less.elsewhere head.number head_out ∙ leads

  pub room_now : HasPlaces before 36 → HasPlaces mid 2
  room_now room =
      let places = has.plain.places in
      let same = has.plain.goes_on.room in
      omega arith

  -- it has a key still
  kept : 0 < length has.now.keys → after ≡ mid → IsTreeRemoved before after version head.number (Rooted h t)
  kept some is = subst (λ (w : Work). IsTreeRemoved before w version head.number (Rooted h t)) (sym is)
      (tree_removed before mid version head (Rooted h t) (Rooted h has.now)
      (head_now ∙ ap (λ (r : CellRef). Some (index_head_cell (rooted_head r))) (sym has.less.at))
      has.less.stands (strict h has.now (has.less.shape 0 shape) some) has.less.leaves has.less.drops
      (λ n out none. has.less.elsewhere n (λ within. out (inr within)))
      (plain_within before mid (head.number ∷ cells h t) (3 * h + 2) 36 (omega arith) plain))

  -- it goes
  module _ (head_cell : Cell) where
    abbrev lowered : Work
    lowered = with_cell (with_cell mid t.at zero_cell) head head_cell

    root_not_head : t.at.number ≢ head.number
    root_not_head same = head_out (subst (IsAmong (cells h t)) same (own_cell h t))

    root_blank : reading lowered t.at.number ≡ Some zero_cell
    root_blank = (put_reads (with_cell mid t.at zero_cell) head head_cell).elsewhere t.at.number root_not_head ∙ (put_reads mid t.at zero_cell).here

    lowered_other : (n : ℕ) → n ≢ t.at.number → n ≢ head.number → reading lowered n ≡ reading mid n
    lowered_other n not_root not_head = (put_reads (with_cell mid t.at zero_cell) head head_cell).elsewhere n not_head ∙ (put_reads mid t.at zero_cell).elsewhere n not_root

    lowered_plain : IsPlain before lowered (head.number ∷ cells h t) 36
    lowered_plain = plain_within before lowered (head.number ∷ cells h t) (3 * h + 2 + 1 + 1) 36 (omega arith)
        (plain_put before (with_cell mid t.at zero_cell) (head.number ∷ cells h t) (3 * h + 2 + 1) head head_cell
        (plain_put before mid (head.number ∷ cells h t) (3 * h + 2) t.at zero_cell plain (inr (own_cell h t)) (node_spent before (λ r. true) head (Rooted h t) stands t.at.number (own_cell h t)))
        (inl refl) (head_spent before head (Rooted h t) leads stands))

    lowered_beside : StaysBeside (reading before) (reading lowered) (head.number ∷ cells h t) []
    lowered_beside n out none =
        lowered_other n (λ same. out (inr (subst (IsAmong (cells h t)) (sym same) (own_cell h t)))) (λ same. out (inl (sym same)))
        ∙ has.less.elsewhere n (λ within. out (inr within))

    -- a tree below it is the whole now
    into : (now : Tree) → head_cell ≡ index_head_cell (rooted_head (root_of now)) → TreeStands (reading lowered) now → IsBTree now → versions_of now ≡ versions h has.now → AreOnce (cells_of now) →
        ((n : ℕ) → IsAmong (cells_of now) n → IsAmong (cells h has.now) n) → ((n : ℕ) → IsAmong (cells h has.now) n → (t.at.number ≡ n) ⊎ IsAmong (cells_of now) n) → after ≡ lowered → IsTreeRemoved before after version head.number (Rooted h t)
    into now leads_is stand shaped list once more less is = subst (λ (w : Work). IsTreeRemoved before w version head.number (Rooted h t)) (sym is)
        (tree_removed before lowered version head (Rooted h t) now
        ((put_reads (with_cell mid t.at zero_cell) head head_cell).here ∙ ap Some leads_is) stand shaped
        (record { front = has.less.leaves.front; back = has.less.leaves.back; was_is = has.less.leaves.was_is; now_is = list ∙ has.less.leaves.now_is })
        (record {
          more = λ n within. has.less.drops.more n (more n within);
          gone = λ n within. gone_now n within (has.less.drops.gone n within);
          once = once;
        })
        lowered_beside lowered_plain)
      where
        gone_now : (n : ℕ) → IsAmong (cells h t) n → IsAmong (cells h has.now) n ⊎ (reading mid n ≡ Some zero_cell) → IsAmong (cells_of now) n ⊎ (reading lowered n ≡ Some zero_cell)
        gone_now n within (inl still) = elim (less n still) [
          | inl same ↦ inr (subst (λ (k : ℕ). reading lowered k ≡ Some zero_cell) same root_blank)
          | inr inside ↦ inl inside
        ]
        gone_now n within (inr blank) = elim (which n t.at.number) [
          | inl same ↦ inr (subst (λ (k : ℕ). reading lowered k ≡ Some zero_cell) (sym same) root_blank)
          | inr apart ↦ inr (lowered_other n apart (λ same. head_out (subst (IsAmong (cells h t)) same within)) ∙ blank)
        ]

-- the two ends, by the height
bare_leaf : (before mid after : Work) (version head : CellRef) (t : BTree zero) (leads : reading before head.number ≡ Some (index_head_cell (rooted_head t.at))) (stands : Stands zero (reading before) t) (shape : IsShaped zero 1 t) (levels : 1 ≤ most_levels) (has : HasLost before mid version (3 * 0 + 2) zero t) → has.now.keys ≡ [] →
    after ≡ with_cell (with_cell mid t.at zero_cell) head (index_head_cell (rooted_head no_ref)) → IsTreeRemoved before after version head.number (Rooted zero t)
bare_leaf before mid after version head t leads stands shape levels has none is =
    into before mid after version head zero t leads stands shape levels has (index_head_cell (rooted_head no_ref)) Empty refl tt tt (sym none) tt (λ n within. absurd within)
    (λ n within. elim within [ inl same ↦ inl (ap (λ (r : CellRef). r.number) (sym has.less.at) ∙ same) | inr nothing ↦ absurd nothing ]) is

only_child : {X : Type 0} (xs : List X) → length xs ≡ 1 → (x : X) × (xs ≡ x ∷ [])
only_child [] one = absurd (omega arith)
only_child (x ∷ []) one = (x, refl)
only_child (x ∷ y ∷ ys) one = absurd (omega arith)

bare_node : (before mid after : Work) (version head : CellRef) (h : ℕ) (t : BTree (suc h)) (leads : reading before head.number ≡ Some (index_head_cell (rooted_head t.at))) (stands : Stands (suc h) (reading before) t) (shape : IsShaped (suc h) 1 t) (levels : suc (suc h) ≤ most_levels) (has : HasLost before mid version (3 * suc h + 2) (suc h) t) → has.now.keys ≡ [] →
    after ≡ with_cell (with_cell mid t.at zero_cell) head (index_head_cell (rooted_head (unwrap_or (slice_get (roots (suc h) has.now.children) 0) no_ref))) → IsTreeRemoved before after version head.number (Rooted (suc h) t)
bare_node before mid after version head h t leads stands shape levels has none is =
    let shaped = has.less.shape 0 shape in
    let count = ap (length {A = CellRef}) none in
    let only = only_child has.now.children (let many = shaped.1 in omega arith) in
    let c = only.0 in
    let below : flat_map (cells h) has.now.children ≡ cells h c = ap (flat_map (cells h)) only.1 ∙ append-nil (cells h c) in
    let once = subst (λ (ns : List ℕ). AreOnce (has.now.at.number ∷ ns)) below has.less.drops.once in
    let root_is : has.now.at.number ≡ t.at.number = ap (λ (r : CellRef). r.number) has.less.at in
    let c_stands : Stands h (reading mid) c = (subst (Each (Stands h (reading mid))) only.1 has.less.stands.1).0 in
    let head_cell = index_head_cell (rooted_head (unwrap_or (slice_get (roots (suc h) has.now.children) 0) no_ref)) in
    let inside : (n : ℕ) → IsAmong (cells h c) n → IsAmong (cells (suc h) has.now) n = λ n within. inr (subst (λ (ns : List ℕ). IsAmong ns n) (sym below) within) in
    into before mid after version head (suc h) t leads stands shape levels has head_cell (Rooted h c)
    (ap (λ (cs : List (BTree h)). index_head_cell (rooted_head (unwrap_or (slice_get (roots (suc h) cs) 0) no_ref))) only.1)
    (still_stands (reading mid) (reading (lowered before mid after version head (suc h) t leads stands shape levels has head_cell)) h c
    (λ n within. lowered_other before mid after version head (suc h) t leads stands shape levels has head_cell n
    (λ same. once.0 (subst (IsAmong (cells h c)) (same ∙ sym root_is) within))
    (λ same. head_out before mid after version head (suc h) t leads stands shape levels has (subst (IsAmong (cells (suc h) t)) same (has.less.drops.more n (inside n within))))) c_stands)
    (looser h c (subst (Each (IsShaped h least_keys)) only.1 shaped.2).0)
    (sym (ap₂ (λ (ks : List CellRef) (cs : List (BTree h)). versions (suc h) (record { at = has.now.at; keys = ks; children = cs })) none only.1 ∙ append-nil (versions h c)))
    once.1 inside
    (λ n within. elim within [ inl same ↦ inl (sym root_is ∙ same) | inr lower ↦ inr (subst (λ (ns : List ℕ). IsAmong ns n) below lower) ])
    is

-- the tree of a head, that lists the version
module _ (before : Work) (head : CellRef) (said : Sayings) (version root : CellRef) where
  home_of : (h : ℕ) (t : BTree h) → IsRootedAt said (reading before) root (Rooted h t) → AreOnce (cells h t) → Contains (versions h t) version → IsHome said (reading before) version root h t
  home_of h t rooted once within = record {
    branch = record { root = rooted.root; stands = rooted.sound.stands; shape = rooted.sound.shape; once = once };
    keyed = rooted.sound.keyed;
    within = within;
  }

  tree_home : (tree : Tree) → IsRootedAt said (reading before) root tree → AreOnce (cells_of tree) → Contains (versions_of tree) version → (h : ℕ) × (t : BTree h) × IsHome said (reading before) version root h t × (h < 12)
  tree_home Empty rooted once within = absurd (omega (arith, within.1))
  tree_home (Rooted h t) rooted once within = (h, t, home_of h t rooted once within, (let levels = rooted.levels in omega arith))

  module _ (mid : Work) (has : (h : ℕ) (t : BTree h) → IsHome said (reading before) version root h t → HasLost before mid version (3 * h + 2) h t) where
    -- what lowering the root asks
    pub record CanLower : Type 0 where
      pub keys : List CellRef
      pub children : List CellRef
      pub node : IsNodeAt (reading mid) root keys children
      pub head_cell : IsCell (reading mid) head.number
      pub room : HasPlaces before 36 → HasPlaces mid 2

    tree_lower : (tree : Tree) → reading before head.number ≡ Some (index_head_cell (rooted_head (root_of tree))) → IsRootedAt said (reading before) root tree → AreOnce (cells_of tree) → Contains (versions_of tree) version → CanLower
    tree_lower Empty leads rooted once within = absurd (omega (arith, within.1))
    tree_lower (Rooted h t) leads rooted once within =
        let lost = has h t (home_of h t rooted once within) in
        record {
          keys = lost.now.keys;
          children = roots h lost.now.children;
          node = subst (λ (r : CellRef). IsNodeAt (reading mid) r lost.now.keys (roots h lost.now.children)) rooted.root (root_now before mid mid version head h t leads rooted.sound.stands rooted.sound.shape rooted.levels lost);
          head_cell = cell_there (reading mid) head.number (index_head_cell (rooted_head t.at)) (head_now before mid mid version head h t leads rooted.sound.stands rooted.sound.shape rooted.levels lost);
          room = room_now before mid mid version head h t leads rooted.sound.stands rooted.sound.shape rooted.levels lost;
        }

    module _ (after : Work) (lowers : (keys children : List CellRef) → IsNodeAt (reading mid) root keys children → LowersRoot mid after head root keys children) where
      by_height : (h : ℕ) (t : BTree h) (leads : reading before head.number ≡ Some (index_head_cell (rooted_head t.at))) (stands : Stands h (reading before) t) (shape : IsShaped h 1 t) (levels : suc h ≤ most_levels) (lost : HasLost before mid version (3 * h + 2) h t) → lost.now.keys ≡ [] →
          after ≡ with_cell (with_cell mid t.at zero_cell) head (index_head_cell (rooted_head (unwrap_or (slice_get (roots h lost.now.children) 0) no_ref))) → IsTreeRemoved before after version head.number (Rooted h t)
      by_height zero t leads stands shape levels lost none is = bare_leaf before mid after version head t leads stands shape levels lost none is
      by_height (suc h) t leads stands shape levels lost none is = bare_node before mid after version head h t leads stands shape levels lost none is

      tree_ends : (tree : Tree) → reading before head.number ≡ Some (index_head_cell (rooted_head (root_of tree))) → IsRootedAt said (reading before) root tree → AreOnce (cells_of tree) → Contains (versions_of tree) version → IsTreeRemoved before after version head.number tree
      tree_ends Empty leads rooted once within = absurd (omega (arith, within.1))
      tree_ends (Rooted h t) leads rooted once within =
          let lost = has h t (home_of h t rooted once within) in
          let node = root_now before mid after version head h t leads rooted.sound.stands rooted.sound.shape rooted.levels lost in
          let lowered_root = subst (λ (r : CellRef). (keys children : List CellRef) → IsNodeAt (reading mid) r keys children → LowersRoot mid after head r keys children) (sym rooted.root) lowers in
          by_keys lost lost.now.keys refl (lowered_root lost.now.keys (roots h lost.now.children) node)
        where
          by_keys : (lost : HasLost before mid version (3 * h + 2) h t) (keys : List CellRef) → lost.now.keys ≡ keys → LowersRoot mid after head t.at keys (roots h lost.now.children) → IsTreeRemoved before after version head.number (Rooted h t)
          by_keys lost [] none is = by_height h t leads rooted.sound.stands rooted.sound.shape rooted.levels lost none is
          by_keys lost (k ∷ ks) some is = kept before mid after version head h t leads rooted.sound.stands rooted.sound.shape rooted.levels lost (let more = ap (length {A = CellRef}) some in omega arith) is

  module _ (listed : List CellRef) (nodes : List ℕ) (is : IsTree head.number said (reading before) listed nodes) (root_is : root_of is.tree ≡ root) (within : Contains listed version) where
    rooted : IsRootedAt said (reading before) root is.tree
    rooted = tree_rooted head.number said (reading before) listed nodes is root root_is

    once_tree : AreOnce (cells_of is.tree)
    once_tree = subst AreOnce is.nodes_are is.once

    within_tree : Contains (versions_of is.tree) version
    within_tree = subst (λ (rs : List CellRef). Contains rs version) is.listed_is within

    pub removal_home : (h : ℕ) × (t : BTree h) × IsHome said (reading before) version root h t × (h < 12)
    removal_home = tree_home is.tree rooted once_tree within_tree

    module _ (mid : Work) (has : (h : ℕ) (t : BTree h) → IsHome said (reading before) version root h t → HasLost before mid version (3 * h + 2) h t) where
      pub removal_lower : CanLower mid has
      removal_lower = tree_lower mid has is.tree is.leads rooted once_tree within_tree

      pub removal_ends : (after : Work) → ((keys children : List CellRef) → IsNodeAt (reading mid) root keys children → LowersRoot mid after head root keys children) → IsTreeRemoved before after version head.number is.tree
      removal_ends after lowers = tree_ends mid has after lowers is.tree is.leads rooted once_tree within_tree
