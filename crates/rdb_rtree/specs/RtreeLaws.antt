-- An R-tree index meets the laws of an index. The laws cite this, so no tactic stands here.
use Rattle.std.specs.Prelude.{◌≡◌, ◌+◌, ◌*◌, ◌≤◌, map, ℕ, zero, suc, List, [], ◌∷◌, ◌++◌, ◌⊎◌, length, Contains, unwrap_or, refl}
use Rattle.std.specs.List.{flat_map}
use Rattle.std.specs.Option.{option_and_then}
use mathlib.Core.Logic.{inl, inr}
use mathlib.Core.Path.{sym, ap, subst, ◌∙◌}
use native.Mathlib.Nat.{add-mul-mod_self_left, not-suc-le-zero, zero-lt-suc, suc-le-suc_iff, le_intro, le_trans, two-mul, zero-add}
use Rattle.rdb_pages.specs.declared.cell.CellRef.{CellRef}
use Rattle.rdb_cells.specs.declared.formats.rtree.RtreeNode.{RtreeNode}
use Rattle.rdb_cells.specs.declared.kind.Kind.TheVariants as kind
use Rattle.rdb_cells.specs.HeadFormat.{index_head_cell, rooted_head}
use Rattle.rdb_cells.specs.Images.{Image}
use Rattle.rdb_cells.specs.Index.{StartsEmpty, ListsOnce, HasIndexCells, HasFewNodes, RestsOnNodes}
use Rattle.rdb_cells.specs.Keys.{Sayings, box_of}
use Rattle.rdb_cells.specs.Links.{IsAmong, SameOn}
use Rattle.rdb_cells.specs.PlainLaws.{lists_again}
use Rattle.rdb_cells.specs.RtreeFormat.{rtree_node_cell}
use Rattle.rdb_cells.specs.Words.{IsOfKind, HasKind}
use Rattle.rdb_rtree.specs.Boxes.{Each}
use Rattle.rdb_rtree.specs.Nature.{rtree_nature}
use Rattle.rdb_rtree.specs.Trees.{Node, RTree, versions, cells, box_at, no_box, box, IsNodeAt, node_of, Stands, HasProperBox, least_entries, IsFull, IsShaped, Tree, Empty, Rooted, root_of, versions_of, cells_of, TreeStands, root_entries, IsRtree}

-- the cell of a node is one of an R-tree
pub node_kind : (node : RtreeNode) → IsOfKind (rtree_node_cell node) kind.RtreeNode
node_kind node = add-mul-mod_self_left 7 256 (node.count + 256 * node.level)

-- numbers that are among two lists
pub among_front : (xs ys : List ℕ) (n : ℕ) → IsAmong xs n → IsAmong (xs ++ ys) n
among_front [] ys n within = absurd within
among_front (x ∷ xs) ys n (inl same) = inl same
among_front (x ∷ xs) ys n (inr within) = inr (among_front xs ys n within)

pub among_back : (xs ys : List ℕ) (n : ℕ) → IsAmong ys n → IsAmong (xs ++ ys) n
among_back [] ys n within = within
among_back (x ∷ xs) ys n within = inr (among_back xs ys n within)

pub among_either : (xs ys : List ℕ) (n : ℕ) → IsAmong (xs ++ ys) n → IsAmong xs n ⊎ IsAmong ys n
among_either [] ys n within = inr within
among_either (x ∷ xs) ys n (inl same) = inl (inl same)
among_either (x ∷ xs) ys n (inr within) = elim (among_either xs ys n within) [
  | inl front ↦ inl (inr front)
  | inr back ↦ inr back
]

-- what holds of each of the versions that a list has
contains_first : (r : CellRef) (rs : List CellRef) → Contains (r ∷ rs) r
contains_first r rs = (0, zero-lt-suc (length rs), refl)

contains_later : (r q : CellRef) (rs : List CellRef) → Contains rs q → Contains (r ∷ rs) q
contains_later r q rs within = (suc within.0, suc-le-suc_iff.1 within.1, within.2)

module _ (Holds : CellRef → Type 0) where
  pub each_of : (rs : List CellRef) → ((r : CellRef) → Contains rs r → Holds r) → Each Holds rs
  each_of [] holds = tt
  each_of (r ∷ rs) holds = (holds r (contains_first r rs), each_of rs (λ q within. holds q (contains_later r q rs within)))

  each_front : (rs qs : List CellRef) → Each Holds (rs ++ qs) → Each Holds rs
  each_front [] qs holds = tt
  each_front (r ∷ rs) qs holds = (holds.0, each_front rs qs holds.1)

  each_back : (rs qs : List CellRef) → Each Holds (rs ++ qs) → Each Holds qs
  each_back [] qs holds = holds
  each_back (r ∷ rs) qs holds = each_back rs qs holds.1

-- the first list is no longer than the second
abbrev IsNoLonger : List ℕ → List CellRef → Type 0
IsNoLonger [] ys = Unit {0}
IsNoLonger (x ∷ xs) [] = ⊥
IsNoLonger (x ∷ xs) (y ∷ ys) = IsNoLonger xs ys

without_first : (x : ℕ) (xs : List ℕ) (ys : List CellRef) → IsNoLonger (x ∷ xs) ys → IsNoLonger xs ys
without_first x [] ys no_longer = tt
without_first x (w ∷ ws) [] no_longer = absurd no_longer
without_first x (w ∷ ws) (y ∷ ys) no_longer = without_first w ws ys no_longer

behind_first : (xs : List ℕ) (y : CellRef) (ys : List CellRef) → IsNoLonger xs ys → IsNoLonger xs (y ∷ ys)
behind_first [] y ys no_longer = tt
behind_first (x ∷ xs) y [] no_longer = absurd no_longer
behind_first (x ∷ xs) y (z ∷ zs) no_longer = behind_first xs z zs no_longer

behind_all : (xs : List ℕ) (ys zs : List CellRef) → IsNoLonger xs zs → IsNoLonger xs (ys ++ zs)
behind_all xs [] zs no_longer = no_longer
behind_all xs (y ∷ ys) zs no_longer = behind_first xs y (ys ++ zs) (behind_all xs ys zs no_longer)

both_no_longer : (xs ws : List ℕ) (ys zs : List CellRef) → IsNoLonger xs ys → IsNoLonger ws zs → IsNoLonger (xs ++ ws) (ys ++ zs)
both_no_longer [] ws ys zs first second = behind_all ws ys zs second
both_no_longer (x ∷ xs) ws [] zs first second = absurd first
both_no_longer (x ∷ xs) ws (y ∷ ys) zs first second = both_no_longer xs ws ys zs first second

to_front : (xs : List ℕ) (w : ℕ) (ws : List ℕ) (v : ℕ) (ys : List CellRef) → IsNoLonger (xs ++ w ∷ ws) ys → IsNoLonger (v ∷ (xs ++ ws)) ys
to_front [] w ws v [] no_longer = no_longer
to_front [] w ws v (y ∷ ys) no_longer = no_longer
to_front (x ∷ xs) w ws v [] no_longer = absurd no_longer
to_front (x ∷ xs) w ws v (y ∷ ys) no_longer = to_front xs w ws x ys no_longer

-- a tree has fewer nodes than versions, so one more cell is no longer than its versions
abbrev Spares : (h : ℕ) → RTree h → Type 0
Spares h t = (w : ℕ) → IsNoLonger (w ∷ cells h t) (versions h t)

no_longer_below : (h : ℕ) (ts : List (RTree h)) → Each (Spares h) ts → IsNoLonger (flat_map (cells h) ts) (flat_map (versions h) ts)
no_longer_below h [] spare = tt
no_longer_below h (t ∷ ts) spare =
    both_no_longer (cells h t) (flat_map (cells h) ts) (versions h t) (flat_map (versions h) ts)
    (without_first 0 (cells h t) (versions h t) (spare.0 0)) (no_longer_below h ts spare.1)

-- trees side by side, of which there is one at least, spare a cell
one_spared : (h least : ℕ) (w : ℕ) (ts : List (RTree h)) → suc least ≤ length ts → Each (Spares h) ts → IsNoLonger (w ∷ flat_map (cells h) ts) (flat_map (versions h) ts)
one_spared h least w [] enough spare = absurd (not-suc-le-zero enough)
one_spared h least w (t ∷ ts) enough spare =
    both_no_longer (w ∷ cells h t) (flat_map (cells h) ts) (versions h t) (flat_map (versions h) ts) (spare.0 w) (no_longer_below h ts spare.1)

-- two at least spare two
two_spared : (h least : ℕ) (w v : ℕ) (ts : List (RTree h)) → suc (suc least) ≤ length ts → Each (Spares h) ts → IsNoLonger (v ∷ w ∷ flat_map (cells h) ts) (flat_map (versions h) ts)
two_spared h least w v [] enough spare = absurd (not-suc-le-zero enough)
two_spared h least w v (t ∷ ts) enough spare =
    to_front (w ∷ cells h t) 0 (flat_map (cells h) ts) v (versions h t ++ flat_map (versions h) ts)
    (both_no_longer (w ∷ cells h t) (0 ∷ flat_map (cells h) ts) (versions h t) (flat_map (versions h) ts) (spare.0 w)
    (one_spared h least 0 ts (suc-le-suc_iff.0 enough) spare.1))

length_of_map : {X Y : Type 0} (f : X → Y) (xs : List X) → length (map f xs) ≡ length xs
length_of_map f [] = refl
length_of_map f (x ∷ xs) = ap suc (length_of_map f xs)

module _ (said : Sayings) where
  each_spares : (h : ℕ) → ((t : RTree h) → IsShaped said h least_entries t → Spares h t) → (ts : List (RTree h)) → Each (IsShaped said h least_entries) ts → Each (Spares h) ts
  each_spares h one [] shaped = tt
  each_spares h one (t ∷ ts) shaped = (one t shaped.0, each_spares h one ts shaped.1)

  many_below : (h least : ℕ) (ts : List (RTree h)) (cover : _) → IsFull least (map (box said h) ts) cover → least ≤ length ts
  many_below h least ts cover full = subst (λ n. least ≤ n) (length_of_map (box said h) ts) full.enough

  spares : (h : ℕ) (t : RTree h) → IsShaped said h least_entries t → Spares h t
  spares zero t shape w = tt
  spares (suc h) t shape w = two_spared h 2 t.at.number w t.below (many_below h 4 t.below t.cover shape.0) (each_spares h (spares h) t.below shape.1)

  few_nodes : (tree : Tree) → IsRtree said tree → IsNoLonger (cells_of tree) (versions_of tree)
  few_nodes Empty shape = tt
  few_nodes (Rooted zero t) shape = one_spared zero 0 t.at.number t.below (many_below zero 1 t.below t.cover shape.0) (each_spares zero (spares zero) t.below shape.1)
  few_nodes (Rooted (suc h) t) shape = one_spared (suc h) 1 t.at.number t.below (many_below (suc h) 2 t.below t.cover shape.0) (each_spares (suc h) (spares (suc h)) t.below shape.1)

once_in_twice : (n : ℕ) → n ≤ 2 * n
once_in_twice n = le_intro n n (sym (two-mul n))

shorter : (xs : List ℕ) (ys : List CellRef) → IsNoLonger xs ys → length xs ≤ length ys
shorter [] ys no_longer = le_intro 0 (length ys) (zero-add (length ys))
shorter (x ∷ xs) [] no_longer = absurd no_longer
shorter (x ∷ xs) (y ∷ ys) no_longer = suc-le-suc_iff.1 (shorter xs ys no_longer)

-- a tree rests on its cells
module _ (before after : Image) where
  each_stands : (h : ℕ) → ((t : RTree h) → SameOn (cells h t) before after → Stands h before t → Stands h after t) → (ts : List (RTree h)) → SameOn (flat_map (cells h) ts) before after → Each (Stands h before) ts → Each (Stands h after) ts
  each_stands h one [] same stand = tt
  each_stands h one (t ∷ ts) same stand = (
    one t (λ n within. same n (among_front (cells h t) (flat_map (cells h) ts) n within)) stand.0,
    each_stands h one ts (λ n within. same n (among_back (cells h t) (flat_map (cells h) ts) n within)) stand.1,
  )

  pub still_stands : (h : ℕ) (t : RTree h) → SameOn (cells h t) before after → Stands h before t → Stands h after t
  still_stands zero t same stands = tt
  still_stands (suc h) t same stands = (
    record { proper = stands.0.proper; here = same t.at.number (inl refl) ∙ stands.0.here },
    each_stands h (still_stands h) t.below (λ n within. same n (inr within)) stands.1,
  )

  -- trees side by side rest on their cells
  pub all_stand_still : (h : ℕ) (ts : List (RTree h)) → SameOn (flat_map (cells h) ts) before after → Each (Stands h before) ts → Each (Stands h after) ts
  all_stand_still h ts same stand = each_stands h (still_stands h) ts same stand

  pub tree_stands_still : (tree : Tree) → SameOn (cells_of tree) before after → TreeStands before tree → TreeStands after tree
  tree_stands_still Empty same stands = tt
  tree_stands_still (Rooted h t) same stands = still_stands (suc h) t same stands

-- each cell of a tree is a node
module _ (image : Image) where
  holds_node : (h : ℕ) (t : Node (RTree h)) (n : ℕ) → t.at.number ≡ n → IsNodeAt image t.at (node_of h t) → HasKind image kind.RtreeNode n
  holds_node h t n same node = (rtree_node_cell (node_of h t), sym (ap image same) ∙ node.here, node_kind (node_of h t))

  each_node : (h : ℕ) → ((t : RTree h) (n : ℕ) → Stands h image t → IsAmong (cells h t) n → HasKind image kind.RtreeNode n) → (ts : List (RTree h)) (n : ℕ) → Each (Stands h image) ts → IsAmong (flat_map (cells h) ts) n → HasKind image kind.RtreeNode n
  each_node h one [] n stand within = absurd within
  each_node h one (t ∷ ts) n stand within = elim (among_either (cells h t) (flat_map (cells h) ts) n within) [
    | inl own ↦ one t n stand.0 own
    | inr other ↦ each_node h one ts n stand.1 other
  ]

  pub all_nodes : (h : ℕ) (t : RTree h) (n : ℕ) → Stands h image t → IsAmong (cells h t) n → HasKind image kind.RtreeNode n
  all_nodes zero t n stands within = absurd within
  all_nodes (suc h) t n stands (inl same) = holds_node h t n same stands.0
  all_nodes (suc h) t n stands (inr within) = each_node h (all_nodes h) t.below n stands.1 within

  pub nodes_of_all : (h : ℕ) (ts : List (RTree h)) (n : ℕ) → Each (Stands h image) ts → IsAmong (flat_map (cells h) ts) n → HasKind image kind.RtreeNode n
  nodes_of_all h ts n stand within = each_node h (all_nodes h) ts n stand within

  tree_nodes : (tree : Tree) (n : ℕ) → TreeStands image tree → IsAmong (cells_of tree) n → HasKind image kind.RtreeNode n
  tree_nodes Empty n stands within = absurd within
  tree_nodes (Rooted h t) n stands within = all_nodes (suc h) t n stands within

-- keys that say the same of versions give them the same boxes
module _ (said again : Sayings) where
  same_box : (r : CellRef) → again.version_of r.number ≡ said.version_of r.number → box_at again r ≡ box_at said r
  same_box r same = ap (λ version. option_and_then (λ v. box_of v.key) version) same

  still_boxed : (r : CellRef) → again.version_of r.number ≡ said.version_of r.number → HasProperBox said r → HasProperBox again r
  still_boxed r same boxed = record { own = boxed.own; is = same_box r same ∙ boxed.is; proper = boxed.proper }

  pub same_boxes : (h : ℕ) (ts : List (RTree h)) → Each (λ r. again.version_of r.number ≡ said.version_of r.number) (flat_map (versions h) ts) → map (box said h) ts ≡ map (box again h) ts
  same_boxes zero [] same = refl
  same_boxes zero (r ∷ rs) same = λ i. unwrap_or (sym (same_box r same.0) i) no_box ∷ same_boxes zero rs same.1 i
  same_boxes (suc h) [] same = refl
  same_boxes (suc h) (t ∷ ts) same = λ i. t.cover ∷ same_boxes (suc h) ts (each_back (λ r. again.version_of r.number ≡ said.version_of r.number) (versions (suc h) t) (flat_map (versions (suc h)) ts) same) i

  each_shaped : (h least : ℕ) → ((t : RTree h) → Each (λ r. again.version_of r.number ≡ said.version_of r.number) (versions h t) → IsShaped said h least t → IsShaped again h least t) → (ts : List (RTree h)) → Each (λ r. again.version_of r.number ≡ said.version_of r.number) (flat_map (versions h) ts) → Each (IsShaped said h least) ts → Each (IsShaped again h least) ts
  each_shaped h least one [] same shaped = tt
  each_shaped h least one (t ∷ ts) same shaped = (
    one t (each_front (λ r. again.version_of r.number ≡ said.version_of r.number) (versions h t) (flat_map (versions h) ts) same) shaped.0,
    each_shaped h least one ts (each_back (λ r. again.version_of r.number ≡ said.version_of r.number) (versions h t) (flat_map (versions h) ts) same) shaped.1,
  )

  pub still_shaped : (h least : ℕ) (t : RTree h) → Each (λ r. again.version_of r.number ≡ said.version_of r.number) (versions h t) → IsShaped said h least t → IsShaped again h least t
  still_shaped zero least t same shape = still_boxed t same.0 shape
  still_shaped (suc h) least t same shape = (
    subst (λ boxes. IsFull least boxes t.cover) (same_boxes h t.below same) shape.0,
    each_shaped h least_entries (still_shaped h least_entries) t.below same shape.1,
  )

  pub still_rtree : (tree : Tree) → Each (λ r. again.version_of r.number ≡ said.version_of r.number) (versions_of tree) → IsRtree said tree → IsRtree again tree
  still_rtree Empty same shape = tt
  still_rtree (Rooted h t) same shape = still_shaped (suc h) (root_entries h) t same shape

module _ (class head : ℕ) where
  pub rtree_starts_empty : StartsEmpty (rtree_nature class head)
  rtree_starts_empty said image empty = record {
    tree = Empty;
    leads = empty;
    stands = tt;
    shape = tt;
    listed_is = refl;
    nodes_are = refl;
    once = tt;
    paged = λ n none. absurd none;
    listing = record { keyed = λ r within. absurd (not-suc-le-zero within.1); once = λ r within. absurd (not-suc-le-zero within.1); differ = λ q r within. absurd (not-suc-le-zero within.1) };
  }

  pub rtree_lists_once : ListsOnce (rtree_nature class head)
  rtree_lists_once said image listed nodes is = is.listing

  pub rtree_has_index_cells : HasIndexCells (rtree_nature class head)
  rtree_has_index_cells said image listed nodes is = record {
    head = (index_head_cell (rooted_head (root_of is.tree)), is.leads, refl);
    nodes = λ n within.
        let has : HasKind image kind.RtreeNode n = tree_nodes image is.tree n is.stands (subst (λ (ns : List ℕ). IsAmong ns n) is.nodes_are within) in
        (kind.RtreeNode, refl, has);
    once = is.once;
  }

  pub rtree_has_few_nodes : HasFewNodes (rtree_nature class head)
  rtree_has_few_nodes said image listed nodes is =
      let few = le_trans (shorter (cells_of is.tree) (versions_of is.tree) (few_nodes said is.tree is.shape)) (once_in_twice (length (versions_of is.tree))) in
      subst (λ (ns : List ℕ). length ns ≤ 2 * length listed) (sym is.nodes_are)
      (subst (λ (rs : List CellRef). length (cells_of is.tree) ≤ 2 * length rs) (sym is.listed_is) few)

  pub rtree_rests_on_nodes : RestsOnNodes (rtree_nature class head)
  rtree_rests_on_nodes said image listed nodes is again after says same =
      let own : SameOn (cells_of is.tree) image after = λ n within. same n (inr (subst (λ (ns : List ℕ). IsAmong ns n) (sym is.nodes_are) within)) in
      let alike : Each (λ r. again.version_of r.number ≡ said.version_of r.number) (versions_of is.tree) =
      subst (λ (rs : List CellRef). Each (λ r. again.version_of r.number ≡ said.version_of r.number) rs) is.listed_is
      (each_of (λ r. again.version_of r.number ≡ said.version_of r.number) listed says.versions) in
      record {
        tree = is.tree;
        leads = same head (inl refl) ∙ is.leads;
        stands = tree_stands_still image after is.tree own is.stands;
        shape = still_rtree said again is.tree alike is.shape;
        listed_is = is.listed_is;
        nodes_are = is.nodes_are;
        once = is.once;
        paged = is.paged;
        listing = lists_again said again listed says is.listing;
      }
