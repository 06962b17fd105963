-- A tree index meets the laws of an index. The laws cite this, so no tactic stands here.
use Rattle.std.specs.Prelude.{◌≡◌, ◌+◌, ◌*◌, ◌≤◌, map, ℕ, zero, suc, List, [], ◌∷◌, ◌++◌, ◌⊎◌, length, Contains, if◌then◌else◌, refl}
use Rattle.std.specs.List.{flat_map}
use mathlib.Core.Logic.{inl, inr}
use mathlib.Core.Path.{sym, ap, subst, ◌∙◌}
use native.Mathlib.Nat.{add-mul-mod_self_left, not-suc-le-zero, zero-lt-suc, suc-le-suc_iff, le_intro, le_trans, two-mul, zero-add}
use Rattle.rdb_pages.specs.declared.cell.CellRef.{CellRef}
use Rattle.rdb_cells.specs.declared.formats.tree.TreeNode.{TreeNode}
use Rattle.rdb_cells.specs.declared.kind.Kind.TheVariants as kind
use Rattle.rdb_cells.specs.HeadFormat.{index_head_cell, rooted_head}
use Rattle.rdb_cells.specs.Images.{Image}
use Rattle.rdb_cells.specs.Index.{StartsEmpty, ListsOnce, HasIndexCells, HasFewNodes, RestsOnNodes}
use Rattle.rdb_cells.specs.Keys.{Sayings}
use Rattle.rdb_cells.specs.Links.{IsAmong, SameOn}
use Rattle.rdb_cells.specs.PlainLaws.{lists_again}
use Rattle.rdb_cells.specs.TreeFormat.{tree_node_cell}
use Rattle.rdb_cells.specs.Words.{IsOfKind, HasKind}
use Rattle.rdb_tree.specs.Nature.{tree_nature}
use Rattle.rdb_tree.specs.Order.{IsBefore, AreAscending}
use Rattle.rdb_tree.specs.Trees.{BTree, Each, Tree, Empty, Rooted, Stands, Holds, cells, cells_of, TreeStands, IsBTree, IsShaped, least_keys, root_of, versions, versions_of, woven, node_with, roots}

-- the cell of a node is one of a tree
pub node_kind : (node : TreeNode) → IsOfKind (tree_node_cell node) kind.TreeNode
node_kind node = add-mul-mod_self_left 6 256 (node.count + 256 * (if node.leaf then 1 else 0))

-- numbers that are among two lists
among_front : (xs ys : List ℕ) (n : ℕ) → IsAmong xs n → IsAmong (xs ++ ys) n
among_front [] ys n within = absurd within
among_front (x ∷ xs) ys n (inl same) = inl same
among_front (x ∷ xs) ys n (inr within) = inr (among_front xs ys n within)

among_back : (xs ys : List ℕ) (n : ℕ) → IsAmong ys n → IsAmong (xs ++ ys) n
among_back [] ys n within = within
among_back (x ∷ xs) ys n within = inr (among_back xs ys n within)

among_either : (xs ys : List ℕ) (n : ℕ) → IsAmong (xs ++ ys) n → IsAmong xs n ⊎ IsAmong ys n
among_either [] ys n within = inr within
among_either (x ∷ xs) ys n (inl same) = inl (inl same)
among_either (x ∷ xs) ys n (inr within) = elim (among_either xs ys n within) [
  | inl front ↦ inl (inr front)
  | inr back ↦ inr back
]

contains_first : (r : CellRef) (rs : List CellRef) → Contains (r ∷ rs) r
contains_first r rs = (0, zero-lt-suc (length rs), refl)

contains_later : (r q : CellRef) (rs : List CellRef) → Contains rs q → Contains (r ∷ rs) q
contains_later r q rs within = (suc within.0, suc-le-suc_iff.1 within.1, within.2)

-- the first list is no longer than the second
abbrev IsNoLonger : List ℕ → List CellRef → Type 0
IsNoLonger [] ys = Unit {0}
IsNoLonger (x ∷ xs) [] = ⊥
IsNoLonger (x ∷ xs) (y ∷ ys) = IsNoLonger xs ys

behind_first : (xs : List ℕ) (y : CellRef) (ys : List CellRef) → IsNoLonger xs ys → IsNoLonger xs (y ∷ ys)
behind_first [] y ys no_longer = tt
behind_first (x ∷ xs) y [] no_longer = absurd no_longer
behind_first (x ∷ xs) y (z ∷ zs) no_longer = behind_first xs z zs no_longer

behind_all : (xs : List ℕ) (ys zs : List CellRef) → IsNoLonger xs zs → IsNoLonger xs (ys ++ zs)
behind_all xs [] zs no_longer = no_longer
behind_all xs (y ∷ ys) zs no_longer = behind_first xs y (ys ++ zs) (behind_all xs ys zs no_longer)

both_no_longer : (xs ws : List ℕ) (ys zs : List CellRef) → IsNoLonger xs ys → IsNoLonger ws zs → IsNoLonger (xs ++ ws) (ys ++ zs)
both_no_longer [] ws ys zs first second = behind_all ws ys zs second
both_no_longer (x ∷ xs) ws [] zs first second = absurd first
both_no_longer (x ∷ xs) ws (y ∷ ys) zs first second = both_no_longer xs ws ys zs first second

one_between : (x : ℕ) (xs : List ℕ) (ys : List CellRef) (z : CellRef) (zs : List CellRef) → IsNoLonger xs (ys ++ zs) → IsNoLonger (x ∷ xs) (ys ++ z ∷ zs)
one_between x xs [] z zs no_longer = no_longer
one_between x [] (y ∷ ys) z zs no_longer = tt
one_between x (w ∷ ws) (y ∷ ys) z zs no_longer = one_between w ws ys z zs no_longer

more_between : (xs : List ℕ) (ys : List CellRef) (z : CellRef) (zs : List CellRef) → IsNoLonger xs (ys ++ zs) → IsNoLonger xs (ys ++ z ∷ zs)
more_between xs [] z zs no_longer = behind_first xs z zs no_longer
more_between [] (y ∷ ys) z zs no_longer = tt
more_between (x ∷ xs) (y ∷ ys) z zs no_longer = more_between xs ys z zs no_longer

-- a tree has no more cells than versions
few_below : (h : ℕ) → ((t : BTree h) → IsShaped h least_keys t → IsNoLonger (cells h t) (versions h t)) → (ts : List (BTree h)) (keys : List CellRef) → Each (IsShaped h least_keys) ts → IsNoLonger (flat_map (cells h) ts) (woven keys (map (versions h) ts))
few_below h one [] keys shapes = tt
few_below h one (t ∷ ts) [] shapes = both_no_longer (cells h t) (flat_map (cells h) ts) (versions h t) (woven [] (map (versions h) ts)) (one t shapes.0) (few_below h one ts [] shapes.1)
few_below h one (t ∷ ts) (key ∷ keys) shapes =
    more_between (cells h t ++ flat_map (cells h) ts) (versions h t) key (woven keys (map (versions h) ts))
    (both_no_longer (cells h t) (flat_map (cells h) ts) (versions h t) (woven keys (map (versions h) ts)) (one t shapes.0) (few_below h one ts keys shapes.1))

few_at : (h : ℕ) → ((t : BTree h) → IsShaped h least_keys t → IsNoLonger (cells h t) (versions h t)) → (at : ℕ) (keys : List CellRef) (ts : List (BTree h)) (least : ℕ) → suc least ≤ length keys → Each (IsShaped h least_keys) ts → IsNoLonger (at ∷ flat_map (cells h) ts) (woven keys (map (versions h) ts))
few_at h one at [] ts least enough shapes = absurd (not-suc-le-zero enough)
few_at h one at (key ∷ keys) [] least enough shapes = tt
few_at h one at (key ∷ keys) (t ∷ ts) least enough shapes =
    one_between at (cells h t ++ flat_map (cells h) ts) (versions h t) key (woven keys (map (versions h) ts))
    (both_no_longer (cells h t) (flat_map (cells h) ts) (versions h t) (woven keys (map (versions h) ts)) (one t shapes.0) (few_below h one ts keys shapes.1))

few_in_leaf : (at : ℕ) (keys : List CellRef) (least : ℕ) → suc least ≤ length keys → IsNoLonger (at ∷ []) keys
few_in_leaf at [] least enough = absurd (not-suc-le-zero enough)
few_in_leaf at (key ∷ keys) least enough = tt

few_cells : (h least : ℕ) (t : BTree h) → IsShaped h (suc least) t → IsNoLonger (cells h t) (versions h t)
few_cells zero least t shape = few_in_leaf t.at.number t.keys least shape.enough
few_cells (suc h) least t shape = few_at h (few_cells h 2) t.at.number t.keys t.children least shape.0.enough shape.2

few_nodes : (tree : Tree) → IsBTree tree → IsNoLonger (cells_of tree) (versions_of tree)
few_nodes Empty shape = tt
few_nodes (Rooted h t) shape = few_cells h 0 t shape

once_in_twice : (n : ℕ) → n ≤ 2 * n
once_in_twice n = le_intro n n (sym (two-mul n))

shorter : (xs : List ℕ) (ys : List CellRef) → IsNoLonger xs ys → length xs ≤ length ys
shorter [] ys no_longer = le_intro 0 (length ys) (zero-add (length ys))
shorter (x ∷ xs) [] no_longer = absurd no_longer
shorter (x ∷ xs) (y ∷ ys) no_longer = suc-le-suc_iff.1 (shorter xs ys no_longer)

-- a tree rests on its cells
module _ (before after : Image) where
  each_stands : (h : ℕ) → ((t : BTree h) → SameOn (cells h t) before after → Stands h before t → Stands h after t) → (ts : List (BTree h)) → SameOn (flat_map (cells h) ts) before after → Each (Stands h before) ts → Each (Stands h after) ts
  each_stands h one [] same stand = tt
  each_stands h one (t ∷ ts) same stand = (
    one t (λ n within. same n (among_front (cells h t) (flat_map (cells h) ts) n within)) stand.0,
    each_stands h one ts (λ n within. same n (among_back (cells h t) (flat_map (cells h) ts) n within)) stand.1,
  )

  pub still_stands : (h : ℕ) (t : BTree h) → SameOn (cells h t) before after → Stands h before t → Stands h after t
  still_stands zero t same stands = same t.at.number (inl refl) ∙ stands
  still_stands (suc h) t same stands = (
    same t.at.number (inl refl) ∙ stands.0,
    each_stands h (still_stands h) t.children (λ n within. same n (inr within)) stands.1,
  )

  pub tree_stands_still : (tree : Tree) → SameOn (cells_of tree) before after → TreeStands before tree → TreeStands after tree
  tree_stands_still Empty same stands = tt
  tree_stands_still (Rooted h t) same stands = still_stands h t same stands

-- each cell of a tree is a node
module _ (image : Image) where
  holds_node : (h : ℕ) (t : BTree h) (n : ℕ) → t.at.number ≡ n → Holds h image t → HasKind image kind.TreeNode n
  holds_node h t n same holds = (tree_node_cell (node_with t.keys (roots h t.children)), sym (ap image same) ∙ holds, node_kind (node_with t.keys (roots h t.children)))

  each_node : (h : ℕ) → ((t : BTree h) (n : ℕ) → Stands h image t → IsAmong (cells h t) n → HasKind image kind.TreeNode n) → (ts : List (BTree h)) (n : ℕ) → Each (Stands h image) ts → IsAmong (flat_map (cells h) ts) n → HasKind image kind.TreeNode n
  each_node h one [] n stand within = absurd within
  each_node h one (t ∷ ts) n stand within = elim (among_either (cells h t) (flat_map (cells h) ts) n within) [
    | inl own ↦ one t n stand.0 own
    | inr other ↦ each_node h one ts n stand.1 other
  ]

  pub all_nodes : (h : ℕ) (t : BTree h) (n : ℕ) → Stands h image t → IsAmong (cells h t) n → HasKind image kind.TreeNode n
  all_nodes zero t n stands (inl same) = holds_node zero t n same stands
  all_nodes zero t n stands (inr none) = absurd none
  all_nodes (suc h) t n stands (inl same) = holds_node (suc h) t n same stands.0
  all_nodes (suc h) t n stands (inr within) = each_node h (all_nodes h) t.children n stands.1 within

  tree_nodes : (tree : Tree) (n : ℕ) → TreeStands image tree → IsAmong (cells_of tree) n → HasKind image kind.TreeNode n
  tree_nodes Empty n stands within = absurd within
  tree_nodes (Rooted h t) n stands within = all_nodes h t n stands within

-- keys that say the same of versions order them the same
module _ (said again : Sayings) where
  still_before : (a b : CellRef) → again.version_of a.number ≡ said.version_of a.number → again.version_of b.number ≡ said.version_of b.number → IsBefore said a b → IsBefore again a b
  still_before a b first second before = record {
    first = before.first;
    second = before.second;
    is_first = first ∙ before.is_first;
    is_second = second ∙ before.is_second;
    less = before.less;
  }

  each_before : (a : CellRef) (rs : List CellRef) → again.version_of a.number ≡ said.version_of a.number → ((r : CellRef) → Contains rs r → again.version_of r.number ≡ said.version_of r.number) → Each (IsBefore said a) rs → Each (IsBefore again a) rs
  each_before a [] first same before = tt
  each_before a (r ∷ rs) first same before = (
    still_before a r first (same r (contains_first r rs)) before.0,
    each_before a rs first (λ q within. same q (contains_later r q rs within)) before.1,
  )

  pub still_ascending : (rs : List CellRef) → ((r : CellRef) → Contains rs r → again.version_of r.number ≡ said.version_of r.number) → AreAscending said rs → AreAscending again rs
  still_ascending [] same ascending = tt
  still_ascending (r ∷ rs) same ascending = (
    each_before r rs (same r (contains_first r rs)) (λ q within. same q (contains_later r q rs within)) ascending.0,
    still_ascending rs (λ q within. same q (contains_later r q rs within)) ascending.1,
  )

module _ (class head : ℕ) where
  pub tree_starts_empty : StartsEmpty (tree_nature class head)
  tree_starts_empty said image empty = record {
    tree = Empty;
    leads = empty;
    stands = tt;
    shape = tt;
    listed_is = refl;
    nodes_are = refl;
    once = tt;
    paged = λ n none. absurd none;
    listing = record { keyed = λ r within. absurd (not-suc-le-zero within.1); once = λ r within. absurd (not-suc-le-zero within.1); differ = λ q r within. absurd (not-suc-le-zero within.1) };
    ascending = tt;
  }

  pub tree_lists_once : ListsOnce (tree_nature class head)
  tree_lists_once said image listed nodes is = is.listing

  pub tree_has_index_cells : HasIndexCells (tree_nature class head)
  tree_has_index_cells said image listed nodes is = record {
    head = (index_head_cell (rooted_head (root_of is.tree)), is.leads, refl);
    nodes = λ n within.
        let has : HasKind image kind.TreeNode n = tree_nodes image is.tree n is.stands (subst (λ (ns : List ℕ). IsAmong ns n) is.nodes_are within) in
        (kind.TreeNode, refl, has);
    once = is.once;
  }

  pub tree_has_few_nodes : HasFewNodes (tree_nature class head)
  tree_has_few_nodes said image listed nodes is =
      let few = le_trans (shorter (cells_of is.tree) (versions_of is.tree) (few_nodes is.tree is.shape)) (once_in_twice (length (versions_of is.tree))) in
      subst (λ (ns : List ℕ). length ns ≤ 2 * length listed) (sym is.nodes_are)
      (subst (λ (rs : List CellRef). length (cells_of is.tree) ≤ 2 * length rs) (sym is.listed_is) few)

  pub tree_rests_on_nodes : RestsOnNodes (tree_nature class head)
  tree_rests_on_nodes said image listed nodes is again after says same =
      let own : SameOn (cells_of is.tree) image after = λ n within. same n (inr (subst (λ (ns : List ℕ). IsAmong ns n) (sym is.nodes_are) within)) in
      record {
        tree = is.tree;
        leads = same head (inl refl) ∙ is.leads;
        stands = tree_stands_still image after is.tree own is.stands;
        shape = is.shape;
        listed_is = is.listed_is;
        nodes_are = is.nodes_are;
        once = is.once;
        paged = is.paged;
        listing = lists_again said again listed says is.listing;
        ascending = still_ascending said again listed says.versions is.ascending;
      }
