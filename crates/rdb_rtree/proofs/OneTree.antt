-- What a head leads to is one tree: in one image no two trees have one root.
use Rattle.std.proofs.Common.{◌≡◌, zero, suc, ℕ, List, [], ◌∷◌, take, map, slice_get, inl, refl, sym, ap, ap₂, subst, ◌∙◌, arith}
use Rattle.rdb_pages.specs.declared.cell.CellRef.{CellRef}
use Rattle.rdb_cells.specs.declared.formats.heads.IndexHead.{IndexHead}
use Rattle.rdb_cells.specs.declared.formats.rtree.RtreeNode.{RtreeNode}
use Rattle.rdb_cells.specs.HeadFormat.{index_head_cell, rooted_head}
use Rattle.rdb_cells.specs.Images.{Image}
use Rattle.rdb_cells.specs.Keys.{Sayings}
use Rattle.rdb_cells.specs.Links.{IsAmong}
use Rattle.rdb_cells.specs.RtreeFormat.{rtree_node_cell, rtree_node_in}
use Rattle.rdb_cells.proofs.FormatLemmas.{rtree_node_back, index_head_back}
use Rattle.rdb_rtree.specs.Boxes.{Each}
use Rattle.rdb_rtree.specs.Nature.{IsRtreeIndex}
use Rattle.rdb_rtree.specs.Trees.{Node, RTree, place, node_of, IsNodeAt, Stands, Tree, Empty, Rooted, root_of, versions_of, cells_of, TreeStands}
use Rattle.rdb_rtree.proofs.NodeLemmas.{one_cell, refs_back}
use Rattle.rdb_rtree.proofs.WholeLemmas.{root_read}

-- two nodes at one cell say the same
same_nodes : (image : Image) (at : CellRef) (a b : RtreeNode) → IsNodeAt image at a → IsNodeAt image at b → a ≡ b
same_nodes image at a b first second =
    sym (rtree_node_back a first.proper) ∙ ap rtree_node_in (one_cell image at.number (rtree_node_cell a) (rtree_node_cell b) first.here second.here) ∙ rtree_node_back b second.proper

-- trees of one height that stand at one place are the same
same_lists : (image : Image) (h : ℕ) → ((t u : RTree h) → place h t ≡ place h u → Stands h image t → Stands h image u → t ≡ u) → (ts us : List (RTree h)) → map (place h) ts ≡ map (place h) us → Each (Stands h image) ts → Each (Stands h image) us → ts ≡ us
same_lists image h one [] [] same first second = refl
same_lists image h one [] (u ∷ us) same first second = absurd (cc)
same_lists image h one (t ∷ ts) [] same first second = absurd (cc)
same_lists image h one (t ∷ ts) (u ∷ us) same first second =
    let heads : place h t ≡ place h u = cc in
    let tails : map (place h) ts ≡ map (place h) us = cc in
    ap₂ (λ (x : RTree h) (xs : List (RTree h)). x ∷ xs) (one t u heads first.0 second.0) (same_lists image h one ts us tails first.1 second.1)

pub same_tree : (image : Image) (h : ℕ) (t u : RTree h) → place h t ≡ place h u → Stands h image t → Stands h image u → t ≡ u
same_tree image zero t u same first second = same
same_tree image (suc h) t u same first second =
    let nodes = same_nodes image t.at (node_of h t) (node_of h u) first.0 (subst (λ (r : CellRef). IsNodeAt image r (node_of h u)) (sym same) second.0) in
    let refs = sym (refs_back h t.cover (map (place h) t.below)) ∙ ap (λ (n : RtreeNode). take n.count n.entries) nodes ∙ refs_back h u.cover (map (place h) u.below) in
    let below = same_lists image h (same_tree image h) t.below u.below refs first.1 second.1 in
    let cover = ap (λ (n : RtreeNode). n.cover) nodes in
    λ i. record { at = same i; cover = cover i; below = below i }

same_versions : (image : Image) (h k : ℕ) → h ≡ k → (t : Node (RTree h)) (s : Node (RTree k)) → t.at ≡ s.at → Stands (suc h) image t → Stands (suc k) image s → versions_of (Rooted h t) ≡ versions_of (Rooted k s)
same_versions image h k same_height t =
    subst (λ (m : ℕ). (s : Node (RTree m)) → t.at ≡ s.at → Stands (suc h) image t → Stands (suc m) image s → versions_of (Rooted h t) ≡ versions_of (Rooted m s)) same_height
    (λ s same first second. ap (λ (u : Node (RTree h)). versions_of (Rooted h u)) (same_tree image (suc h) t s same first second))

-- the trees of one head list the same
module _ (head : ℕ) (said again : Sayings) (image : Image) (listed others : List CellRef) (nodes other_nodes : List ℕ) (is : IsRtreeIndex head said image listed nodes) (also : IsRtreeIndex head again image others other_nodes) where
  by_trees : (tree other : Tree) → root_of tree ≡ root_of other → nodes ≡ cells_of tree → other_nodes ≡ cells_of other → TreeStands image tree → TreeStands image other → versions_of tree ≡ versions_of other
  by_trees Empty Empty same are also_are first second = refl
  by_trees Empty (Rooted k s) same are also_are first second =
      let page = (also.paged s.at.number (subst (λ (ns : List ℕ). IsAmong ns s.at.number) (sym also_are) (inl refl))).0 in
      let none = ap (λ (r : CellRef). r.number) same in
      absurd (omega arith)
  by_trees (Rooted h t) Empty same are also_are first second =
      let page = (is.paged t.at.number (subst (λ (ns : List ℕ). IsAmong ns t.at.number) (sym are) (inl refl))).0 in
      let none = ap (λ (r : CellRef). r.number) same in
      absurd (omega arith)
  by_trees (Rooted h t) (Rooted k s) same are also_are first second =
      let nodes_same = same_nodes image t.at (node_of h t) (node_of k s) first.0 (subst (λ (r : CellRef). IsNodeAt image r (node_of k s)) (sym same) second.0) in
      same_versions image h k (ap (λ (n : RtreeNode). n.level) nodes_same) t s same first second

  pub same_listed : listed ≡ others
  same_listed =
      let roots = root_read image head (root_of is.tree) (root_of also.tree) (index_head_cell (rooted_head (root_of also.tree))) is.leads also.leads
      (ap (λ (head_read : IndexHead). slice_get head_read.roots 0) (index_head_back (rooted_head (root_of also.tree)) refl)) in
      is.listed_is ∙ by_trees is.tree also.tree roots is.nodes_are also.nodes_are is.stands also.stands ∙ sym also.listed_is
