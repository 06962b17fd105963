-- One image holds one tree at a root: two that stand there list the same.
use Rattle.std.proofs.Common.{◌≡◌, zero, suc, ℕ, List, [], ◌∷◌, length, map, Some, refl, sym, ap, ap₂, subst, ◌∙◌, arith}
use Rattle.rdb_pages.specs.declared.cell.CellRef.{CellRef}
use Rattle.rdb_cells.specs.declared.formats.heads.IndexHead.{IndexHead}
use Rattle.rdb_cells.specs.HeadFormat.{index_head_cell, index_head_in, rooted_head}
use Rattle.rdb_cells.specs.Images.{Image}
use Rattle.rdb_cells.specs.Keys.{Sayings}
use Rattle.rdb_cells.specs.TreeFormat.{tree_node_cell, tree_node_in}
use Rattle.rdb_cells.proofs.FormatLemmas.{tree_node_back}
use Rattle.rdb_tree.specs.Nature.{IsTree, IsSound}
use Rattle.rdb_tree.specs.Trees.{BTree, Each, Tree, Empty, Rooted, root_of, woven, versions, versions_of, roots, node_with, keys_in, children_in, Stands, IsShaped, least_keys}
use Rattle.rdb_tree.proofs.HeadLemmas.{one_cell}
use Rattle.rdb_tree.proofs.LevelLemmas.{tree_sound}
use Rattle.rdb_tree.proofs.NodeLemmas.{keys_back, children_back, roots_fit, looser, own_cell, proper, stands_held}
use Rattle.rdb_cells.proofs.FormatLemmas.{index_head_back}

module _ (image : Image) where
  -- what the cell of a node says
  same_node : (h : ℕ) (t : BTree h) (k : ℕ) (s : BTree k) → t.at ≡ s.at → Stands h image t → Stands k image s → IsShaped h 1 t → IsShaped k 1 s → node_with t.keys (roots h t.children) ≡ node_with s.keys (roots k s.children)
  same_node h t k s at first second shape also =
      let cells = one_cell image s.at.number (tree_node_cell (node_with t.keys (roots h t.children))) (tree_node_cell (node_with s.keys (roots k s.children))) (subst (λ (r : CellRef). image r.number ≡ Some (tree_node_cell (node_with t.keys (roots h t.children)))) at (stands_held h image t first)) (stands_held k image s second) in
      sym (tree_node_back (node_with t.keys (roots h t.children)) (proper h 1 t shape)) ∙ ap tree_node_in cells ∙ tree_node_back (node_with s.keys (roots k s.children)) (proper k 1 s also)

  same_keys : (h : ℕ) (t : BTree h) (k : ℕ) (s : BTree k) → t.at ≡ s.at → Stands h image t → Stands k image s → IsShaped h 1 t → IsShaped k 1 s → t.keys ≡ s.keys
  same_keys h t k s at first second shape also = sym (keys_back t.keys (roots h t.children)) ∙ ap keys_in (same_node h t k s at first second shape also) ∙ keys_back s.keys (roots k s.children)

  same_roots : (h : ℕ) (t : BTree h) (k : ℕ) (s : BTree k) → t.at ≡ s.at → Stands h image t → Stands k image s → IsShaped h 1 t → IsShaped k 1 s → roots h t.children ≡ roots k s.children
  same_roots h t k s at first second shape also = sym (children_back t.keys (roots h t.children) (roots_fit h 1 t shape)) ∙ ap children_in (same_node h t k s at first second shape also) ∙ children_back s.keys (roots k s.children) (roots_fit k 1 s also)

  no_roots : {X : Type 0} (xs : List X) (f : X → CellRef) → [] ≡ map f xs → length xs ≡ 0
  no_roots [] f same = refl
  no_roots (x ∷ xs) f same = cc

  heads_same : (x y : CellRef) (xs ys : List CellRef) → x ∷ xs ≡ y ∷ ys → (x ≡ y) × (xs ≡ ys)
  heads_same x y xs ys same = (cc, cc)

  each_same : (h k : ℕ) → ((t : BTree h) (s : BTree k) → t.at ≡ s.at → Stands h image t → Stands k image s → IsShaped h 1 t → IsShaped k 1 s → versions h t ≡ versions k s) → (ts : List (BTree h)) (us : List (BTree k)) → map (λ (c : BTree h). c.at) ts ≡ map (λ (c : BTree k). c.at) us → Each (Stands h image) ts → Each (Stands k image) us → Each (IsShaped h least_keys) ts → Each (IsShaped k least_keys) us →
      map (versions h) ts ≡ map (versions k) us
  each_same h k one [] [] same first second shape also = refl
  each_same h k one [] (u ∷ us) same first second shape also = cc
  each_same h k one (t ∷ ts) [] same first second shape also = cc
  each_same h k one (t ∷ ts) (u ∷ us) same first second shape also =
      let both = heads_same t.at u.at (map (λ (c : BTree h). c.at) ts) (map (λ (c : BTree k). c.at) us) same in
      ap₂ (λ (p : List CellRef) (ps : List (List CellRef)). p ∷ ps) (one t u both.0 first.0 second.0 (looser h t shape.0) (looser k u also.0)) (each_same h k one ts us both.1 first.1 second.1 shape.1 also.1)

  pub same_versions : (h : ℕ) (t : BTree h) (k : ℕ) (s : BTree k) → t.at ≡ s.at → Stands h image t → Stands k image s → IsShaped h 1 t → IsShaped k 1 s → versions h t ≡ versions k s
  same_versions zero t zero s at first second shape also = same_keys zero t zero s at first second shape also
  same_versions zero t (suc k) s at first second shape also = absurd (let none = no_roots s.children (λ (c : BTree k). c.at) (same_roots zero t (suc k) s at first second shape also) in let many = also.1 in omega arith)
  same_versions (suc h) t zero s at first second shape also = absurd (let none = no_roots t.children (λ (c : BTree h). c.at) (sym (same_roots (suc h) t zero s at first second shape also)) in let many = shape.1 in omega arith)
  same_versions (suc h) t (suc k) s at first second shape also =
      ap₂ woven (same_keys (suc h) t (suc k) s at first second shape also)
      (each_same h k (λ c d. same_versions h c k d) t.children s.children (same_roots (suc h) t (suc k) s at first second shape also) first.1 second.1 shape.2 also.2)

first_or : CellRef → List CellRef → CellRef
first_or d [] = d
first_or d (r ∷ rs) = r

root_same : (a b : CellRef) → rooted_head a ≡ rooted_head b → a ≡ b
unfolding first_or
root_same a b heads = ap (λ (h : IndexHead). first_or a h.roots) heads

-- the trees of one head list the same
module _ (head : ℕ) (said again : Sayings) (image : Image) where
  by_trees : (tree other : Tree) → root_of tree ≡ root_of other → IsSound said image tree → IsSound again image other → versions_of tree ≡ versions_of other
  by_trees Empty Empty same first second = refl
  by_trees Empty (Rooted k s) same first second = absurd (let page = (second.paged s.at.number (own_cell k s)).0 in let none = ap (λ (r : CellRef). r.number) same in omega arith)
  by_trees (Rooted h t) Empty same first second = absurd (let page = (first.paged t.at.number (own_cell h t)).0 in let none = ap (λ (r : CellRef). r.number) same in omega arith)
  by_trees (Rooted h t) (Rooted k s) same first second = same_versions image h t k s same first.stands second.stands first.shape second.shape

  pub same_listed : (listed : List CellRef) (nodes : List ℕ) (is : IsTree head said image listed nodes) (others : List CellRef) (other_nodes : List ℕ) (also : IsTree head again image others other_nodes) → listed ≡ others
  same_listed listed nodes is others other_nodes also =
      let cells = one_cell image head (index_head_cell (rooted_head (root_of is.tree))) (index_head_cell (rooted_head (root_of also.tree))) is.leads also.leads in
      let heads = sym (index_head_back (rooted_head (root_of is.tree)) refl) ∙ ap index_head_in cells ∙ index_head_back (rooted_head (root_of also.tree)) refl in
      let same : root_of is.tree ≡ root_of also.tree = root_same (root_of is.tree) (root_of also.tree) heads in
      is.listed_is ∙ by_trees is.tree also.tree same (tree_sound head said image listed nodes is) (tree_sound head again image others other_nodes also) ∙ sym also.listed_is
