-- Versions of a tree, gathered child by child.
use Rattle.std.proofs.Common.{◌≡◌, ◌≤◌, ◌<◌, ◌+◌, ◌-◌, zero, suc, ℕ, List, [], ◌∷◌, ◌++◌, length, drop, map, slice_get, get_or, Some, true, false, refl, sym, ap, ap₂, subst, ◌∙◌, arith}
use Rattle.std.proofs.lemmas.Bool.{false≢true}
use Rattle.std.specs.Prelude.{Result, Ok, Err, OnOk}
use Rattle.std.proofs.lemmas.List.{append_assoc, append-nil}
use Rattle.rdb_pages.specs.declared.cell.CellRef.{CellRef}
use Rattle.rdb_cells.specs.declared.formats.tree.TreeNode.{TreeNode}
use Rattle.rdb_cells.specs.Images.{Image, IsCell}
use Rattle.rdb_cells.specs.TreeFormat.{IsTreeNode, tree_node_cell, most_keys}
use Rattle.rdb_tree.specs.Trees.{BTree, woven, versions, roots, node_with, keys_in, children_in, is_empty, least_keys, IsTreeAt, Stands, IsShaped}
use Rattle.rdb_tree.proofs.NodeLemmas.{few_keys, keys_back, children_back, roots_fit, looser, proper, stands_held, cell_there}
use Rattle.rdb_tree.proofs.WovenLemmas.{each_at, there, map_there, get_there, bare, length_map}

-- what stands between the keys of a node
abbrev pub parts_of : (h : ℕ) → BTree h → List (List CellRef)
parts_of zero t = []
parts_of (suc h) t = map (versions h) t.children

pub woven_is : (h : ℕ) (t : BTree h) → versions h t ≡ woven t.keys (parts_of h t)
woven_is zero t = sym (bare t.keys)
woven_is (suc h) t = refl

-- a child of a node, at a place
pub record IsChild (image : Image) (levels : ℕ) (parts : List (List CellRef)) (place : ℕ) (at : CellRef) : Type 0 where
  pub height : ℕ
  pub child : BTree height
  pub is : IsTreeAt image at (levels - 1) height child
  pub part : slice_get parts place ≡ Some (versions height child)

module _ (image : Image) (at : CellRef) (levels : ℕ) where
  module _ (h : ℕ) (t : BTree h) (is : IsTreeAt image at levels h t) where
    pub at_held : image at.number ≡ Some (tree_node_cell (node_with t.keys (roots h t.children)))
    at_held = ap (λ (r : CellRef). image r.number) (sym is.root) ∙ stands_held h image t is.stands

    pub at_cell : IsCell image at.number
    at_cell = cell_there image at.number (tree_node_cell (node_with t.keys (roots h t.children))) at_held

    module _ (node : TreeNode) (reads : (n : TreeNode) → IsTreeNode n → image at.number ≡ Some (tree_node_cell n) → node ≡ n) where
      pub at_read : node ≡ node_with t.keys (roots h t.children)
      at_read = reads (node_with t.keys (roots h t.children)) (proper h 1 t is.shape) at_held

      pub at_few : node.count ≤ most_keys
      at_few = subst (λ (n : TreeNode). n.count ≤ most_keys) (sym at_read) (few_keys h 1 t is.shape).fit

      pub at_keys : keys_in node ≡ t.keys
      at_keys = ap keys_in at_read ∙ keys_back t.keys (roots h t.children)

      pub at_children : children_in node ≡ roots h t.children
      at_children = ap children_in at_read ∙ children_back t.keys (roots h t.children) (roots_fit h 1 t is.shape)

      pub at_leaf : node.leaf ≡ is_empty (roots h t.children)
      at_leaf = ap (λ (n : TreeNode). n.leaf) at_read

  some_children : {A : Type 0} (X : Type 0) (xs : List A) (n : ℕ) → length xs ≡ n + 1 → is_empty xs ≡ true → X
  some_children X [] n many none = absurd (omega arith)
  some_children X (x ∷ xs) n many none = absurd (false≢true none)

  -- a leaf's versions are its keys
  pub leaf_versions : (h : ℕ) (t : BTree h) → IsTreeAt image at levels h t → is_empty (roots h t.children) ≡ true → versions h t ≡ t.keys
  leaf_versions zero t is leaf = refl
  leaf_versions (suc h) t is leaf = some_children (versions (suc h) t ≡ t.keys) (map (λ (c : BTree h). c.at) t.children) (length t.keys) (length_map (λ (c : BTree h). c.at) t.children ∙ is.shape.1) leaf

  -- the children of an inner node
  pub inner_child : (h : ℕ) (t : BTree h) → IsTreeAt image at levels h t → is_empty (roots h t.children) ≡ false → (place : ℕ) (d : CellRef) → place ≤ length t.keys → IsChild image levels (parts_of h t) place (get_or (roots h t.children) place d)
  inner_child zero t is leaf place d within = absurd (false≢true (sym leaf))
  inner_child (suc h) t is leaf place d within =
      let many = is.shape.1 in
      let high = is.height in
      let child = there t.children place (omega arith) in
      record {
        height = h;
        child = child.0;
        is = record {
          stands = each_at (Stands h image) t.children place child.0 child.1 is.stands.1;
          shape = looser h child.0 (each_at (IsShaped h least_keys) t.children place child.0 child.1 is.shape.2);
          root = sym (get_there (map (λ (c : BTree h). c.at) t.children) place child.0.at d (map_there (λ (c : BTree h). c.at) t.children place child.0 child.1));
          height = omega arith;
        };
        part = map_there (versions h) t.children place child.0 child.1;
      }

  pub inner_parts : (h : ℕ) (t : BTree h) → IsTreeAt image at levels h t → is_empty (roots h t.children) ≡ false → (length (parts_of h t) ≡ length t.keys + 1) × (length (roots h t.children) ≡ length t.keys + 1)
  inner_parts zero t is leaf = absurd (false≢true (sym leaf))
  inner_parts (suc h) t is leaf = (length_map (versions h) t.children ∙ is.shape.1, length_map (λ (c : BTree h). c.at) t.children ∙ is.shape.1)

pub drop_there : {X : Type 0} (xs : List X) (n : ℕ) (x : X) → slice_get xs n ≡ Some x → drop n xs ≡ x ∷ drop (suc n) xs
drop_there [] n x at = cc
drop_there (y ∷ ys) zero x at = let same : y ≡ x = cc in ap (λ (z : _). z ∷ ys) same
drop_there (y ∷ ys) (suc n) x at = drop_there ys n x at

pub get_is : {X : Type 0} (xs : List X) (n : ℕ) (d : X) → n < length xs → slice_get xs n ≡ Some (get_or xs n d)
get_is [] n d below = absurd (omega arith)
get_is (x ∷ xs) zero d below = refl
get_is (x ∷ xs) (suc n) d below = get_is xs n d (omega arith)

-- a part and a key more
pub gather_step : (keys : List CellRef) (parts : List (List CellRef)) (refs all more most p : List CellRef) (place : ℕ) (d : CellRef) → place < length keys → slice_get parts place ≡ Some p →
    refs ++ woven (drop place keys) (drop place parts) ≡ all → more ≡ refs ++ p → most ≡ more ++ get_or keys place d ∷ [] →
    most ++ woven (drop (place + 1) keys) (drop (place + 1) parts) ≡ all
gather_step keys parts refs all more most p place d below part left one two =
    let next : suc place ≡ place + 1 = omega arith in
    let k = get_or keys place d in
    let rest = woven (drop (suc place) keys) (drop (suc place) parts) in
    subst (λ (n : ℕ). most ++ woven (drop n keys) (drop n parts) ≡ all) next
    (ap (λ (xs : List CellRef). xs ++ rest) (two ∙ ap (λ (xs : List CellRef). xs ++ k ∷ []) one)
    ∙ append_assoc (refs ++ p) (k ∷ []) rest
    ∙ append_assoc refs p (k ∷ rest)
    ∙ ap₂ (λ (ks : List CellRef) (ps : List (List CellRef)). refs ++ woven ks ps) (sym (drop_there keys place k (get_is keys place d below))) (sym (drop_there parts place p part))
    ∙ left)

pub drop_end : {X : Type 0} (xs : List X) (n : ℕ) → length xs ≤ n → drop n xs ≡ []
drop_end [] zero few = refl
drop_end [] (suc n) few = refl
drop_end (x ∷ xs) zero few = absurd (omega arith)
drop_end (x ∷ xs) (suc n) few = drop_end xs n (omega arith)

-- the last part
pub gather_end : (keys : List CellRef) (parts : List (List CellRef)) (refs all more p : List CellRef) (place : ℕ) → place ≡ length keys → length parts ≡ length keys + 1 → slice_get parts place ≡ Some p →
    refs ++ woven (drop place keys) (drop place parts) ≡ all → more ≡ refs ++ p → more ≡ all
gather_end keys parts refs all more p place end many part left one =
    one
    ∙ ap (λ (xs : List CellRef). refs ++ xs) (sym (append-nil p))
    ∙ ap₂ (λ (ks : List CellRef) (ps : List (List CellRef)). refs ++ woven ks ps) (sym (drop_end keys place (omega arith)))
    (sym (drop_there parts place p part ∙ ap (λ (ps : List (List CellRef)). p ∷ ps) (drop_end parts (suc place) (omega arith))))
    ∙ left

-- what follows where a call returned a value
pub on_ok : {T E : Type 0} (r : Result T E) (P Q : Type 0) → (P → Q) → OnOk r P → OnOk r Q
on_ok (Ok x) P Q so holds = so holds
on_ok (Err e) P Q so holds = tt
