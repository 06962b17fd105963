-- The node of a tree as it is read from its cell.
use Rattle.std.proofs.Common.{◌≡◌, ◌≤◌, ◌+◌, ◌-◌, ◌⊎◌, zero, suc, ℕ, List, [], ◌∷◌, length, length-append, Option, Some, IsSome, inl, inr, refl, sym, subst, ◌∙◌, arith, rules}
use Rattle.std.proofs.lemmas.List.{take_at, length-replicate}
use Rattle.std.specs.Prelude.{replicate}
use Rattle.rdb_pages.specs.declared.cell.Cell.{Cell}
use Rattle.rdb_pages.specs.declared.cell.CellRef.{CellRef}
use Rattle.rdb_cells.specs.Images.{Image, IsCell}
use Rattle.rdb_cells.specs.Links.{IsAmong}
use Rattle.rdb_cells.specs.TreeFormat.{IsTreeNode}
use Rattle.rdb_cells.specs.Words.{no_ref}
use Rattle.rdb_tree.specs.Trees.{BTree, cells, roots, node_with, padded, keys_in, children_in, Holds, Stands, HasKeys, IsShaped, least_keys}
use Rattle.rdb_tree.proofs.WovenLemmas.{length_map}

length_padded : (places : ℕ) (refs : List CellRef) → length refs ≤ places → length (padded places refs) ≡ places
length_padded places refs few =
    let both = length-append refs (replicate (places - length refs) no_ref) in
    let blank = length-replicate (places - length refs) no_ref in
    omega arith

pub node_proper : (keys children : List CellRef) → length keys ≤ 7 → length children ≤ 8 → IsTreeNode (node_with keys children)
node_proper keys children few below = record { count = few; versions = length_padded 7 keys few; children = length_padded 8 children below }

pub keys_back : (keys children : List CellRef) → keys_in (node_with keys children) ≡ keys
keys_back keys children = take_at keys (replicate (7 - length keys) no_ref) (length keys) refl

-- a leaf has no children, and an inner node one more than keys
abbrev pub FitsKeys : List CellRef → List CellRef → Type 0
FitsKeys keys children = (children ≡ []) ⊎ (length children ≡ length keys + 1)

pub children_back : (keys children : List CellRef) → FitsKeys keys children → children_in (node_with keys children) ≡ children
children_back keys [] fits = refl
children_back keys (c ∷ cs) (inl none) = cc
children_back keys (c ∷ cs) (inr many) = take_at (c ∷ cs) (replicate (8 - length (c ∷ cs)) no_ref) (length keys + 1) many

-- what the shape says of a node
pub few_keys : (h least : ℕ) (t : BTree h) → IsShaped h least t → HasKeys least t.keys
few_keys zero least t shape = shape
few_keys (suc h) least t shape = shape.0

pub roots_fit : (h least : ℕ) (t : BTree h) → IsShaped h least t → FitsKeys t.keys (roots h t.children)
roots_fit zero least t shape = inl refl
roots_fit (suc h) least t shape = inr (length_map (λ child. child.at) t.children ∙ shape.1)

pub few_roots : (h least : ℕ) (t : BTree h) → IsShaped h least t → length (roots h t.children) ≤ 8
few_roots zero least t shape = omega arith
few_roots (suc h) least t shape =
    let many = length_map (λ (child : BTree h). child.at) t.children in
    let same = shape.1 in
    let few = shape.0.fit in
    omega arith

pub proper : (h least : ℕ) (t : BTree h) → IsShaped h least t → IsTreeNode (node_with t.keys (roots h t.children))
proper h least t shape = node_proper t.keys (roots h t.children) (few_keys h least t shape).fit (few_roots h least t shape)

pub stands_held : (h : ℕ) (image : Image) (t : BTree h) → Stands h image t → Holds h image t
stands_held zero image t stands = stands
stands_held (suc h) image t stands = stands.0

pub cell_there : (image : Image) (n : ℕ) (cell : Cell) → image n ≡ Some cell → IsCell image n
cell_there image n cell here = subst (λ (o : Option Cell). IsSome o) (sym here) (search rules)

-- a tree below the root has the shape of one that could be the root
pub looser : (h : ℕ) (t : BTree h) → IsShaped h least_keys t → IsShaped h 1 t
looser zero t shape = record { enough = (let enough = shape.enough in omega arith); fit = shape.fit }
looser (suc h) t shape = (record { enough = (let enough = shape.0.enough in omega arith); fit = shape.0.fit }, shape.1, shape.2)

pub own_cell : (h : ℕ) (t : BTree h) → IsAmong (cells h t) t.at.number
own_cell zero t = inl refl
own_cell (suc h) t = inl refl
