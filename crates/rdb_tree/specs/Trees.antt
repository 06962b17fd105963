-- B-trees of versions: by their height, as they stand in cells, and their shape.
use Rattle.std.specs.Prelude.{◌≡◌, ◌≤◌, ◌<◌, ◌+◌, ◌-◌, ◌*◌, ◌^◌, ℕ, zero, suc, List, [], ◌∷◌, ◌++◌, length, map, take, replicate, Bool, true, false, Some, if◌then◌else◌}
use Rattle.std.specs.List.{flat_map}
use Rattle.rdb_pages.specs.declared.cell.CellRef.{CellRef}
use Rattle.rdb_cells.specs.declared.formats.tree.TreeNode.{TreeNode}
use Rattle.rdb_cells.specs.Images.{Image}
use Rattle.rdb_cells.specs.TreeFormat.{most_keys, most_children, tree_node_cell}
use Rattle.rdb_cells.specs.Words.{no_ref}

-- a node in a cell: its keys, which are versions, and the nodes below it, if any
pub record Node (T : Type 0) : Type 0 where
  pub at : CellRef
  pub keys : List CellRef
  pub children : List T

-- what stands below a node of a height: nothing below a leaf, whose height is 0
abbrev pub Below : ℕ → Type 0
Below zero = ⊥
Below (suc h) = Node (Below h)

-- a tree of a height
abbrev pub BTree : ℕ → Type 0
BTree h = Node (Below h)

-- this holds of each element
abbrev pub Each : {X : Type 0} → (X → Type 0) → List X → Type 0
Each Holds [] = Unit {0}
Each Holds (x ∷ xs) = Holds x × Each Holds xs

-- keys with what stands before each of them, and what stands behind the last
abbrev pub woven : List CellRef → List (List CellRef) → List CellRef
woven [] [] = []
woven [] (between ∷ rest) = between ++ woven [] rest
woven (key ∷ keys) [] = key ∷ woven keys []
woven (key ∷ keys) (between ∷ rest) = between ++ key ∷ woven keys rest

-- the versions of a tree, in its order
abbrev pub versions : (h : ℕ) → BTree h → List CellRef
versions zero t = t.keys
versions (suc h) t = woven t.keys (map (versions h) t.children)

-- the cells of a tree
abbrev pub cells : (h : ℕ) → BTree h → List ℕ
cells zero t = t.at.number ∷ []
cells (suc h) t = t.at.number ∷ flat_map (cells h) t.children

-- where the nodes below a node stand
abbrev pub roots : (h : ℕ) → List (Below h) → List CellRef
roots zero children = []
roots (suc h) children = map (λ child. child.at) children

-- so many references, and then none up to a number of places
abbrev pub padded : ℕ → List CellRef → List CellRef
padded places refs = refs ++ replicate (places - length refs) no_ref

abbrev pub is_empty : {X : Type 0} → List X → Bool
is_empty [] = true
is_empty (x ∷ xs) = false

-- the node with these keys and children, which is a leaf where it has no child
abbrev pub node_with : List CellRef → List CellRef → TreeNode
node_with keys children = record {
  count = length keys;
  leaf = is_empty children;
  versions = padded most_keys keys;
  children = padded most_children children;
}

-- the keys and the children that a node says
abbrev pub keys_in : TreeNode → List CellRef
keys_in node = take node.count node.versions

abbrev pub children_in : TreeNode → List CellRef
children_in node = if node.leaf then [] else take (node.count + 1) node.children

-- the most references of a kind in a node that has one key too many
abbrev pub most_refs : ℕ
most_refs = 9

-- the node's cell says its keys and its children
abbrev pub Holds : (h : ℕ) → Image → BTree h → Type 0
Holds h image t = image t.at.number ≡ Some (tree_node_cell (node_with t.keys (roots h t.children)))

-- the tree stands in the image
abbrev pub Stands : (h : ℕ) → Image → BTree h → Type 0
Stands zero image t = Holds zero image t
Stands (suc h) image t = Holds (suc h) image t × Each (Stands h image) t.children

-- the least number of keys of a node that isn't the root: the minimum degree is 4
abbrev pub least_keys : ℕ
least_keys = 3

-- a node has at least so many keys, and at most as many as it has places for
pub record HasKeys (least : ℕ) (keys : List CellRef) : Type 0 where
  pub enough : least ≤ length keys
  pub fit : length keys ≤ most_keys

-- A tree of the shape of a B-tree whose root has at least so many keys. All leaves have the height 0, a node with children has
-- one more of them than keys, and each node below the root is at least half full.
abbrev pub IsShaped : (h : ℕ) → ℕ → BTree h → Type 0
IsShaped zero least t = HasKeys least t.keys
IsShaped (suc h) least t = HasKeys least t.keys × (length t.children ≡ length t.keys + 1) × Each (IsShaped h least_keys) t.children

-- a tree with this root stands in the image, has the shape of a B-tree and fewer levels above its leaves than this
pub record IsTreeAt (image : Image) (at : CellRef) (levels h : ℕ) (t : BTree h) : Type 0 where
  pub stands : Stands h image t
  pub shape : IsShaped h 1 t
  pub root : t.at ≡ at
  pub height : h < levels

-- a tree that may be empty, with its height
pub data Tree : Type 0 where
  Empty : Tree
  Rooted : (h : ℕ) → BTree h → Tree

abbrev pub root_of : Tree → CellRef
root_of Empty = no_ref
root_of (Rooted h t) = t.at

abbrev pub versions_of : Tree → List CellRef
versions_of Empty = []
versions_of (Rooted h t) = versions h t

abbrev pub cells_of : Tree → List ℕ
cells_of Empty = []
cells_of (Rooted h t) = cells h t

abbrev pub TreeStands : Image → Tree → Type 0
TreeStands image Empty = Unit {0}
TreeStands image (Rooted h t) = Stands h image t

-- the shape of a B-tree: the root has at least one key
abbrev pub IsBTree : Tree → Type 0
IsBTree Empty = Unit {0}
IsBTree (Rooted h t) = IsShaped h 1 t

-- how many levels a tree has
abbrev pub levels_of : Tree → ℕ
levels_of Empty = 0
levels_of (Rooted h t) = suc h

-- a number of levels that a B-tree of so many versions can have: 2 * 4 ^ (levels - 1) - 1 of them at least
abbrev pub AreLevels : ℕ → ℕ → Type 0
AreLevels zero many = many ≡ 0
AreLevels (suc h) many = 2 * 4 ^ h ≤ many + 1
