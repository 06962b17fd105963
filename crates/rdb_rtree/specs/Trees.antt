-- R-trees of versions: by their height, as they stand in cells, and their shape.
use Rattle.std.specs.Prelude.{◌≡◌, ◌≤◌, ◌-◌, ℕ, pos, zero, suc, List, [], ◌∷◌, ◌++◌, length, map, replicate, Option, Some, unwrap_or, option_and_then}
use Rattle.std.specs.List.{flat_map}
use Rattle.rdb_base.specs.declared.value.Rect.{Rect}
use Rattle.rdb_pages.specs.declared.cell.CellRef.{CellRef}
use Rattle.rdb_cells.specs.declared.formats.rtree.RtreeNode.{RtreeNode}
use Rattle.rdb_cells.specs.Images.{Image}
use Rattle.rdb_cells.specs.Keys.{Sayings, box_of}
use Rattle.rdb_cells.specs.RtreeFormat.{IsRtreeNode, most_entries, rtree_node_cell}
use Rattle.rdb_cells.specs.Words.{no_ref}
use Rattle.rdb_rtree.specs.Boxes.{Each, IsProper, IsLeastCover}
use Rattle.rdb_rtree.specs.declared.entry.Entry.{Entry}

-- a node in a cell: its box, and what stands below it
pub record Node (T : Type 0) : Type 0 where
  pub at : CellRef
  pub cover : Rect
  pub below : List T

-- a tree of a height: a version alone has the height 0, and a node is one higher than what stands below it
abbrev pub RTree : ℕ → Type 0
RTree zero = CellRef
RTree (suc h) = Node (RTree h)

-- where a tree stands: in the version's cell, or in that of its node
abbrev pub place : (h : ℕ) → RTree h → CellRef
place zero r = r
place (suc h) t = t.at

-- the versions of a tree
abbrev pub versions : (h : ℕ) → RTree h → List CellRef
versions zero r = r ∷ []
versions (suc h) t = flat_map (versions h) t.below

-- the cells of a tree's nodes
abbrev pub cells : (h : ℕ) → RTree h → List ℕ
cells zero r = []
cells (suc h) t = t.at.number ∷ flat_map (cells h) t.below

-- the box of a version, if its key is a box
abbrev pub box_at : Sayings → CellRef → Option Rect
box_at said r = option_and_then (λ v. box_of v.key) (said.version_of r.number)

-- the box of no version
abbrev pub no_box : Rect
no_box = record { x1 = pos 0; y1 = pos 0; x2 = pos 0; y2 = pos 0 }

-- the box of a tree: that of the version, or that of its node
abbrev pub box : Sayings → (h : ℕ) → RTree h → Rect
box said zero r = unwrap_or (box_at said r) no_box
box said (suc h) t = t.cover

-- a tree as an entry of a node
abbrev pub entry_of : Sayings → (h : ℕ) → RTree h → Entry
entry_of said h t = record { at = place h t; cover = box said h t }

-- the node of a level with this box and these entries
abbrev pub node_with : ℕ → Rect → List CellRef → RtreeNode
node_with level cover refs = record {
  count = length refs;
  level = level;
  cover = cover;
  entries = refs ++ replicate (most_entries - length refs) no_ref;
}

-- a cell says the node
pub record IsNodeAt (image : Image) (at : CellRef) (node : RtreeNode) : Type 0 where
  pub proper : IsRtreeNode node
  pub here : image at.number ≡ Some (rtree_node_cell node)

-- a node above trees of a height, as its cell says it; leaves are at the level 0
abbrev pub node_of : (h : ℕ) → Node (RTree h) → RtreeNode
node_of h t = node_with h t.cover (map (place h) t.below)

-- the tree stands in the image
abbrev pub Stands : (h : ℕ) → Image → RTree h → Type 0
Stands zero image r = Unit {0}
Stands (suc h) image t = IsNodeAt image t.at (node_of h t) × Each (Stands h image) t.below

-- the key of a version is a box
pub record HasProperBox (said : Sayings) (r : CellRef) : Type 0 where
  pub own : Rect
  pub is : box_at said r ≡ Some own
  pub proper : IsProper own

-- the least number of entries of a node that isn't the root
abbrev pub least_entries : ℕ
least_entries = 4

-- the box of a node is the least that covers its entries, of which there are at least so many
pub record IsFull (least : ℕ) (boxes : List Rect) (cover : Rect) : Type 0 where
  pub enough : least ≤ length boxes
  pub covers : IsLeastCover boxes cover

-- A tree of the shape of an R-tree whose node has at least so many entries: all leaves are at one level, each box is the least
-- cover, and the nodes below have at least four entries.
abbrev pub IsShaped : Sayings → (h : ℕ) → ℕ → RTree h → Type 0
IsShaped said zero least r = HasProperBox said r
IsShaped said (suc h) least t = IsFull least (map (box said h) t.below) t.cover × Each (IsShaped said h least_entries) t.below

-- a tree that may be empty, with the level of its root
pub data Tree : Type 0 where
  Empty : Tree
  Rooted : (h : ℕ) → Node (RTree h) → Tree

abbrev pub root_of : Tree → CellRef
root_of Empty = no_ref
root_of (Rooted h t) = t.at

abbrev pub versions_of : Tree → List CellRef
versions_of Empty = []
versions_of (Rooted h t) = versions (suc h) t

abbrev pub cells_of : Tree → List ℕ
cells_of Empty = []
cells_of (Rooted h t) = cells (suc h) t

abbrev pub TreeStands : Image → Tree → Type 0
TreeStands image Empty = Unit {0}
TreeStands image (Rooted h t) = Stands (suc h) image t

-- the least number of entries of a root: one of a leaf, and two above
abbrev pub root_entries : ℕ → ℕ
root_entries zero = 1
root_entries (suc h) = 2

-- the shape of an R-tree
abbrev pub IsRtree : Sayings → Tree → Type 0
IsRtree said Empty = Unit {0}
IsRtree said (Rooted h t) = IsShaped said (suc h) (root_entries h) t
