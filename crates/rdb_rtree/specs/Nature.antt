-- An R-tree index: the head leads to an R-tree, which lists its versions.
use Rattle.std.specs.Prelude.{◌≡◌, ℕ, List, Some}
use Rattle.rdb_base.specs.declared.value.Value.{Value}
use Rattle.rdb_base.specs.declared.value.Rect.{Rect}
use Rattle.rdb_pages.specs.declared.cell.CellRef.{CellRef}
use Rattle.rdb_cells.specs.HeadFormat.{index_head_cell, rooted_head}
use Rattle.rdb_cells.specs.Images.{Image}
use Rattle.rdb_cells.specs.Index.{Nature}
use Rattle.rdb_cells.specs.Keys.{Sayings, ListsVersions, box_of}
use Rattle.rdb_cells.specs.Links.{IsAmong, AreOnce}
use Rattle.rdb_cells.specs.Parts.{rtree_part}
use Rattle.rdb_cells.specs.References.{IsPageCell}
use Rattle.rdb_rtree.specs.Boxes.{IsProper}
use Rattle.rdb_rtree.specs.Trees.{Tree, root_of, versions_of, cells_of, TreeStands, IsRtree}

-- The head leads to an R-tree, whose nodes stand in page cells, each in its own; the tree's versions are those that are listed,
-- each once.
pub record IsRtreeIndex (head : ℕ) (said : Sayings) (image : Image) (listed : List CellRef) (nodes : List ℕ) : Type 0 where
  pub tree : Tree
  pub leads : image head ≡ Some (index_head_cell (rooted_head (root_of tree)))
  pub stands : TreeStands image tree
  pub shape : IsRtree said tree
  pub listed_is : listed ≡ versions_of tree
  pub nodes_are : nodes ≡ cells_of tree
  pub once : AreOnce nodes
  pub paged : (n : ℕ) → IsAmong nodes n → IsPageCell n
  pub listing : ListsVersions said listed

-- the key is a box, with its lesser edges first
pub record IsBoxKey (key : List Value) : Type 0 where
  pub own : Rect
  pub is : box_of key ≡ Some own
  pub proper : IsProper own

abbrev pub rtree_nature : ℕ → ℕ → Nature
rtree_nature of head = record { class = of; head = head; part = rtree_part; Takes = IsBoxKey; Stands = IsRtreeIndex head }
