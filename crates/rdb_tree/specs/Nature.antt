-- A tree index: the head leads to a B-tree, which lists its versions in order.
use Rattle.std.specs.Prelude.{◌≡◌, ◌≤◌, ℕ, List, Some}
use Rattle.rdb_pages.specs.declared.cell.CellRef.{CellRef}
use Rattle.rdb_cells.specs.HeadFormat.{index_head_cell, rooted_head}
use Rattle.rdb_cells.specs.Images.{Image}
use Rattle.rdb_cells.specs.Index.{Nature}
use Rattle.rdb_cells.specs.Keys.{Sayings, ListsVersions}
use Rattle.rdb_cells.specs.Links.{IsAmong, AreOnce}
use Rattle.rdb_cells.specs.Parts.{tree_part}
use Rattle.rdb_cells.specs.References.{IsPageCell}
use Rattle.rdb_tree.specs.Order.{AreAscending, AreKeyed}
use Rattle.rdb_tree.specs.Trees.{Tree, root_of, versions_of, levels_of, cells_of, TreeStands, IsBTree}

-- The head leads to a B-tree, whose nodes stand in page cells, each in its own; the tree's versions are those that are
-- listed, each once, in ascending order of key, id and serial.
pub record IsTree (head : ℕ) (said : Sayings) (image : Image) (listed : List CellRef) (nodes : List ℕ) : Type 0 where
  pub tree : Tree
  pub leads : image head ≡ Some (index_head_cell (rooted_head (root_of tree)))
  pub stands : TreeStands image tree
  pub shape : IsBTree tree
  pub listed_is : listed ≡ versions_of tree
  pub nodes_are : nodes ≡ cells_of tree
  pub once : AreOnce nodes
  pub paged : (n : ℕ) → IsAmong nodes n → IsPageCell n
  pub listing : ListsVersions said listed
  pub ascending : AreAscending said listed

-- The tree stands in page cells and has the shape of a B-tree; each of its versions has a key, and they ascend. It may stand
-- below another one.
pub record IsSound (said : Sayings) (image : Image) (tree : Tree) : Type 0 where
  pub stands : TreeStands image tree
  pub shape : IsBTree tree
  pub paged : (n : ℕ) → IsAmong (cells_of tree) n → IsPageCell n
  pub keyed : AreKeyed said (versions_of tree)

-- the most levels of a tree: as many cells as there are give no more
abbrev pub most_levels : ℕ
most_levels = 11

-- how many steps a path has places for
abbrev pub path_places : ℕ
path_places = 16

-- a sound tree with this root
pub record IsRootedAt (said : Sayings) (image : Image) (at : CellRef) (tree : Tree) : Type 0 where
  pub sound : IsSound said image tree
  pub root : root_of tree ≡ at
  pub levels : levels_of tree ≤ most_levels

abbrev pub tree_nature : ℕ → ℕ → Nature
tree_nature of head = record { class = of; head = head; part = tree_part; Takes = λ key. Unit {0}; Stands = IsTree head }
