-- The node of a tree index, as words and as it is read.
use Rattle.std.specs.Prelude.{◌≡◌, ◌≤◌, ℕ, ◌+◌, ◌*◌, ◌/◌, ◌%◌, ◌==◌, if◌then◌else◌, ◌∷◌, ◌++◌, length}
use Rattle.rdb_pages.specs.declared.cell.Cell.{Cell}
use Rattle.rdb_cells.specs.declared.kind.Kind.TheVariants as kind
use Rattle.rdb_cells.specs.declared.formats.tree.TreeNode.{TreeNode}
use Rattle.rdb_cells.specs.Words.{first_word, high_of, numbers, refs_in}

-- the most keys of a node
abbrev pub most_keys : ℕ
most_keys = 7

-- the most children of a node
abbrev pub most_children : ℕ
most_children = 8

-- there are places for so many keys and children, and at most so many keys
pub record IsTreeNode (node : TreeNode) : Type 0 where
  pub count : node.count ≤ most_keys
  pub versions : length node.versions ≡ most_keys
  pub children : length node.children ≡ most_children

-- the cell of a node
abbrev pub tree_node_cell : TreeNode → Cell
tree_node_cell node =
    record {
      words =
          first_word kind.TreeNode (node.count + 256 * (if node.leaf then 1 else 0))
          ∷ (numbers node.versions 0 7 ++ numbers node.children 0 8);
    }

-- the node that a cell is read as
abbrev pub tree_node_in : Cell → TreeNode
tree_node_in cell =
    record {
      count = high_of cell % 256;
      leaf = (high_of cell / 256) == 1;
      versions = refs_in cell 1 7;
      children = refs_in cell 8 8;
    }
