-- The node of an R-tree, as words and as it is read.
use Rattle.std.specs.Prelude.{◌≡◌, ◌≤◌, ◌<◌, ℕ, ◌+◌, ◌*◌, ◌/◌, ◌%◌, ◌^◌, ◌∷◌, length, slice_index, FitsSigned}
use Rattle.std.specs.Int.{w32, cast_signed, cast_unsigned}
use Rattle.rdb_base.specs.declared.value.Rect.{Rect}
use Rattle.rdb_pages.specs.declared.cell.Cell.{Cell}
use Rattle.rdb_cells.specs.declared.kind.Kind.TheVariants as kind
use Rattle.rdb_cells.specs.declared.formats.rtree.RtreeNode.{RtreeNode}
use Rattle.rdb_cells.specs.Words.{first_word, high_of, numbers, refs_in}

-- the most entries of a node
abbrev pub most_entries : ℕ
most_entries = 11

-- each edge has 32 bits
pub record IsBox (box : Rect) : Type 0 where
  pub x1 : FitsSigned w32 box.x1
  pub y1 : FitsSigned w32 box.y1
  pub x2 : FitsSigned w32 box.x2
  pub y2 : FitsSigned w32 box.y2

-- there are places for eleven entries and at most so many entries, and the level fits 16 bits
pub record IsRtreeNode (node : RtreeNode) : Type 0 where
  pub count : node.count ≤ most_entries
  pub level : node.level < 2 ^ 16
  pub entries : length node.entries ≡ most_entries
  pub box : IsBox node.cover

-- the cell of a node
abbrev pub rtree_node_cell : RtreeNode → Cell
rtree_node_cell node =
    record {
      words =
          first_word kind.RtreeNode (node.count + 256 * node.level)
          ∷ cast_unsigned w32 node.cover.x1 ∷ cast_unsigned w32 node.cover.y1
          ∷ cast_unsigned w32 node.cover.x2 ∷ cast_unsigned w32 node.cover.y2
          ∷ numbers node.entries 0 11;
    }

-- the box in four words
abbrev pub box_in : Cell → Rect
box_in cell =
    record {
      x1 = cast_signed w32 (slice_index cell.words 1);
      y1 = cast_signed w32 (slice_index cell.words 2);
      x2 = cast_signed w32 (slice_index cell.words 3);
      y2 = cast_signed w32 (slice_index cell.words 4);
    }

-- the node that a cell is read as
abbrev pub rtree_node_in : Cell → RtreeNode
rtree_node_in cell = record { count = high_of cell % 256; level = high_of cell / 256; cover = box_in cell; entries = refs_in cell 5 11 }
