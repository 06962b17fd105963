-- What cells in plain memory hold, and to which class each belongs.
use Rattle.std.specs.Prelude.{◌≡◌, ◌≤◌, ℕ, List, ◌-◌, ◌*◌, ◌/◌, ◌==◌, length, Option, Some, None, slice_get, nat_lt, if◌then◌else◌}
use Rattle.rdb_pages.specs.Pages.{page_cells, max_pages}
use Rattle.rdb_pages.specs.declared.cell.Cell.{Cell}
use Rattle.rdb_cells.specs.References.{first_head, heads_of_a_class, max_classes, class_of_head}
use Rattle.rdb_cells.specs.Images.{Image}

-- the class of each page, the cells of all pages, and the heads
pub record Memory : Type 0 where
  pub classes : List ℕ
  pub cells : List Cell
  pub heads : List Cell

-- the cells are those of whole pages, and no more pages or heads than a region has
pub record IsMemory (m : Memory) : Type 0 where
  pub whole : length m.cells ≡ page_cells * length m.classes
  pub pages : length m.classes ≤ max_pages
  pub heads : length m.heads ≤ heads_of_a_class * max_classes

-- the cell of a number: one of a page, or a head
abbrev pub memory_image : Memory → Image
memory_image m n = if n == 0 then None else if nat_lt n first_head then slice_get m.cells (n - 1) else slice_get m.heads (n - first_head)

-- the class of a cell: that of its page, or that of the head's block
abbrev pub memory_class : Memory → ℕ → Option ℕ
memory_class m n = if n == 0 then None else if nat_lt n first_head then slice_get m.classes ((n - 1) / page_cells) else if nat_lt (n - first_head) (length m.heads) then Some (class_of_head n) else None
