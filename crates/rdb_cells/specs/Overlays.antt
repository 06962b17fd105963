-- Cells with a plan over them, and cells with undo records taken back.
use Rattle.std.specs.Prelude.{◌≡◌, ℕ, List, true}
use Rattle.rdb_pages.specs.declared.cell.CellRef.{CellRef}
use Rattle.rdb_cells.specs.declared.pairs.Pair.{Pair}
use Rattle.rdb_cells.specs.Images.{Image, IsCell}
use Rattle.rdb_cells.specs.Records.{Record, names}

-- the cells, the plan, the class of the work, and the last cell that was taken
pub record Laid (C : Type 0) : Type 0 where
  pub cells : C
  pub plan : Record
  pub class : ℕ
  pub taken : CellRef

-- every cell of a plan is one of the image
abbrev pub AreCells : Image → List Pair → Type 0
AreCells image pairs = (n : ℕ) → names pairs n ≡ true → IsCell image n

-- the cells, and the pairs of each undo record that is taken back
pub record Undone (C : Type 0) : Type 0 where
  pub cells : C
  pub records : List (List Pair)
