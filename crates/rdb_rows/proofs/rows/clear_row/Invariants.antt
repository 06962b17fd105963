use Rattle.std.proofs.Common.{length, ◌≡◌, ◌≤◌, ◌+◌, ℕ, List}
use Rattle.rdb_cells.specs.Work.{work, reading, TakesNone}
use Rattle.rdb_rows.specs.Rows.{HoldsRow}
use Rattle.rdb_rows.proofs.Chains.{IsCleared}
use Rattle.rdb_rows.proofs.rows.clear_row.Given as goal

abbrev pub invariant-loop : goal.invariant-loop
invariant-loop g l = record {
  cleared : (bytes cells : List ℕ) → length bytes ≡ l.many → (holds : HoldsRow (reading (work g.C.Cells l.fn.cells)) l.fn.first.number bytes cells)
      → IsCleared (work g.C.Cells l.fn.cells) (work g.C.Cells l.cells) holds.chain l.counter l.at.number;
  none : TakesNone (work g.C.Cells l.fn.cells) (work g.C.Cells l.cells);
  places : length l.cells.plan.pairs ≤ length l.fn.cells.plan.pairs + l.counter;
  room : l.cells.plan.room ≡ l.fn.cells.plan.room;
  below : l.cells.cells ≡ l.fn.cells.cells;
  class : l.cells.class ≡ l.fn.cells.class;
}
