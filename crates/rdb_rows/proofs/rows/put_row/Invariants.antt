use Rattle.std.proofs.Common.{length, ◌≡◌}
use Rattle.rdb_cells.specs.Work.{work}
use Rattle.rdb_rows.proofs.Puttings.{IsPutting}
use Rattle.rdb_rows.proofs.rows.put_row.Given as goal

abbrev pub invariant-loop-rest : goal.invariant-loop-rest
invariant-loop-rest g l = record {
  putting : IsPutting (work g.C.Cells l.fn.cells) (work g.C.Cells l.cells) l.bytes l.first.number l.at.number l.rest;
  below : l.cells.cells ≡ l.fn.cells.cells;
  class : l.cells.class ≡ l.fn.cells.class;
}

abbrev pub decreases-loop-rest : goal.decreases-loop-rest
decreases-loop-rest g l = length l.rest
