use Rattle.rdb_rows.proofs.KeyRows.{IsOrdering}
use Rattle.rdb_rows.proofs.key_fields.order_with.Given as goal

abbrev pub invariant-loop-at : goal.invariant-loop-at
invariant-loop-at g l = IsOrdering (g.C.Cells.image l.cells) l.first l.types l.fields l.key l.at
