use Rattle.std.proofs.Common.{◌≡◌, List, drop}
use Rattle.rdb_base.specs.declared.value.Value.{Value}
use Rattle.rdb_base.specs.Order.{row_order}
use Rattle.rdb_rows.specs.Places.{numbers_in}
use Rattle.rdb_rows.specs.RowKeys.{picked}
use Rattle.rdb_rows.specs.RowSpots.{BeginsRow}
use Rattle.rdb_rows.proofs.key_fields.order_rows.Given as goal

abbrev pub invariant-loop-at : goal.invariant-loop-at
invariant-loop-at g l = (row : List Value) → BeginsRow (g.C.Cells.image l.cells) l.a l.types row → (other : List Value) → BeginsRow (g.C.Cells.image l.cells) l.b l.types other →
    row_order (picked row (numbers_in l.fields)) (picked other (numbers_in l.fields)) ≡ row_order (picked row (numbers_in (drop l.at l.fields))) (picked other (numbers_in (drop l.at l.fields)))
