use Rattle.std.proofs.Common.{◌≡◌, List, drop, fold}
use Rattle.rdb_base.specs.declared.value.Value.{Value}
use Rattle.rdb_schema.specs.Encoding.{row_bytes}
use Rattle.rdb_cells.specs.Keys.{fnv_step, fnv1a}
use Rattle.rdb_rows.specs.Places.{numbers_in}
use Rattle.rdb_rows.specs.RowKeys.{picked}
use Rattle.rdb_rows.specs.RowSpots.{BeginsRow}
use Rattle.rdb_rows.proofs.key_fields.hash_row.Given as goal

abbrev pub invariant-loop-at : goal.invariant-loop-at
invariant-loop-at g l = (row : List Value) → BeginsRow (g.C.Cells.image l.cells) l.first l.types row →
    fold fnv_step l.hash (row_bytes (picked l.types (numbers_in (drop l.at l.fields))) (picked row (numbers_in (drop l.at l.fields)))) ≡ fnv1a (row_bytes (picked l.types (numbers_in l.fields)) (picked row (numbers_in l.fields)))
