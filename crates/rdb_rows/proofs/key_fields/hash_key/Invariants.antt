use Rattle.std.proofs.Common.{◌≡◌, drop, true, fold}
use Rattle.rdb_schema.specs.Encoding.{row_bytes}
use Rattle.rdb_schema.specs.Types.{row_fits}
use Rattle.rdb_cells.specs.Keys.{fnv_step, fnv1a}
use Rattle.rdb_rows.specs.Places.{numbers_in}
use Rattle.rdb_rows.specs.RowKeys.{picked}
use Rattle.rdb_rows.proofs.key_fields.hash_key.Given as goal

abbrev pub invariant-loop-at : goal.invariant-loop-at
invariant-loop-at l = (row_fits (picked l.types (numbers_in (drop l.at l.fields))) (drop l.at l.key) ≡ true)
    × (fold fnv_step l.hash (row_bytes (picked l.types (numbers_in (drop l.at l.fields))) (drop l.at l.key)) ≡ fnv1a (row_bytes (picked l.types (numbers_in l.fields)) l.key))
