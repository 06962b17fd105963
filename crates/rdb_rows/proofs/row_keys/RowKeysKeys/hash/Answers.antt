use Rattle.std.proofs.Common.{◌∙◌, List, sym, ap, ap₂}
use Rattle.rdb_base.specs.declared.value.Value.{Value}
use Rattle.rdb_schema.specs.Encoding.{row_bytes}
use Rattle.rdb_cells.specs.Keys.{Version, fnv1a}
use Rattle.rdb_rows.specs.Places.{numbers_in}
use Rattle.rdb_rows.specs.RowKeys.{KeyShape, key_types}
use Rattle.rdb_rows.proofs.KeyedRows.{known_by, has_row}
use Rattle.rdb_rows.proofs.row_keys.RowKeysKeys.hash.Goals as goal

pub hash_row-requires-clause-row : goal.hash_row-requires-clause-row
hash_row-requires-clause-row g c =
    let own : KeyShape = record { types = c.self.inside.types; fields = numbers_in c.self.inside.fields } in
    has_row own c.args.self.now (g.C.Cells.image c.args.cells.now) c.args.version.number c.read.result.now c.row_spot-first.result c.self.view_is c.requires c.read.ensures c.row_spot-first.ensures.spot c.row_spot-first.ensures.short

pub returns : goal.returns
returns g c v said =
    let own : KeyShape = record { types = c.self.inside.types; fields = numbers_in c.self.inside.fields } in
    let k = known_by own c.args.self.now (g.C.Cells.image c.args.cells.now) c.args.version.number v c.read.result.now c.row_spot-first.result c.self.view_is said c.read.ensures c.row_spot-first.ensures.spot c.row_spot-first.ensures.short in
    c.hash_row.ensures k.row k.begins ∙ ap₂ (λ (s : KeyShape) (key : List Value). fnv1a (row_bytes (key_types s) key)) c.self.view_is (sym (ap (λ (w : Version). w.key) k.is))
