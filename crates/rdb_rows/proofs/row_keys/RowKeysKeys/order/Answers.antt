use Rattle.std.proofs.Common.{◌∙◌, sym, ap₂}
use Rattle.std.specs.Ordering.{ordering_then}
use Rattle.rdb_cells.specs.Keys.{version_order}
use Rattle.rdb_rows.specs.Places.{numbers_in}
use Rattle.rdb_rows.specs.RowKeys.{KeyShape}
use Rattle.rdb_rows.proofs.KeyedRows.{known_by, has_row}
use Rattle.rdb_rows.proofs.row_keys.RowKeysKeys.order.Goals as goal

pub order_rows-requires-clause-a : goal.order_rows-requires-clause-a
order_rows-requires-clause-a g c =
    let own : KeyShape = record { types = c.self.inside.types; fields = numbers_in c.self.inside.fields } in
    has_row own c.args.self.now (g.C.Cells.image c.args.cells.now) c.args.a.number c.read-left.result.now c.row_spot.result c.self.view_is c.requires.a c.read-left.ensures c.row_spot.ensures.spot c.row_spot.ensures.short

pub order_rows-requires-clause-b : goal.order_rows-requires-clause-b
order_rows-requires-clause-b g c =
    let own : KeyShape = record { types = c.self.inside.types; fields = numbers_in c.self.inside.fields } in
    has_row own c.args.self.now (g.C.Cells.image c.args.cells.now) c.args.b.number c.read-right.result.now c.row_spot-2.result c.self.view_is c.requires.b c.read-right.ensures c.row_spot-2.ensures.spot c.row_spot-2.ensures.short

pub returns : goal.returns
returns g c v said w also =
    let own : KeyShape = record { types = c.self.inside.types; fields = numbers_in c.self.inside.fields } in
    let image = g.C.Cells.image c.args.cells.now in
    let left = known_by own c.args.self.now image c.args.a.number v c.read-left.result.now c.row_spot.result c.self.view_is said c.read-left.ensures c.row_spot.ensures.spot c.row_spot.ensures.short in
    let right = known_by own c.args.self.now image c.args.b.number w c.read-right.result.now c.row_spot-2.result c.self.view_is also c.read-right.ensures c.row_spot-2.ensures.spot c.row_spot-2.ensures.short in
    c.then.ensures ∙ ap₂ ordering_then (c.order_rows.ensures left.row left.begins right.row right.begins) c.order_headers.ensures ∙ sym (ap₂ version_order left.is right.is)
