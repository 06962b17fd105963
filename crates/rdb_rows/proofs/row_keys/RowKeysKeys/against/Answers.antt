use Rattle.std.proofs.Common.{◌∙◌, ℕ, Option, sym, ap, ap₂, nat_cmp}
use Rattle.std.specs.Ordering.{ordering_then}
use Rattle.rdb_cells.specs.Keys.{key_order}
use Rattle.rdb_rows.specs.Places.{numbers_in}
use Rattle.rdb_rows.specs.RowKeys.{KeyShape}
use Rattle.rdb_rows.proofs.KeyedRows.{known_by, has_row}
use Rattle.rdb_rows.proofs.row_keys.RowKeysKeys.against.Goals as goal

pub order_with-keys-requires-clause-row : goal.order_with-keys-requires-clause-row
order_with-keys-requires-clause-row g c =
    let own : KeyShape = record { types = c.self.inside.types; fields = numbers_in c.self.inside.fields } in
    has_row own c.args.self.now (g.C.Cells.image c.args.cells.now) c.args.version.number c.read-header.result.now c.row_spot.result c.self.view_is c.requires.version c.read-header.ensures c.row_spot.ensures.spot c.row_spot.ensures.short

pub returns-in-Some-clause-order : goal.returns-in-Some-clause-order
returns-in-Some-clause-order g c v said =
    let own : KeyShape = record { types = c.self.inside.types; fields = numbers_in c.self.inside.fields } in
    let k = known_by own c.args.self.now (g.C.Cells.image c.args.cells.now) c.args.version.number v c.read-header.result.now c.row_spot.result c.self.view_is said c.read-header.ensures c.row_spot.ensures.spot c.row_spot.ensures.short in
    c.then.ensures ∙ ap₂ ordering_then (c.order_with-keys.ensures k.row k.begins) (c.cmp.ensures ∙ ap (λ (n : ℕ). nat_cmp n c.in-Some.id) c.id_in.ensures)
    ∙ sym (ap₂ (λ w (id : Option ℕ). key_order w c.args.key.now id) k.is c.in-Some.is)

pub returns-in-None-clause-order : goal.returns-in-None-clause-order
returns-in-None-clause-order g c v said =
    let own : KeyShape = record { types = c.self.inside.types; fields = numbers_in c.self.inside.fields } in
    let k = known_by own c.args.self.now (g.C.Cells.image c.args.cells.now) c.args.version.number v c.read-header.result.now c.row_spot.result c.self.view_is said c.read-header.ensures c.row_spot.ensures.spot c.row_spot.ensures.short in
    c.order_with-keys.ensures k.row k.begins ∙ sym (ap₂ (λ w (id : Option ℕ). key_order w c.args.key.now id) k.is c.in-None.is)
