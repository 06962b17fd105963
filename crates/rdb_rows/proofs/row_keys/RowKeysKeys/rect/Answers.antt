use Rattle.std.proofs.Common.{◌∙◌, Some, sym, ap}
use Rattle.rdb_cells.specs.Keys.{Version, box_of}
use Rattle.rdb_rows.specs.Places.{numbers_in}
use Rattle.rdb_rows.specs.RowKeys.{KeyShape}
use Rattle.rdb_rows.proofs.KeyRows.{field_at}
use Rattle.rdb_rows.proofs.KeyedRows.{known_by}
use Rattle.rdb_rows.proofs.KeyTexts.{one_version, box_found}
use Rattle.rdb_rows.proofs.row_keys.RowKeysKeys.rect.Goals as goal

pub find_field-requires-clause-field : goal.find_field-requires-clause-field
find_field-requires-clause-field g c = field_at c.self.inside.types c.self.inside.fields 0 c.at.result.now c.at.ensures c.self.invariant

pub find_field-requires-clause-row : goal.find_field-requires-clause-row
find_field-requires-clause-row g c =
    let own : KeyShape = record { types = c.self.inside.types; fields = numbers_in c.self.inside.fields } in
    let image = g.C.Cells.image c.args.cells.now in
    let k = known_by own c.args.self.now image c.args.version.number c.requires.0 c.read.result.now c.row_spot-first.result c.self.view_is c.requires.1 c.read.ensures c.row_spot-first.ensures.spot c.row_spot-first.ensures.short in
    (k.row, k.begins)

pub rect_at-requires : goal.rect_at-requires
rect_at-requires g c =
    let own : KeyShape = record { types = c.self.inside.types; fields = numbers_in c.self.inside.fields } in
    let image = g.C.Cells.image c.args.cells.now in
    let k = known_by own c.args.self.now image c.args.version.number c.requires.0 c.read.result.now c.row_spot-first.result c.self.view_is c.requires.1 c.read.ensures c.row_spot-first.ensures.spot c.row_spot-first.ensures.short in
    (box_found c.self.inside.types c.self.inside.fields image c.requires.0 c.read.result.now c.row_spot-first.result c.find_field.result c.at.result.now k c.at.ensures c.find_field.ensures c.requires.2).2

pub returns : goal.returns
returns g c v said =
    let own : KeyShape = record { types = c.self.inside.types; fields = numbers_in c.self.inside.fields } in
    let image = g.C.Cells.image c.args.cells.now in
    let k = known_by own c.args.self.now image c.args.version.number c.requires.0 c.read.result.now c.row_spot-first.result c.self.view_is c.requires.1 c.read.ensures c.row_spot-first.ensures.spot c.row_spot-first.ensures.short in
    let box = box_found c.self.inside.types c.self.inside.fields image c.requires.0 c.read.result.now c.row_spot-first.result c.find_field.result c.at.result.now k c.at.ensures c.find_field.ensures c.requires.2 in
    ap (λ (w : Version). box_of w.key) (one_version _ v c.requires.0 said c.requires.1) ∙ box.1 ∙ ap Some (sym (c.rect_at.ensures box.0 box.3 box.4))
