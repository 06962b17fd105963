use Rattle.std.proofs.Common.{◌∙◌, refl, sym, ap}
use Rattle.std.proofs.lemmas.Bool.{false≢true}
use Rattle.rdb_base.proofs.OrderLemmas.{row_level}
use Rattle.rdb_cells.specs.Keys.{Version}
use Rattle.rdb_cells.proofs.KeyLemmas.{level_when_equal}
use Rattle.rdb_rows.specs.Places.{numbers_in}
use Rattle.rdb_rows.specs.RowKeys.{KeyShape}
use Rattle.rdb_rows.proofs.KeyedRows.{known_by, has_row}
use Rattle.rdb_rows.proofs.row_keys.RowKeysKeys.same.Goals as goal

pub order_with-requires-clause-row : goal.order_with-requires-clause-row
order_with-requires-clause-row g c =
    let own : KeyShape = record { types = c.self.inside.types; fields = numbers_in c.self.inside.fields } in
    has_row own c.args.self.now (g.C.Cells.image c.args.cells.now) c.args.version.number c.read.result.now c.row_spot-first.result c.self.view_is c.requires.version c.read.ensures c.row_spot-first.ensures.spot c.row_spot-first.ensures.short

pub returns-in-Equal : goal.returns-in-Equal
returns-in-Equal g c v said =
    let own : KeyShape = record { types = c.self.inside.types; fields = numbers_in c.self.inside.fields } in
    let k = known_by own c.args.self.now (g.C.Cells.image c.args.cells.now) c.args.version.number v c.read.result.now c.row_spot-first.result c.self.view_is said c.read.ensures c.row_spot-first.ensures.spot c.row_spot-first.ensures.short in
    let is = c.order_with.ensures k.row k.begins in
    let key = ap (λ (w : Version). w.key) k.is in
    (λ yes. key ∙ row_level _ _ (sym is ∙ c.in-Equal.is), λ equal. refl)

pub returns-in_default : goal.returns-in_default
returns-in_default g c v said =
    let own : KeyShape = record { types = c.self.inside.types; fields = numbers_in c.self.inside.fields } in
    let k = known_by own c.args.self.now (g.C.Cells.image c.args.cells.now) c.args.version.number v c.read.result.now c.row_spot-first.result c.self.view_is said c.read.ensures c.row_spot-first.ensures.spot c.row_spot-first.ensures.short in
    let is = c.order_with.ensures k.row k.begins in
    let key = ap (λ (w : Version). w.key) k.is in
    (λ yes. absurd (false≢true yes), λ equal. absurd (c.in_default.not-Equal (is ∙ level_when_equal _ _ (sym key ∙ equal))))
