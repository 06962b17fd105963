use Rattle.std.proofs.Common.{◌≡◌, true, sym, ap, subst, ◌∙◌, arith}
use Rattle.rdb_base.specs.declared.value.Value.{Value}
use Rattle.rdb_base.specs.declared.value.Value.TheVariants as value
use Rattle.rdb_base.specs.Order.{value_order}
use Rattle.rdb_schema.specs.declared.types.ValueType.TheVariants as values
use Rattle.rdb_schema.specs.Types.{value_fits}
use Rattle.rdb_rows.proofs.KeyRows.{field_at, value_of_key, value_room, own_value, ordering_more, ordering_ends, all_ordered}
use Rattle.rdb_rows.specs.Places.{numbers_in}
use Rattle.std.proofs.Common.{drop, ◌+◌}
use Rattle.rdb_rows.specs.RowKeys.{picked}
use Rattle.rdb_rows.proofs.key_fields.order_with.Goals as goal

pub find_field-spot-requires-clause-field : goal.find_field-spot-requires-clause-field
find_field-spot-requires-clause-field g c = field_at c.args.types.now c.args.fields.now c.loop-at.at c.at-field.result.now c.at-field.ensures c.requires.fields

pub at-requires : goal.at-requires
at-requires g c =
    let own = value_of_key (g.C.Cells.image c.args.cells.now) c.args.first c.args.types.now c.args.fields.now c.args.key.now c.loop-at.at c.at-field.result.now c.at-field.ensures c.requires.fields c.loop-at.invariant in
    value_room c.args.key.now c.loop-at.at own.own own.here

pub order_value-requires-clause-other : goal.order_value-requires-clause-other
order_value-requires-clause-other g c =
    let f = c.at-field.result.now in
    let own = value_of_key (g.C.Cells.image c.args.cells.now) c.args.first c.args.types.now c.args.fields.now c.args.key.now c.loop-at.at f c.at-field.ensures c.requires.fields c.loop-at.invariant in
    let same = own_value c.args.key.now c.loop-at.at f.ty (picked c.args.types.now (numbers_in (drop (c.loop-at.at + 1) c.args.fields.now))) own c.at.result.now c.at.ensures in
    subst (λ (v : Value). value_fits (values.Leaf f.ty) v ≡ true) (sym same) own.fits

pub returns-in_default : goal.returns-in_default
returns-in_default g c row begins =
    let image = g.C.Cells.image c.args.cells.now in
    let f = c.at-field.result.now in
    let own = value_of_key image c.args.first c.args.types.now c.args.fields.now c.args.key.now c.loop-at.at f c.at-field.ensures c.requires.fields c.loop-at.invariant in
    let same = own_value c.args.key.now c.loop-at.at f.ty (picked c.args.types.now (numbers_in (drop (c.loop-at.at + 1) c.args.fields.now))) own c.at.result.now c.at.ensures in
    ordering_ends image c.args.first c.args.types.now c.args.fields.now c.args.key.now c.loop-at.at f c.at-field.ensures c.requires.fields c.loop-at.invariant c.find_field-spot.result c.order_value.result c.find_field-spot.ensures
    (λ l begins_l. c.order_value.ensures l begins_l ∙ ap (value_order (value.Leaf l)) same) c.in_default.not-Equal row begins

pub loop-at-preserved : goal.loop-at-preserved
loop-at-preserved g c =
    let image = g.C.Cells.image c.args.cells.now in
    let f = c.at-field.result.now in
    let own = value_of_key image c.args.first c.args.types.now c.args.fields.now c.args.key.now c.loop-at.at f c.at-field.ensures c.requires.fields c.loop-at.invariant in
    let same = own_value c.args.key.now c.loop-at.at f.ty (picked c.args.types.now (numbers_in (drop (c.loop-at.at + 1) c.args.fields.now))) own c.at.result.now c.at.ensures in
    ordering_more image c.args.first c.args.types.now c.args.fields.now c.args.key.now c.loop-at.at f c.at-field.ensures c.requires.fields c.loop-at.invariant c.find_field-spot.result c.order_value.result c.find_field-spot.ensures
    (λ l begins_l. c.order_value.ensures l begins_l ∙ ap (value_order (value.Leaf l)) same) c.in-Equal.is

pub returns : goal.returns
returns g c row begins =
    let least = c.loop-at-test.false in
    let count = c.len-at-end.ensures in
    all_ordered (g.C.Cells.image c.args.cells.now) c.args.first c.args.types.now c.args.fields.now c.args.key.now c.loop-at.at (omega arith) c.loop-at.invariant row begins
