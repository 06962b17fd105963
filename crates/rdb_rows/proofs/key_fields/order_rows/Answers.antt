use Rattle.std.proofs.Common.{◌+◌, List, drop, sym, ap, ◌∙◌, arith}
use Rattle.std.proofs.lemmas.List.{drop_all}
use Rattle.rdb_base.specs.declared.value.Value.TheVariants as value
use Rattle.rdb_base.specs.Order.{row_order}
use Rattle.rdb_rows.specs.declared.key_fields.KeyField.{KeyField}
use Rattle.rdb_rows.specs.Places.{numbers_in}
use Rattle.rdb_rows.specs.RowKeys.{picked}
use Rattle.rdb_rows.proofs.KeyRows.{field_at, picked_at, order_goes_on, order_ends}
use Rattle.rdb_rows.proofs.key_fields.order_rows.Goals as goal

pub find_field-left-requires-clause-field : goal.find_field-left-requires-clause-field
find_field-left-requires-clause-field g c = field_at c.args.types.now c.args.fields.now c.loop-at.at c.at-field.result.now c.at-field.ensures c.requires.fields

pub find_field-right-requires-clause-field : goal.find_field-right-requires-clause-field
find_field-right-requires-clause-field g c = field_at c.args.types.now c.args.fields.now c.loop-at.at c.at-field.result.now c.at-field.ensures c.requires.fields

pub returns-in_default : goal.returns-in_default
returns-in_default g c row first other second =
    let f = c.at-field.result.now in
    let fields = c.args.fields.now in
    let i = c.loop-at.at in
    let l = c.find_field-left.ensures row first in
    let m = c.find_field-right.ensures other second in
    order_ends c.order_leaves.result (row_order (picked row (numbers_in fields)) (picked other (numbers_in fields))) (value.Leaf l.l) (value.Leaf m.l)
    (picked row (numbers_in (drop (i + 1) fields))) (picked other (numbers_in (drop (i + 1) fields)))
    (picked row (numbers_in (drop i fields))) (picked other (numbers_in (drop i fields)))
    (picked_at row fields i f (value.Leaf l.l) c.at-field.ensures l.there) (picked_at other fields i f (value.Leaf m.l) c.at-field.ensures m.there)
    (c.order_leaves.ensures l.l l.begins m.l m.begins) (c.loop-at.invariant row first other second) c.in_default.not-Equal

pub loop-at-preserved : goal.loop-at-preserved
loop-at-preserved g c row first other second =
    let f = c.at-field.result.now in
    let fields = c.args.fields.now in
    let i = c.loop-at.at in
    let l = c.find_field-left.ensures row first in
    let m = c.find_field-right.ensures other second in
    order_goes_on c.order_leaves.result (row_order (picked row (numbers_in fields)) (picked other (numbers_in fields))) (value.Leaf l.l) (value.Leaf m.l)
    (picked row (numbers_in (drop (i + 1) fields))) (picked other (numbers_in (drop (i + 1) fields)))
    (picked row (numbers_in (drop i fields))) (picked other (numbers_in (drop i fields)))
    (picked_at row fields i f (value.Leaf l.l) c.at-field.ensures l.there) (picked_at other fields i f (value.Leaf m.l) c.at-field.ensures m.there)
    (c.order_leaves.ensures l.l l.begins m.l m.begins) (c.loop-at.invariant row first other second) c.in-Equal.is

pub returns : goal.returns
returns g c row first other second =
    let least = c.loop-at-test.false in
    let count = c.len-at-end.ensures in
    sym (c.loop-at.invariant row first other second ∙ ap (λ (fs : List KeyField). row_order (picked row (numbers_in fs)) (picked other (numbers_in fs))) (drop_all c.loop-at.at c.args.fields.now (omega arith)))
