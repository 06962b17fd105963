-- The key that goes on is the greater one.
use Rattle.std.proofs.Common.{sym, ap, ◌∙◌}
use Rattle.rdb_base.specs.Order.{row_order}
use Rattle.rdb_model.specs.Index.{key}
use Rattle.rdb_model.proofs.KeysLemmas.{compared_past, ended_before}
use Rattle.rdb_model.proofs.keys.compare_key.Goals as goal

pub returns-then-place-wanted : goal.returns-then-place-wanted
returns-then-place-wanted c =
    sym (compared_past c.as_slice-field-items.result.now c.args.row.now c.as_slice-wanted.result.now c.loop-field.field-index c.loop-field.place c.in-Some.value.now c.loop-field-test.true c.in-Some.ensures c.if-place-wanted.true)
    ∙ c.loop-field.invariant.left ∙ ap (λ w. row_order (key c.args.fields.now c.args.row.now) w) c.as_slice-wanted.ensures

pub returns-then-place-wanted-2 : goal.returns-then-place-wanted-2
returns-then-place-wanted-2 c =
    sym (ended_before c.as_slice-field-items.result.now c.args.row.now c.as_slice-wanted.result.now c.loop-field.field-index c.loop-field.place c.loop-field-test.false c.if-place-wanted-2.true)
    ∙ c.loop-field.invariant.left ∙ ap (λ w. row_order (key c.args.fields.now c.args.row.now) w) c.as_slice-wanted.ensures
