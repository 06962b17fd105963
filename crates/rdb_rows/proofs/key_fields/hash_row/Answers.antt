use Rattle.std.proofs.Common.{◌+◌, List, drop, fold, sym, ap, ◌∙◌, arith}
use Rattle.std.proofs.lemmas.List.{drop_all}
use Rattle.rdb_base.specs.declared.value.Value.TheVariants as value
use Rattle.rdb_schema.specs.declared.types.ValueType.TheVariants as values
use Rattle.rdb_schema.specs.Encoding.{row_bytes}
use Rattle.rdb_cells.specs.Keys.{fnv_step, fnv1a}
use Rattle.rdb_rows.specs.declared.key_fields.KeyField.{KeyField}
use Rattle.rdb_rows.specs.Places.{numbers_in}
use Rattle.rdb_rows.specs.RowKeys.{picked}
use Rattle.rdb_rows.proofs.KeyRows.{field_at, picked_at, hash_more}
use Rattle.rdb_rows.proofs.key_fields.hash_row.Goals as goal

pub find_field-spot-requires-clause-field : goal.find_field-spot-requires-clause-field
find_field-spot-requires-clause-field g c = field_at c.args.types.now c.args.fields.now c.loop-at.at c.at-field.result.now c.at-field.ensures c.requires.fields

pub loop-at-preserved : goal.loop-at-preserved
loop-at-preserved g c row begins =
    let f = c.at-field.result.now in
    let fields = c.args.fields.now in
    let types = c.args.types.now in
    let i = c.loop-at.at in
    let l = c.find_field-spot.ensures row begins in
    let is = field_at types fields i f c.at-field.ensures c.requires.fields in
    hash_more (fnv1a (row_bytes (picked types (numbers_in fields)) (picked row (numbers_in fields)))) c.loop-at.hash c.hash_leaf-hash.result f.ty (value.Leaf l.l)
    (picked types (numbers_in (drop (i + 1) fields))) (picked row (numbers_in (drop (i + 1) fields)))
    (picked types (numbers_in (drop i fields))) (picked row (numbers_in (drop i fields)))
    (picked_at types fields i f (values.Leaf f.ty) c.at-field.ensures is.leaf) (picked_at row fields i f (value.Leaf l.l) c.at-field.ensures l.there)
    (c.hash_leaf-hash.ensures l.l l.begins) (c.loop-at.invariant row begins)

pub returns : goal.returns
returns g c row begins =
    let least = c.loop-at-test.false in
    let count = c.len-at-end.ensures in
    sym (ap (λ (fs : List KeyField). fold fnv_step c.loop-at.hash (row_bytes (picked c.args.types.now (numbers_in fs)) (picked row (numbers_in fs)))) (drop_all c.loop-at.at c.args.fields.now (omega arith)))
    ∙ c.loop-at.invariant row begins
