use Rattle.std.proofs.Common.{◌≡◌, ◌+◌, drop, true, fold, sym, ap, subst, ◌∙◌}
use Rattle.rdb_base.specs.declared.value.Value.{Value}
use Rattle.rdb_schema.specs.declared.types.ValueType.TheVariants as values
use Rattle.rdb_schema.specs.Encoding.{row_bytes, value_bytes}
use Rattle.rdb_schema.specs.Types.{value_fits}
use Rattle.rdb_cells.specs.Keys.{fnv_step, fnv1a}
use Rattle.rdb_rows.specs.Places.{numbers_in}
use Rattle.rdb_rows.specs.RowKeys.{picked}
use Rattle.rdb_rows.proofs.KeyRows.{types_there, hashed_value, value_room, own_value, hash_more}
use Rattle.rdb_rows.proofs.key_fields.hash_key.Goals as goal

pub at-requires-in-loop-at : goal.at-requires-in-loop-at
at-requires-in-loop-at c =
    let own = hashed_value c.args.types.now c.args.fields.now c.args.key.now c.loop-at.at c.at.result.now c.at.ensures c.requires.fields c.loop-at.invariant.0 in
    value_room c.args.key.now c.loop-at.at own.own own.here

pub hash_field-hash-requires : goal.hash_field-hash-requires
hash_field-hash-requires c =
    let f = c.at.result.now in
    let own = hashed_value c.args.types.now c.args.fields.now c.args.key.now c.loop-at.at f c.at.ensures c.requires.fields c.loop-at.invariant.0 in
    let same = own_value c.args.key.now c.loop-at.at f.ty (picked c.args.types.now (numbers_in (drop (c.loop-at.at + 1) c.args.fields.now))) own c.at-in-loop-at.result.now c.at-in-loop-at.ensures in
    subst (λ (v : Value). value_fits (values.Leaf f.ty) v ≡ true) (sym same) own.fits

pub loop-at-preserved : goal.loop-at-preserved
loop-at-preserved c =
    let f = c.at.result.now in
    let types = c.args.types.now in
    let fields = c.args.fields.now in
    let key = c.args.key.now in
    let i = c.loop-at.at in
    let own = hashed_value types fields key i f c.at.ensures c.requires.fields c.loop-at.invariant.0 in
    let same = own_value key i f.ty (picked types (numbers_in (drop (i + 1) fields))) own c.at-in-loop-at.result.now c.at-in-loop-at.ensures in (
      own.rest,
      hash_more (fnv1a (row_bytes (picked types (numbers_in fields)) key)) c.loop-at.hash c.hash_field-hash.result f.ty own.own
          (picked types (numbers_in (drop (i + 1) fields))) (drop (i + 1) key) (picked types (numbers_in (drop i fields))) (drop i key)
          (types_there types fields key i f c.at.ensures c.requires.fields c.loop-at.invariant.0) own.left
          (c.hash_field-hash.ensures ∙ ap (λ (v : Value). fold fnv_step c.loop-at.hash (value_bytes (values.Leaf f.ty) v)) same) c.loop-at.invariant.1,
    )
