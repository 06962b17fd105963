use Rattle.std.proofs.Common.{◌≡◌, true, List, length, sym, ap, subst, ◌∙◌, arith, rules}
use Rattle.std.specs.Prelude.{IsTrue}
use Rattle.rdb_schema.specs.declared.types.ValueType.{ValueType}
use Rattle.rdb_schema.specs.Types.{row_fits}
use Rattle.rdb_schema.specs.Values.{row_holds}
use Rattle.rdb_schema.proofs.EncodingLengths.{row_fits_of}
use Rattle.rdb_store.specs.Shapes.{ClassShape, shape_in}
use Rattle.rdb_store.proofs.ClassNumbers.{many_shapes, schema_shape}
use Rattle.rdb_store.proofs.tests.encoded.Goals as goal

pub encode-requires : goal.encode-requires
encode-requires c =
    let store_is = c.in_ok-store.ensures.store in
    let some = c.in_ok-store.ensures.some in
    let many : length c.in_ok-store.store ≡ length c.args.schema.now.classes = ap (λ (l : List ClassShape). length l) store_is ∙ many_shapes c.args.schema.now 0 (length c.args.schema.now.classes) in
    let shape = c.class.ensures.shape ∙ ap (λ (l : List ClassShape). shape_in l 0) store_is ∙ schema_shape c.args.schema.now 0 (length c.args.schema.now.classes) 0 (omega arith) in
    let holds : row_holds c.args.schema.now 0 c.args.row.now ≡ true = search rules in
    subst (λ (types : List ValueType). IsTrue (row_fits types c.args.row.now)) (sym (ap (λ (s : ClassShape). s.types) shape)) (row_fits_of c.args.schema.now 0 c.args.row.now holds)
