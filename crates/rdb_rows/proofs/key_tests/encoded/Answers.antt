use Rattle.std.proofs.Common.{◌≡◌, List, IsTrue, true, sym, subst, ◌∙◌, rules}
use Rattle.rdb_schema.specs.declared.types.ValueType.{ValueType}
use Rattle.rdb_schema.specs.Types.{row_fits}
use Rattle.rdb_schema.proofs.EncodingLengths.{row_fits_of}
use Rattle.rdb_rows.proofs.key_tests.encoded.Goals as goal

pub encode-requires : goal.encode-requires
encode-requires g c =
    let yes : IsTrue c.row_holds.result = search rules in
    subst (λ (types : List ValueType). row_fits types c.args.row.now ≡ true) (sym c.in_ok-accessors.ensures) (row_fits_of c.args.schema.now 0 c.args.row.now (sym c.row_holds.ensures ∙ yes))
