use Rattle.std.proofs.Common.{ℕ, List, IsTrue, subst, rules}
use Rattle.rdb_schema.specs.declared.types.ValueType.{ValueType}
use Rattle.rdb_schema.specs.Indexes.{fields_of}
use Rattle.rdb_rows.specs.RowKeys.{AreLeaves}
use Rattle.rdb_rows.proofs.key_tests.assert_key.Goals as goal

pub returns-clause-leaves : goal.returns-clause-leaves
returns-clause-leaves g c =
    let yes : IsTrue c.is_key.result = search rules in
    subst (λ (types : List ValueType). AreLeaves (record { types = types; fields = fields_of c.args.schema.now 0 0 })) c.in_ok-types.ensures
    (subst (λ (fields : List ℕ). AreLeaves (record { types = c.in_ok-types.types; fields = fields })) c.key_numbers.ensures (c.is_key.ensures.leaves yes))
