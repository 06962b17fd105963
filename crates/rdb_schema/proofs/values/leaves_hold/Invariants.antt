use Rattle.std.proofs.Common.{◌≡◌, drop, length}
use Rattle.rdb_schema.specs.Values.{leaves_hold}
use Rattle.rdb_schema.proofs.values.leaves_hold.Given as goal

-- each leaf so far is one of its field's type
abbrev pub invariant-loop-at : goal.invariant-loop-at
invariant-loop-at l = record {
  as_many : length l.fields ≡ length l.leaves;
  left : leaves_hold (drop l.at l.fields) (drop l.at l.leaves) ≡ leaves_hold l.fields l.leaves;
}
