use Rattle.std.proofs.Common.{◌≡◌, drop, length}
use Rattle.rdb_schema.specs.Values.{values_hold}
use Rattle.rdb_schema.proofs.values.values_hold.Given as goal

-- each value so far is one of its field's type
abbrev pub invariant-loop-at : goal.invariant-loop-at
invariant-loop-at l = record {
  as_many : length l.fields ≡ length l.row;
  left : values_hold l.schema (drop l.at l.fields) (drop l.at l.row) ≡ values_hold l.schema l.fields l.row;
}
