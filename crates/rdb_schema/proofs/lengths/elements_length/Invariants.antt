use Rattle.std.proofs.Common.{◌≡◌, ◌≤◌, ◌+◌, ◌-◌, ◌^◌, drop}
use Rattle.rdb_schema.specs.Values.{elements_length}
use Rattle.rdb_schema.specs.Capped.{capped}
use Rattle.rdb_schema.proofs.lengths.elements_length.Given as goal

-- the length so far and that of what is left are that of all
abbrev pub invariant-loop-element : goal.invariant-loop-element
invariant-loop-element l = record {
  small : l.total ≤ 2 ^ 32 - 1;
  left : capped (l.total + elements_length l.schema l.of (drop l.element-index l.element-items)) ≡ capped (elements_length l.schema l.of l.elements);
}
