use Rattle.std.proofs.Common.{◌≡◌, ◌≤◌, ◌+◌, ◌-◌, ◌^◌, drop}
use Rattle.rdb_schema.specs.Values.{leaves_length}
use Rattle.rdb_schema.specs.Capped.{capped}
use Rattle.rdb_schema.proofs.lengths.leaves_length.Given as goal

-- the length so far and that of what is left are that of all
abbrev pub invariant-loop-at : goal.invariant-loop-at
invariant-loop-at l = record {
  small : l.total ≤ 2 ^ 32 - 1;
  left : capped (l.total + leaves_length (drop l.at l.fields) (drop l.at l.leaves)) ≡ capped (leaves_length l.fields l.leaves);
}
