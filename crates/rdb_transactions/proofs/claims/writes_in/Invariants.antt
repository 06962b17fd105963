use Rattle.std.proofs.Common.{◌≡◌, ◌+◌, ◌≤◌, drop}
use Rattle.rdb_transactions.specs.Claims.{writes_in}
use Rattle.rdb_transactions.proofs.claims.writes_in.Given as goal

-- the writes so far and those that are left are all
abbrev pub invariant-loop-op : goal.invariant-loop-op
invariant-loop-op l = record {
  few : l.writes ≤ l.op-index;
  sum : l.writes + writes_in (drop l.op-index l.done) ≡ writes_in l.done;
}
