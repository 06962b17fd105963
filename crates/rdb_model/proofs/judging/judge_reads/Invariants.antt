use Rattle.std.proofs.Common.{◌≡◌, drop}
use Rattle.rdb_model.specs.FirstFault.{earliest_read}
use Rattle.rdb_model.proofs.judging.judge_reads.Given as goal

-- the earliest of the fault so far and those of the places that are left is that of all
abbrev pub invariant-loop-place : goal.invariant-loop-place
invariant-loop-place l = record {
  same : l.db ≡ l.fn.db;
  left : earliest_read l.schema l.fn.db l.entries l.best (drop l.place-index l.place-items) ≡ earliest_read l.schema l.fn.db l.entries l.fn.found l.places;
}
