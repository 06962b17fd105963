use Rattle.std.proofs.Common.{◌≡◌, length}
use Rattle.rdb_model.proofs.JudgingLemmas.{Judged}
use Rattle.rdb_model.proofs.judging.first_wrong.Given as goal

-- the commits so far are judged, and the reads that see no more than they
abbrev pub invariant-loop-place : goal.invariant-loop-place
invariant-loop-place l = record {
  judged : Judged l.schema l.entries l.place l.db l.made l.seen l.best;
  classes : length l.db ≡ length l.schema.classes;
}
