use Rattle.std.proofs.Common.{◌+◌, ◌≤◌, length}
use Rattle.rdb_audit.proofs.Running.{HasRun, RunsOn}
use Rattle.rdb_audit.proofs.reader.read.Given as goal

-- the lines so far, and what stands behind them
abbrev pub invariant-loop-line : goal.invariant-loop-line
invariant-loop-line l = record {
  run : HasRun l.schema l.report l.rest l.progress l.number;
  on : RunsOn l.schema l.report l.rest l.progress;
  few : l.number + length l.rest ≤ length l.report + 1;
}

abbrev pub decreases-loop-line : goal.decreases-loop-line
decreases-loop-line l = length l.rest
