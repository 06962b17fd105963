use Rattle.std.proofs.Common.{◌+◌, ◌≤◌, length}
use Rattle.rdb_script.proofs.ScriptLemmas.{HasRun, RunsOn}
use Rattle.rdb_script.proofs.script_reader.script.Given as goal

-- the lines so far, and what stands behind them
abbrev pub invariant-loop-line : goal.invariant-loop-line
invariant-loop-line l = record {
  run : HasRun l.schema l.text l.rest l.progress l.line_number;
  on : RunsOn l.schema l.text l.rest l.progress;
  few : l.line_number + length l.rest ≤ length l.text + 1;
}

abbrev pub decreases-loop-line : goal.decreases-loop-line
decreases-loop-line l = length l.rest
