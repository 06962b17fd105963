use Rattle.rdb_runner.proofs.PlainRunLemmas.{Answered}
use Rattle.rdb_runner.proofs.plain_run.answered.Given as goal

-- the lines so far are answered
abbrev pub invariant-loop-line : goal.invariant-loop-line
invariant-loop-line l = Answered l.schema l.lines l.line-index l.done l.db l.next
