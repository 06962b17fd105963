use Rattle.rdb_history.proofs.TakingUp.{AreTakenUp}
use Rattle.rdb_history.proofs.index.index_writes.Given as goal

-- the operations so far are taken up
abbrev pub invariant-loop-operation : goal.invariant-loop-operation
invariant-loop-operation l = AreTakenUp l.place l.done l.fn.writes l.fn.newest l.operation l.classes l.writes l.newest
