use Rattle.std.proofs.Common.{take}
use Rattle.rdb_history.specs.Classes.{LooksAt}
use Rattle.rdb_history.proofs.classes.classes_looked_at.Given as goal

-- the set has the classes of the operations so far
abbrev pub invariant-loop-place : goal.invariant-loop-place
invariant-loop-place l = LooksAt l.classes (take l.place l.done)
