use Rattle.rdb_objects.specs.Order.{HasNoChildFrom}
use Rattle.rdb_objects.proofs.walk.child_from.Given as goal

abbrev pub invariant-loop-place : goal.invariant-loop-place
invariant-loop-place l = HasNoChildFrom l.cell l.fn.start l.place
