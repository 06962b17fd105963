use Rattle.rdb_objects.specs.Walks.{HasNoChildBelow}
use Rattle.rdb_objects.proofs.tree.lowest_child.Given as goal

abbrev pub invariant-loop-place : goal.invariant-loop-place
invariant-loop-place l = HasNoChildBelow l.cell l.place
