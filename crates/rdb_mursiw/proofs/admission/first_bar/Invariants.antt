use Rattle.rdb_mursiw.specs.Admission.{NoneBarsBelow}
use Rattle.rdb_mursiw.proofs.admission.first_bar.Given as goal

-- no connection in a slot so far is in the way
abbrev pub invariant-loop-slot : goal.invariant-loop-slot
invariant-loop-slot l = NoneBarsBelow l.registry.seats l.c l.kind l.slot
