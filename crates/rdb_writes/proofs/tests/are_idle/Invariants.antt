use Rattle.rdb_writes.specs.Grounds.{WorksOn}
use Rattle.rdb_writes.proofs.TestLemmas.{EachBelow}
use Rattle.rdb_writes.proofs.tests.are_idle.Given as goal

abbrev pub invariant-loop-slot : goal.invariant-loop-slot
invariant-loop-slot g l = EachBelow l.registry.seats (λ seat. ¬ WorksOn seat.hand l.at.number) l.slot
