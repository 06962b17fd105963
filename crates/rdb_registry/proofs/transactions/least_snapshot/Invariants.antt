use Rattle.std.proofs.Common.{◌≡◌, None, drop}
use Rattle.rdb_registry.proofs.OpeningLemmas.{lower_all}
use Rattle.rdb_registry.proofs.transactions.least_snapshot.Given as goal

-- the least so far, lowered by what is left, is the least of all
abbrev pub invariant-loop-slot : goal.invariant-loop-slot
invariant-loop-slot l = lower_all l.least (drop l.slot-index l.slots) ≡ lower_all None l.slots
