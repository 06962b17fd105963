use Rattle.rdb_rows.proofs.PlaceLemmas.{IsPlacing}
use Rattle.rdb_rows.proofs.places.place_of.Given as goal

abbrev pub invariant-loop-at : goal.invariant-loop-at
invariant-loop-at l = IsPlacing l.types l.at l.offset l.steps
