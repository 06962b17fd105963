use Rattle.rdb_rows.proofs.PlaceLemmas.{AreSized}
use Rattle.rdb_rows.proofs.places.group_size.Given as goal

abbrev pub invariant-loop-at : goal.invariant-loop-at
invariant-loop-at l = AreSized l.types l.at l.total
