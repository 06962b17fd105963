use Rattle.std.proofs.Common.{◌≡◌, ℕ, List, drop}
use Rattle.rdb_access.specs.Walk.{after_leaves}
use Rattle.rdb_access.proofs.places.group_size.Given as goal

abbrev pub invariant-loop-at : goal.invariant-loop-at
invariant-loop-at l = (xs : List ℕ) → after_leaves l.types xs ≡ after_leaves (drop l.at l.types) (drop l.total xs)
