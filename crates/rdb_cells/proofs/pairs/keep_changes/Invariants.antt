use Rattle.std.proofs.Common.{◌≡◌, vec_capacity}
use Rattle.rdb_cells.proofs.ChangeLemmas.{KeepsSoFar}
use Rattle.rdb_cells.proofs.pairs.keep_changes.Given as goal

abbrev pub invariant-loop-at : goal.invariant-loop-at
invariant-loop-at g l = KeepsSoFar (g.C.Cells.image l.cells) l.initial.pairs.items l.pairs.items l.at l.kept × (vec_capacity l.pairs ≡ vec_capacity l.initial.pairs)
