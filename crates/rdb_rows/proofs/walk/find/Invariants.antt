use Rattle.rdb_rows.proofs.WalkLemmas.{IsFinding}
use Rattle.rdb_rows.proofs.walk.find.Given as goal

abbrev pub invariant-loop-at : goal.invariant-loop-at
invariant-loop-at g l = IsFinding (g.C.Cells.image l.cells) l.fn.first l.spot l.types l.place.steps l.at
