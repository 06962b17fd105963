use Rattle.rdb_rtree.proofs.FreeCells.{IsCounted}
use Rattle.rdb_rtree.proofs.tests.has_room.Given as goal

abbrev pub invariant-loop : goal.invariant-loop
invariant-loop g l = IsCounted (g.C.Cells.image l.cells) (g.C.Cells.class_of l.cells) l.class l.last.number l.counter
