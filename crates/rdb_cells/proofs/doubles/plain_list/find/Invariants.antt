use Rattle.rdb_cells.proofs.PlainLemmas.{IsSought}
use Rattle.rdb_cells.proofs.doubles.plain_list.find.Given as goal

abbrev pub invariant-loop : goal.invariant-loop
invariant-loop g l = IsSought (g.C.Cells.image l.cells) l.fn.first.number l.version l.counter l.at.number
