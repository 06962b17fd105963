use Rattle.rdb_cells.proofs.PlainLemmas.{IsListedTo}
use Rattle.rdb_cells.proofs.doubles.plain_list.PlainListIndex.refs.Given as goal

abbrev pub invariant-loop : goal.invariant-loop
invariant-loop g l = IsListedTo (g.C.Cells.image l.cells) l.initial.at.number l.refs l.counter l.at.number
