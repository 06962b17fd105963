use Rattle.rdb_hash.proofs.WalkLemmas.{IsListedTo}
use Rattle.rdb_hash.proofs.chain.list.Given as goal

abbrev pub invariant-loop : goal.invariant-loop
invariant-loop g l = IsListedTo (g.C.Cells.image l.cells) l.initial.at.number l.initial.refs l.refs l.counter l.at.number
