use Rattle.rdb_hash.proofs.ListLemmas.{IsListedUpTo}
use Rattle.rdb_hash.proofs.hash.Hash.list_table.Given as goal

abbrev pub invariant-loop-place : goal.invariant-loop-place
invariant-loop-place g l = IsListedUpTo (g.C.Cells.image l.cells) l.self.head.number l.table l.initial.refs l.refs l.place
