use Rattle.rdb_hash.proofs.ListLemmas.{AreListedUpTo}
use Rattle.rdb_hash.proofs.hash.HashIndex.refs.Given as goal

abbrev pub invariant-loop-table : goal.invariant-loop-table
invariant-loop-table g l = AreListedUpTo (g.C.Cells.image l.cells) l.self.head.number l.refs l.table
