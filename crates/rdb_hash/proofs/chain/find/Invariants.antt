use Rattle.rdb_hash.proofs.WalkLemmas.{IsSought}
use Rattle.rdb_hash.proofs.chain.find.Given as goal

abbrev pub invariant-loop : goal.invariant-loop
invariant-loop g l = IsSought (g.C.Cells.image l.cells) l.fn.first.number l.fn.version l.before.number l.counter l.at.number
