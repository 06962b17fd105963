use Rattle.rdb_hash.proofs.GatherLemmas.{IsGathered}
use Rattle.rdb_hash.proofs.chain.gather.Given as goal

abbrev pub invariant-loop : goal.invariant-loop
invariant-loop g l = IsGathered (g.K.Keys.meaning l.keys) (g.C.Cells.image l.cells) l.key l.initial.at.number l.initial.found.items l.found.items l.counter l.at.number
