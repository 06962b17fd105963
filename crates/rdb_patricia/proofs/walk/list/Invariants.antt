use Rattle.rdb_patricia.proofs.ListingLemmas.{IsListed}
use Rattle.rdb_patricia.proofs.walk.list.Given as goal

abbrev pub invariant-loop : goal.invariant-loop
invariant-loop g l = IsListed (g.C.Cells.image l.cells) l.initial.at.number l.initial.refs l.refs l.counter l.at.number l.later.items
