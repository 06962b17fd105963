use Rattle.rdb_patricia.specs.Bits.{bit_at}
use Rattle.rdb_patricia.proofs.WayLemmas.{IsPassingDown}
use Rattle.rdb_patricia.proofs.walk.last_end.Given as goal

abbrev pub invariant-loop : goal.invariant-loop
invariant-loop g l = IsPassingDown (bit_at l.text) l.limit (g.C.Cells.image l.cells) l.fn.root.number l.counter l.at l.last
