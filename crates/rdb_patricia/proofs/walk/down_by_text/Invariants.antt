use Rattle.rdb_patricia.specs.Bits.{bit_at}
use Rattle.rdb_patricia.proofs.WayLemmas.{IsGoingDown}
use Rattle.rdb_patricia.proofs.walk.down_by_text.Given as goal

abbrev pub invariant-loop : goal.invariant-loop
invariant-loop g l = IsGoingDown (bit_at l.text) l.limit (g.C.Cells.image l.cells) l.fn.root.number l.counter l.spot
