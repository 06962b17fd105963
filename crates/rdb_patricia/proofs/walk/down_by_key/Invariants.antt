use Rattle.rdb_cells.specs.Keys.{says}
use Rattle.rdb_patricia.specs.Bits.{bit_at, text_at}
use Rattle.rdb_patricia.proofs.WayLemmas.{IsGoingDown}
use Rattle.rdb_patricia.proofs.walk.down_by_key.Given as goal

abbrev pub invariant-loop : goal.invariant-loop
invariant-loop g l =
    IsGoingDown (bit_at (text_at (says (g.K.Keys.meaning l.keys) (g.C.Cells.image l.cells)) l.version)) l.limit (g.C.Cells.image l.cells) l.fn.root.number l.counter l.spot
