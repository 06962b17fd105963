use Rattle.rdb_cells.specs.Keys.{says}
use Rattle.rdb_patricia.specs.Bits.{text_at}
use Rattle.rdb_patricia.proofs.PartingLemmas.{AreAlong}
use Rattle.rdb_patricia.proofs.bits.parting_of_keys.Given as goal

abbrev pub invariant-loop-place : goal.invariant-loop-place
invariant-loop-place g l =
    AreAlong (text_at (says (g.K.Keys.meaning l.keys) (g.C.Cells.image l.cells)) l.left) (text_at (says (g.K.Keys.meaning l.keys) (g.C.Cells.image l.cells)) l.right) l.place
