use Rattle.rdb_cells.specs.Keys.{says}
use Rattle.rdb_tree.specs.Order.{is_before}
use Rattle.rdb_tree.proofs.SearchLemmas.{AreCounted}
use Rattle.rdb_tree.proofs.search.count_before.Given as goal

abbrev pub invariant-loop-place : goal.invariant-loop-place
invariant-loop-place g l = AreCounted (is_before (says (g.K.Keys.meaning l.keys) (g.C.Cells.image l.cells)) l.version) l.versions l.place
