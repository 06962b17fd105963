use Rattle.std.proofs.Common.{◌+◌, ◌≤◌, Some}
use Rattle.rdb_cells.specs.Keys.{says}
use Rattle.rdb_tree.specs.Lookups.{goes_near}
use Rattle.rdb_tree.specs.Order.{goes}
use Rattle.rdb_tree.proofs.SearchLemmas.{AreCounted}
use Rattle.rdb_tree.proofs.search.count_near_key.Given as goal

abbrev pub invariant-loop-place : goal.invariant-loop-place
invariant-loop-place g l = AreCounted (goes (goes_near l.up) (says (g.K.Keys.meaning l.keys) (g.C.Cells.image l.cells)) l.key (Some l.id)) l.versions l.place × (l.steps ≤ l.initial.steps + l.place)
