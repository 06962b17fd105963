use Rattle.std.proofs.Common.{◌≡◌, ◌≤◌, length}
use Rattle.rdb_cells.specs.Keys.{says}
use Rattle.rdb_cells.specs.Work.{work, reading}
use Rattle.rdb_tree.specs.Nature.{IsRootedAt, path_places}
use Rattle.rdb_tree.specs.Order.{is_before}
use Rattle.rdb_tree.specs.Trees.{Tree}
use Rattle.rdb_tree.proofs.WayLemmas.{IsOnWay}
use Rattle.rdb_tree.proofs.insert.descend.Given as goal

abbrev pub invariant-loop : goal.invariant-loop
invariant-loop g l =
    ((whole : Tree) → IsRootedAt (says (g.K.Keys.meaning l.keys) (reading (work g.C.Cells l.cells))) (reading (work g.C.Cells l.cells)) l.initial.at whole →
    IsOnWay (says (g.K.Keys.meaning l.keys) (reading (work g.C.Cells l.cells))) (reading (work g.C.Cells l.cells)) (is_before (says (g.K.Keys.meaning l.keys) (reading (work g.C.Cells l.cells))) l.version) whole l.initial.path.items l.path.items l.at l.counter)
    × (l.path.capacity ≡ path_places)
    × (length l.path.items ≤ l.counter)
