use Rattle.std.proofs.Common.{◌≤◌, ◌+◌, ◌*◌}
use Rattle.rdb_cells.specs.Keys.{says}
use Rattle.rdb_tree.specs.Nature.{IsRootedAt}
use Rattle.rdb_tree.specs.Trees.{Tree}
use Rattle.rdb_tree.proofs.SoughtLemmas.{IsSought}
use Rattle.rdb_tree.proofs.lookup.seek_from.Given as goal

abbrev pub invariant-loop : goal.invariant-loop
invariant-loop g l =
    ((whole : Tree) → IsRootedAt (says (g.K.Keys.meaning l.keys) (g.C.Cells.image l.cells)) (g.C.Cells.image l.cells) l.initial.at whole →
    IsSought (says (g.K.Keys.meaning l.keys) (g.C.Cells.image l.cells)) (g.C.Cells.image l.cells) l.place l.up whole l.at l.best l.counter)
    × (l.steps ≤ l.initial.steps + 7 * l.counter)
