use Rattle.std.proofs.Common.{◌≡◌, ℕ, drop}
use Rattle.rdb_cells.specs.Keys.{Sayings}
use Rattle.rdb_cells.specs.Work.{work, reading}
use Rattle.rdb_rtree.specs.Changes.{versions_below, IsShrinking, AreOthers}
use Rattle.rdb_rtree.specs.Trees.{Node, RTree}
use Rattle.rdb_rtree.proofs.remove.+without_entry.Given as goal

abbrev pub decreases-without_entry : goal.decreases-without_entry
decreases-without_entry g l = l.level

abbrev pub invariant-loop-place : goal.invariant-loop-place
invariant-loop-place g l =
    (work g.C.Cells l.cells ≡ work g.C.Cells l.initial.cells)
    × ((said : Sayings) (h : ℕ) (t : Node (RTree h)) → IsShrinking (g.K.Keys.meaning l.keys) said (reading (work g.C.Cells l.initial.cells)) l.fn.node l.level l.lost h t →
    AreOthers l.lost.at (versions_below h (drop l.place t.below)) → AreOthers l.lost.at (versions_below h t.below))
    × (l.cells.cells ≡ l.initial.cells.cells)
    × (l.cells.class ≡ l.initial.cells.class)
