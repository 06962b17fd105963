use Rattle.std.proofs.Common.{◌≡◌, ◌++◌, ℕ, suc, drop}
use Rattle.std.specs.List.{flat_map}
use Rattle.rdb_rtree.specs.Standing.{IsTreeAt}
use Rattle.rdb_rtree.specs.Trees.{Node, RTree, versions}
use Rattle.rdb_rtree.proofs.lookup.+gather_versions.Given as goal

abbrev pub decreases-gather_versions : goal.decreases-gather_versions
decreases-gather_versions g l = l.level

abbrev pub invariant-loop-place : goal.invariant-loop-place
invariant-loop-place g l = (h : ℕ) (t : Node (RTree h)) → IsTreeAt (g.C.Cells.image l.cells) l.fn.at l.level h t →
    l.refs ++ flat_map (versions h) (drop l.place t.below) ≡ l.initial.refs ++ versions (suc h) t
