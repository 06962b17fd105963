use Rattle.std.proofs.Common.{◌≡◌, ◌++◌, ℕ, suc, drop}
use Rattle.std.specs.List.{flat_map}
use Rattle.rdb_cells.specs.Keys.{Sayings}
use Rattle.rdb_rtree.specs.Lookups.{found_in}
use Rattle.rdb_rtree.specs.Standing.{IsKeyedAt}
use Rattle.rdb_rtree.specs.Trees.{Node, RTree, versions}
use Rattle.rdb_rtree.proofs.lookup.+gather_boxes.Given as goal

abbrev pub decreases-gather_boxes : goal.decreases-gather_boxes
decreases-gather_boxes g l = l.level

abbrev pub invariant-loop-place : goal.invariant-loop-place
invariant-loop-place g l = (said : Sayings) (h : ℕ) (t : Node (RTree h)) → IsKeyedAt (g.K.Keys.meaning l.keys) said (g.C.Cells.image l.cells) l.fn.at l.level h t →
    l.refs ++ found_in said l.rect l.inside (flat_map (versions h) (drop l.place t.below)) ≡ l.initial.refs ++ found_in said l.rect l.inside (versions (suc h) t)
