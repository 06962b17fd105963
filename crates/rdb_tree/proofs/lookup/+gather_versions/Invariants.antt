use Rattle.std.proofs.Common.{◌≡◌, ◌++◌, ℕ, drop}
use Rattle.rdb_tree.specs.Trees.{BTree, IsTreeAt, versions, woven}
use Rattle.rdb_tree.proofs.GatherLemmas.{parts_of}
use Rattle.rdb_tree.proofs.lookup.+gather_versions.Given as goal

abbrev pub decreases-gather_versions : goal.decreases-gather_versions
decreases-gather_versions g l = l.levels

abbrev pub invariant-loop-place : goal.invariant-loop-place
invariant-loop-place g l = (h : ℕ) (t : BTree h) → IsTreeAt (g.C.Cells.image l.cells) l.fn.at l.levels h t →
    l.refs ++ woven (drop l.place t.keys) (drop l.place (parts_of h t)) ≡ l.initial.refs ++ versions h t
