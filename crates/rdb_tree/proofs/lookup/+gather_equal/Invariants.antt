use Rattle.std.proofs.Common.{◌≡◌, ◌++◌, ℕ, drop}
use Rattle.std.specs.List.{filter}
use Rattle.rdb_cells.specs.Keys.{says}
use Rattle.rdb_tree.specs.Lookups.{has_key}
use Rattle.rdb_tree.specs.Order.{AreKeyed}
use Rattle.rdb_tree.specs.Trees.{BTree, IsTreeAt, versions, woven}
use Rattle.rdb_tree.proofs.GatherLemmas.{parts_of}
use Rattle.rdb_tree.proofs.lookup.+gather_equal.Given as goal

abbrev pub decreases-gather_equal : goal.decreases-gather_equal
decreases-gather_equal g l = l.levels

abbrev pub invariant-loop-place : goal.invariant-loop-place
invariant-loop-place g l = (h : ℕ) (t : BTree h) → IsTreeAt (g.C.Cells.image l.cells) l.fn.at l.levels h t → AreKeyed (says (g.K.Keys.meaning l.keys) (g.C.Cells.image l.cells)) (versions h t) →
    l.refs ++ filter (has_key (says (g.K.Keys.meaning l.keys) (g.C.Cells.image l.cells)) l.key) (woven (drop l.place t.keys) (drop l.place (parts_of h t)))
    ≡ l.initial.refs ++ filter (has_key (says (g.K.Keys.meaning l.keys) (g.C.Cells.image l.cells)) l.key) (versions h t)
