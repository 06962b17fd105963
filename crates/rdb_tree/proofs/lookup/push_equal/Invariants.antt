use Rattle.std.proofs.Common.{◌≡◌, ◌++◌, drop}
use Rattle.std.specs.List.{filter}
use Rattle.rdb_cells.specs.Keys.{says}
use Rattle.rdb_tree.specs.Lookups.{has_key}
use Rattle.rdb_tree.proofs.lookup.push_equal.Given as goal

abbrev pub invariant-loop-place : goal.invariant-loop-place
invariant-loop-place g l =
    l.refs ++ filter (has_key (says (g.K.Keys.meaning l.keys) (g.C.Cells.image l.cells)) l.key) (drop l.place l.own)
    ≡ l.initial.refs ++ filter (has_key (says (g.K.Keys.meaning l.keys) (g.C.Cells.image l.cells)) l.key) l.own
