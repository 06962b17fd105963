use Rattle.std.proofs.Common.{◌≡◌, ◌-◌, ◌++◌, map, take}
use Rattle.std.specs.Prelude.{replicate}
use Rattle.rdb_cells.specs.Words.{no_ref}
use Rattle.rdb_rtree.proofs.node.node_of.Given as goal

abbrev pub invariant-loop-place : goal.invariant-loop-place
invariant-loop-place l = l.refs ≡ map (λ entry. entry.at) (take l.place l.entries) ++ replicate (11 - l.place) no_ref
