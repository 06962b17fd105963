use Rattle.std.proofs.Common.{◌+◌, ◌≤◌, ◌++◌, length}
use Rattle.std.specs.Prelude.{IsPermutation}
use Rattle.rdb_rtree.proofs.split.split.Given as goal

abbrev pub invariant-loop-rest : goal.invariant-loop-rest
invariant-loop-rest l = record {
  all : IsPermutation l.fn.entries.items ((l.left.entries.items ++ l.right.entries.items) ++ l.rest.items);
  left : 4 ≤ length l.left.entries.items + length l.rest.items;
  right : 4 ≤ length l.right.entries.items + length l.rest.items;
}

abbrev pub decreases-loop-rest : goal.decreases-loop-rest
decreases-loop-rest l = length l.rest.items
