use Rattle.std.proofs.Common.{◌≡◌, ◌++◌, take}
use Rattle.rdb_rtree.proofs.remove.together.Given as goal

abbrev pub invariant-loop-entry : goal.invariant-loop-entry
invariant-loop-entry l = l.both.items ≡ l.fn.first.items ++ take l.entry-index l.second
