use Rattle.std.proofs.Common.{◌<◌, length}
use Rattle.rdb_rtree.proofs.split.most_decided.Given as goal

abbrev pub invariant-loop-place : goal.invariant-loop-place
invariant-loop-place l = l.best < length l.entries
