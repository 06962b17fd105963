use Rattle.std.proofs.Common.{◌<◌, length}
use Rattle.rdb_rtree.proofs.split.seeds.Given as goal

abbrev pub invariant-loop-upper : goal.invariant-loop-upper
invariant-loop-upper l = (l.pair.0 < l.pair.1) × (l.pair.1 < length l.entries)

abbrev pub invariant-loop-lower : goal.invariant-loop-lower
invariant-loop-lower l = (l.pair.0 < l.pair.1) × (l.pair.1 < length l.entries)
