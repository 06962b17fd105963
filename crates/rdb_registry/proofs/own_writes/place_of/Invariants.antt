use Rattle.std.proofs.Common.{◌-◌}
use Rattle.rdb_registry.specs.OwnWrites.{IsBetween}
use Rattle.rdb_registry.proofs.own_writes.place_of.Given as goal

-- the place lies in the range
abbrev pub invariant-loop-range : goal.invariant-loop-range
invariant-loop-range l = IsBetween (l.class, l.id) l.writes l.range.0 l.range.1

abbrev pub decreases-loop-range : goal.decreases-loop-range
decreases-loop-range l = l.range.1 - l.range.0
