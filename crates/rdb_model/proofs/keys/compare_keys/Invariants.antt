use Rattle.std.proofs.Common.{◌≡◌, ◌-◌, drop, length}
use Rattle.rdb_base.specs.Order.{row_order}
use Rattle.rdb_model.specs.Index.{key}
use Rattle.rdb_model.proofs.keys.compare_keys.Given as goal

-- the comparison of what is left is that of the whole
abbrev pub invariant-loop-value : goal.invariant-loop-value
invariant-loop-value l = row_order (key (drop l.own l.fields) l.a) (key (drop l.other l.fields) l.b) ≡ row_order (key l.fields l.a) (key l.fields l.b)

abbrev pub decreases-loop-value : goal.decreases-loop-value
decreases-loop-value l = length l.fields - l.own
