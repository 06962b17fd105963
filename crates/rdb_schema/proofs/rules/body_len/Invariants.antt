use Rattle.std.proofs.Common.{◌≡◌, ◌≤◌, ◌+◌, ◌-◌, length, drop}
use Rattle.std.specs.List.{position_or_len}
use Rattle.rdb_schema.specs.Rules.{is_head}
use Rattle.rdb_schema.proofs.rules.body_len.Given as goal

abbrev pub invariant-loop-len : goal.invariant-loop-len
invariant-loop-len l = (l.len + position_or_len is_head (drop l.len l.after) ≡ position_or_len is_head l.after) × (l.len ≤ length l.after)

abbrev pub decreases-loop-len : goal.decreases-loop-len
decreases-loop-len l = length l.after - l.len
