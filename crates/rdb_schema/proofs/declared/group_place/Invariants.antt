use Rattle.std.proofs.Common.{◌≡◌, ◌≤◌, ◌+◌, ◌-◌, length, drop}
use Rattle.std.specs.List.{position_or_len}
use Rattle.rdb_schema.specs.Rules.{same}
use Rattle.rdb_schema.proofs.declared.group_place.Given as goal

abbrev pub invariant-loop-place : goal.invariant-loop-place
invariant-loop-place l = (l.place + position_or_len (λ group. same group.name l.name) (drop l.place l.groups) ≡ position_or_len (λ group. same group.name l.name) l.groups) × (l.place ≤ length l.groups)

abbrev pub decreases-loop-place : goal.decreases-loop-place
decreases-loop-place l = length l.groups - l.place
