use Rattle.std.proofs.Common.{◌≡◌, ◌≤◌, ◌+◌, ◌-◌, length, drop}
use Rattle.std.specs.List.{position_or_len}
use Rattle.rdb_schema.specs.Rules.{same}
use Rattle.rdb_schema.proofs.declared.field_place.Given as goal

abbrev pub invariant-loop-place : goal.invariant-loop-place
invariant-loop-place l = (l.place + position_or_len (λ field. same field.name l.name) (drop l.place l.fields) ≡ position_or_len (λ field. same field.name l.name) l.fields) × (l.place ≤ length l.fields)

abbrev pub decreases-loop-place : goal.decreases-loop-place
decreases-loop-place l = length l.fields - l.place
