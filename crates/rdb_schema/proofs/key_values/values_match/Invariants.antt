use Rattle.std.proofs.Common.{◌≡◌, ◌≤◌, drop, length, slice_get}
use Rattle.std.specs.List.{filter_map}
use Rattle.rdb_schema.specs.Values.{values_hold}
use Rattle.rdb_schema.proofs.key_values.values_match.Given as goal

-- the key holds as far as it was looked at
abbrev pub invariant-loop-number : goal.invariant-loop-number
invariant-loop-number l = record {
  in_range : l.place ≤ length l.key;
  left : values_hold l.schema (filter_map (slice_get l.fields) (drop l.number-index l.number-items)) (drop l.place l.key) ≡ values_hold l.schema (filter_map (slice_get l.fields) l.numbers) l.key;
}
