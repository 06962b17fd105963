use Rattle.std.proofs.Common.{◌≡◌, ◌≤◌, ◌+◌, length, take}
use Rattle.std.specs.List.{suffix_len}
use Rattle.rdb_schema.specs.Rules.{is_key}
use Rattle.rdb_schema.proofs.rules.keys_at.Given as goal

abbrev pub invariant-loop-at : goal.invariant-loop-at
invariant-loop-at l = (l.at + suffix_len is_key l.front ≡ length l.front + suffix_len is_key (take l.at l.front)) × (l.at ≤ length l.front)

abbrev pub decreases-loop-at : goal.decreases-loop-at
decreases-loop-at l = l.at
