use Rattle.std.proofs.Common.{◌≡◌, ◌≤◌, take}
use Rattle.std.specs.Prelude.{count_by}
use Rattle.rdb_schema.specs.Rules.{is_event_name}
use Rattle.rdb_schema.proofs.rules.event_names.Given as goal

abbrev pub invariant-loop-part : goal.invariant-loop-part
invariant-loop-part l = (l.count ≡ count_by is_event_name (take l.part-index l.front)) × (l.count ≤ l.part-index)
