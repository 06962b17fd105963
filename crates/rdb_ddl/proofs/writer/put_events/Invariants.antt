use Rattle.std.proofs.Common.{◌≡◌, ◌++◌, take}
use Rattle.std.specs.Prelude.{string_bytes}
use Rattle.std.specs.List.{flat_map}
use Rattle.rdb_ddl.specs.Canonical.{event_text}
use Rattle.rdb_ddl.proofs.writer.put_events.Given as goal

abbrev pub invariant-loop-event : goal.invariant-loop-event
invariant-loop-event l = string_bytes l.out ≡ string_bytes l.initial.out ++ flat_map (event_text l.fields) (take l.event-index l.events)
