use Rattle.std.proofs.Common.{◌≡◌, ◌++◌, take}
use Rattle.std.specs.Prelude.{string_bytes}
use Rattle.std.specs.List.{flat_map}
use Rattle.rdb_ddl.specs.Canonical.{field_text}
use Rattle.rdb_ddl.proofs.writer.put_fields.Given as goal

abbrev pub invariant-loop-field : goal.invariant-loop-field
invariant-loop-field l = string_bytes l.out ≡ string_bytes l.initial.out ++ flat_map (field_text l.groups) (take l.field-index l.fields)
