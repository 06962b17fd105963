use Rattle.std.proofs.Common.{◌≡◌, ◌++◌, take}
use Rattle.std.specs.Prelude.{string_bytes}
use Rattle.std.specs.List.{flat_map}
use Rattle.rdb_ddl.specs.Canonical.{class_text}
use Rattle.rdb_ddl.proofs.writer.put_classes.Given as goal

abbrev pub invariant-loop-class : goal.invariant-loop-class
invariant-loop-class l = string_bytes l.out ≡ string_bytes l.initial.out ++ flat_map (class_text l.groups) (take l.class-index l.classes)
