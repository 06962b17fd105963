use Rattle.std.proofs.Common.{◌≡◌, ◌++◌, take}
use Rattle.std.specs.Prelude.{codes}
use Rattle.std.specs.Prelude.{string_bytes}
use Rattle.std.specs.List.{flat_map}
use Rattle.rdb_ddl.specs.Canonical.{named_after}
use Rattle.rdb_ddl.proofs.writer.put_more_keys.Given as goal

abbrev pub invariant-loop-place : goal.invariant-loop-place
invariant-loop-place l = string_bytes l.out ≡ string_bytes l.initial.out ++ flat_map (named_after l.fields (codes ",")) (take l.place-index l.places)
