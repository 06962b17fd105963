use Rattle.std.proofs.Common.{◌≡◌, ◌++◌, string_bytes, flat_map}
use Rattle.std.specs.Prelude.{encode_utf8_all}
use Rattle.rdb_literals.specs.Printed.{escaped}
use Rattle.rdb_literals.proofs.printed.append_quoted.Given as goal

abbrev pub invariant-loop-character : goal.invariant-loop-character
invariant-loop-character l = string_bytes l.text ≡ string_bytes l.initial.text ++ flat_map escaped (encode_utf8_all l.yielded)
