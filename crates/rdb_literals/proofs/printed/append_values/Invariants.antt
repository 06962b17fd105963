use Rattle.std.proofs.Common.{◌≡◌, ◌++◌, string_bytes, flat_map, take, codes}
use Rattle.rdb_literals.specs.Printed.{value_text}
use Rattle.rdb_literals.proofs.printed.append_values.Given as goal

abbrev pub invariant-loop-value : goal.invariant-loop-value
invariant-loop-value l =
    string_bytes l.text ≡ string_bytes l.initial.text ++ flat_map (λ value. codes "," ++ value_text value) (take l.value-index l.others)
