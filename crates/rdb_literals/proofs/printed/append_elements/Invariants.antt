use Rattle.std.proofs.Common.{◌≡◌, ◌++◌, string_bytes, flat_map, take, codes}
use Rattle.rdb_literals.specs.Printed.{element_text}
use Rattle.rdb_literals.proofs.printed.append_elements.Given as goal

abbrev pub invariant-loop-element : goal.invariant-loop-element
invariant-loop-element l =
    string_bytes l.text ≡ string_bytes l.initial.text ++ flat_map (λ element. codes "," ++ element_text element) (take l.element-index l.others)
