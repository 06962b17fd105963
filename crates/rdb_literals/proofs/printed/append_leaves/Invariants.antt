use Rattle.std.proofs.Common.{◌≡◌, ◌++◌, string_bytes, flat_map, take, codes}
use Rattle.rdb_literals.specs.Printed.{leaf_text}
use Rattle.rdb_literals.proofs.printed.append_leaves.Given as goal

abbrev pub invariant-loop-leaf : goal.invariant-loop-leaf
invariant-loop-leaf l =
    string_bytes l.text ≡ string_bytes l.initial.text ++ flat_map (λ leaf. codes "," ++ leaf_text leaf) (take l.leaf-index l.others)
