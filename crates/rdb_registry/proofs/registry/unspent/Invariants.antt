use Rattle.std.proofs.Common.{◌≡◌, map, replicate}
use Rattle.rdb_registry.proofs.registry.unspent.Given as goal

-- so many rows, each with nothing spent
abbrev pub invariant-loop : goal.invariant-loop
invariant-loop l = map (λ row. row.items) l.all.items ≡ replicate l.counter (replicate l.classes 0)
