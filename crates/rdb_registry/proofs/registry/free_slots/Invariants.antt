use Rattle.std.proofs.Common.{◌≡◌, None, length, replicate}
use Rattle.rdb_registry.specs.Kept.{seats_of}
use Rattle.rdb_registry.proofs.registry.free_slots.Given as goal

-- so many slots, all free
abbrev pub invariant-loop : goal.invariant-loop
invariant-loop l = record {
  count : length l.all.items ≡ l.counter;
  free : seats_of l.all.items ≡ replicate l.counter None;
}
