use Rattle.std.proofs.Common.{◌≡◌, ◌-◌}
use Rattle.rdb_access.specs.Walk.{after_elements}
use Rattle.rdb_access.proofs.walk.after_elements.Given as goal

abbrev pub invariant-loop : goal.invariant-loop
invariant-loop l = after_elements l.of (l.count - l.counter) l.rest ≡ after_elements l.of l.count l.bytes
