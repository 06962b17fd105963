use Rattle.std.proofs.Common.{◌≡◌, ◌++◌, ◌-◌}
use Rattle.rdb_access.specs.Read.{read_elements}
use Rattle.rdb_access.proofs.decode.read_elements.Given as goal

abbrev pub invariant-loop : goal.invariant-loop
invariant-loop l = l.elements ++ read_elements l.of (l.count - l.counter) l.rest ≡ read_elements l.of l.count l.bytes
