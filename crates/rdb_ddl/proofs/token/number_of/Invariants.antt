use Rattle.std.proofs.Common.{◌≡◌, ◌≤◌, take}
use Rattle.rdb_ddl.specs.Token.{decimal}
use Rattle.rdb_ddl.proofs.token.number_of.Given as goal

abbrev pub invariant-loop-digit : goal.invariant-loop-digit
invariant-loop-digit l = (l.value ≡ decimal (take l.digit-index l.digits)) × (l.value ≤ 4294967295)
