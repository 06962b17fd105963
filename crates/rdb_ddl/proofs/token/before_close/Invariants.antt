use Rattle.std.proofs.Common.{◌≡◌, ◌+◌, drop}
use Rattle.std.specs.Option.{option_map}
use Rattle.rdb_ddl.specs.Token.{before_close}
use Rattle.rdb_ddl.proofs.token.before_close.Given as goal

abbrev pub invariant-loop-at : goal.invariant-loop-at
invariant-loop-at l = option_map (λ n. l.at + n) (before_close (drop l.at l.text)) ≡ before_close l.text
