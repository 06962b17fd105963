use Rattle.std.proofs.Common.{◌≡◌, ◌≤◌, ◌-◌, length, drop}
use Rattle.rdb_ddl.specs.Token.{after_trivia}
use Rattle.rdb_ddl.proofs.token.before_token.Given as goal

abbrev pub invariant-loop-len : goal.invariant-loop-len
invariant-loop-len l = (after_trivia (drop l.at l.text) ≡ after_trivia l.text) × (l.at ≤ length l.text)

abbrev pub decreases-loop-len : goal.decreases-loop-len
decreases-loop-len l = length l.text - l.at
