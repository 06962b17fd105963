use Rattle.std.proofs.Common.{◌≢◌, ◌<◌, ℕ, length, get_or}
use Rattle.rdb_schema.proofs.checking.is_once.Given as goal

-- no place so far comes again
abbrev pub invariant-loop-at : goal.invariant-loop-at
invariant-loop-at l = (i j d : ℕ) → i < l.at → i < j → j < length l.key → get_or l.key i d ≢ get_or l.key j d
