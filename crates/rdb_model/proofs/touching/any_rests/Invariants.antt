use Rattle.std.proofs.Common.{◌≡◌, drop}
use Rattle.rdb_model.specs.Touch.{any_rests}
use Rattle.rdb_model.proofs.touching.any_rests.Given as goal

-- the reply rests on no object that was written so far
abbrev pub invariant-loop-written : goal.invariant-loop-written
invariant-loop-written l = any_rests l.schema l.before l.after (l.op, l.told) (drop l.written-index l.written-items) ≡ any_rests l.schema l.before l.after (l.op, l.told) l.done
