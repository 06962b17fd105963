use Rattle.std.proofs.Common.{◌≡◌, drop}
use Rattle.rdb_access.specs.Places.{after_steps}
use Rattle.rdb_access.proofs.read.after_steps.Given as goal

abbrev pub invariant-loop-step : goal.invariant-loop-step
invariant-loop-step l = after_steps l.types (drop l.step-index l.steps) l.rest ≡ after_steps l.types l.steps l.bytes
