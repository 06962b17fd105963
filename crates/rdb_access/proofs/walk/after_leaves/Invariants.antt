use Rattle.std.proofs.Common.{◌≡◌, drop}
use Rattle.rdb_access.specs.Walk.{after_leaves}
use Rattle.rdb_access.proofs.walk.after_leaves.Given as goal

abbrev pub invariant-loop-ty : goal.invariant-loop-ty
invariant-loop-ty l = after_leaves (drop l.ty-index l.ty-items) l.rest ≡ after_leaves l.types l.bytes
