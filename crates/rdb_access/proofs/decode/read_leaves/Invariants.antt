use Rattle.std.proofs.Common.{◌≡◌, ◌++◌, drop}
use Rattle.rdb_access.specs.Read.{read_leaves}
use Rattle.rdb_access.proofs.decode.read_leaves.Given as goal

abbrev pub invariant-loop-ty : goal.invariant-loop-ty
invariant-loop-ty l = l.leaves ++ read_leaves (drop l.ty-index l.ty-items) l.rest ≡ read_leaves l.types l.bytes
