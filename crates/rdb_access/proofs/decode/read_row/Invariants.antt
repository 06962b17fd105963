use Rattle.std.proofs.Common.{◌≡◌, ◌++◌, drop}
use Rattle.rdb_access.specs.Read.{read_values}
use Rattle.rdb_access.proofs.decode.read_row.Given as goal

abbrev pub invariant-loop-ty : goal.invariant-loop-ty
invariant-loop-ty l = l.row ++ read_values (drop l.ty-index l.ty-items) l.rest ≡ read_values l.types l.bytes
