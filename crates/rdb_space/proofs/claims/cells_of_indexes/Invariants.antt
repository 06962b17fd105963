use Rattle.std.proofs.Common.{◌≡◌, ◌≤◌, ◌*◌, sum_by, take}
use Rattle.rdb_space.specs.Claim.{index_part}
use Rattle.rdb_space.proofs.claims.cells_of_indexes.Given as goal

abbrev pub invariant-loop-index : goal.invariant-loop-index
invariant-loop-index l = record { so_far : l.cells ≡ sum_by index_part (take l.index-index l.indexes); small : l.cells ≤ 12 * l.index-index }
