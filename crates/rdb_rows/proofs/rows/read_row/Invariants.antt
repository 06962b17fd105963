use Rattle.std.proofs.Common.{length, ◌≡◌, ℕ, List}
use Rattle.rdb_rows.specs.Rows.{HoldsRow}
use Rattle.rdb_rows.proofs.Chains.{IsRead}
use Rattle.rdb_rows.proofs.rows.read_row.Given as goal

abbrev pub invariant-loop-left : goal.invariant-loop-left
invariant-loop-left g l = (bytes cells : List ℕ) → length bytes ≡ l.many → (holds : HoldsRow (g.C.Cells.image l.cells) l.fn.first.number bytes cells)
    → IsRead holds.chain bytes l.bytes l.at.number l.left

abbrev pub decreases-loop-left : goal.decreases-loop-left
decreases-loop-left g l = l.left
