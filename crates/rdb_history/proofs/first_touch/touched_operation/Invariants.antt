use Rattle.std.proofs.Common.{◌≡◌, ℕ, ◌≤◌, ◌<◌, false}
use Rattle.rdb_history.specs.RowTouch.{touched_by_rows}
use Rattle.rdb_history.proofs.first_touch.touched_operation.Given as goal

-- none of the operations so far is touched
abbrev pub invariant-loop-place : goal.invariant-loop-place
invariant-loop-place l = (k : ℕ) → 0 < k → k ≤ l.place → touched_by_rows l.schema l.journal.entries l.commit l.story k ≡ false
