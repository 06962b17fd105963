use Rattle.std.proofs.Common.{◌≡◌, drop}
use Rattle.std.specs.Option.{option_copied}
use Rattle.rdb_history.specs.Rows.{row_after}
use Rattle.rdb_history.proofs.rows.row_after.Given as goal

-- the operations that are left lead from the row so far to the last one
abbrev pub invariant-loop-op : goal.invariant-loop-op
invariant-loop-op l = row_after (l.class, l.id) (option_copied l.last) (drop l.op-index l.op-items) ≡ row_after (l.class, l.id) (option_copied l.row) l.done
