use Rattle.std.proofs.Common.{◌≡◌, drop, take, filter_map}
use Rattle.std.specs.Option.{option_copied}
use Rattle.rdb_model.specs.Journal.{committed}
use Rattle.rdb_history.specs.Rows.{row_after_all, last_row}
use Rattle.rdb_history.proofs.rows.last_row.Given as goal

-- the commits that are left lead from the row so far to the last one
abbrev pub invariant-loop-entry : goal.invariant-loop-entry
invariant-loop-entry l = row_after_all (l.class, l.id) (option_copied l.row) (take l.left (filter_map committed (drop l.entry-index l.entries))) ≡ last_row l.entries l.commits (l.class, l.id)
