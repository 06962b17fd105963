use Rattle.std.proofs.Common.{◌≡◌, drop}
use Rattle.std.specs.List.{list_any}
use Rattle.rdb_history.specs.Rows.{done_in, objects_written}
use Rattle.rdb_history.specs.RowTouch.{rests_on_change, touches_by_rows}
use Rattle.rdb_history.proofs.first_touch.touches.Given as goal

-- the commit touches the operation where it does by one of the objects that are left
abbrev pub invariant-loop-object : goal.invariant-loop-object
invariant-loop-object l =
    list_any (rests_on_change l.schema l.journal.entries l.commit (l.op, l.told)) (drop l.object (objects_written (done_in l.journal.entries l.commit)))
    ≡ touches_by_rows l.schema l.journal.entries l.commit (l.op, l.told)
