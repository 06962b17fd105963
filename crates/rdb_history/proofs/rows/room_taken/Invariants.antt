use Rattle.std.proofs.Common.{◌≡◌, ◌+◌, ◌≤◌, length, drop, filter_map}
use Rattle.rdb_model.specs.Touch.{written_by}
use Rattle.rdb_history.proofs.rows.room_taken.Given as goal

-- the writes so far and those that are left are all
abbrev pub invariant-loop-operation : goal.invariant-loop-operation
invariant-loop-operation l = record {
  few : l.taken ≤ l.operation;
  sum : l.taken + length (filter_map written_by (drop l.operation l.story.done)) ≡ length (filter_map written_by l.story.done);
}
