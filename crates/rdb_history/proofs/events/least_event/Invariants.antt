use Rattle.std.proofs.Common.{take}
use Rattle.rdb_history.specs.Rows.{done_in, objects_written}
use Rattle.rdb_history.proofs.EventLemmas.{IsLeast}
use Rattle.rdb_history.proofs.events.least_event.Given as goal

-- the least of the ids of the objects so far
abbrev pub invariant-loop-object : goal.invariant-loop-object
invariant-loop-object l =
    IsLeast l.class l.kind l.journal.entries (l.place.commit, l.place.id) l.commit (take l.object (objects_written (done_in l.journal.entries l.commit))) l.least
