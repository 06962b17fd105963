use Rattle.rdb_history.specs.RowEvents.{HasNoEvent}
use Rattle.rdb_history.proofs.events.next_event.Given as goal

-- no event of the commits so far is behind the place
abbrev pub invariant-loop-passed : goal.invariant-loop-passed
invariant-loop-passed l = HasNoEvent l.class l.kind l.journal.entries (l.place.commit, l.place.id) l.passed
