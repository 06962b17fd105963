use Rattle.std.proofs.Common.{append_assoc, rules}
use Rattle.rdb_journal.proofs.clients.append_note.Goals as goal

pub returns-in_ok-write-in-Event : goal.returns-in_ok-write-in-Event
returns-in_ok-write-in-Event c = rw c.in-Event.is (simp append_assoc (search rules))

pub returns-in_ok-write-in-NoEvent : goal.returns-in_ok-write-in-NoEvent
returns-in_ok-write-in-NoEvent c =
    rw c.in-NoEvent.is (simp append_assoc (rw (← c.class_name-class_word-in-NoEvent.ensures, ← c.event_name-event_word-in-NoEvent.ensures) (search (rules, c.in_ok-write-in-NoEvent.ensures.bytes))))
