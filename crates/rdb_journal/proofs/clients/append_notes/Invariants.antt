use Rattle.std.proofs.Common.{◌≡◌, ◌++◌, map, take}
use Rattle.rdb_journal.specs.Endings.{note_line}
use Rattle.rdb_journal.proofs.clients.append_notes.Given as goal

abbrev pub invariant-loop-note : goal.invariant-loop-note
invariant-loop-note l = l.lines ≡ l.initial.lines ++ map (note_line l.schema) (take l.note-index l.note-items)
