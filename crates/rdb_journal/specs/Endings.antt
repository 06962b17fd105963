-- The lines of a client: how it ended, and what its watches and polls were told.
use Rattle.std.specs.Prelude.{ℕ, List, ◌∷◌, ◌++◌, codes, decimal, map}
use Rattle.rdb_schema.specs.declared.schema.Schema.{Schema}
use Rattle.rdb_journal.specs.declared.endings.End.{End}
use Rattle.rdb_journal.specs.declared.endings.End.TheVariants as end
use Rattle.rdb_journal.specs.declared.endings.Note.{Note}
use Rattle.rdb_journal.specs.declared.endings.Note.TheVariants as note
use Rattle.rdb_journal.specs.Names.{event_path, HasEvent}

-- how a client ended
abbrev pub end_text : End → List ℕ
end_text end.Done = codes "done"
end_text (end.Stopped step) = codes "stopped before step " ++ decimal step
end_text (end.Gone by at) = codes "gone by " ++ decimal by ++ codes " at " ++ decimal at

-- the line of a client
abbrev pub client_line : ℕ → End → List ℕ
client_line client end = codes "client " ++ decimal client ++ codes " " ++ end_text end ++ codes "\n"

-- the line of a watch or a poll, indented
abbrev pub note_line : Schema → Note → List ℕ
note_line schema (note.Watch class event at) =
    codes "  watch " ++ event_path schema class event ++ codes " at " ++ decimal at ++ codes "\n"
note_line schema (note.Event class event commit id) =
    codes "  poll " ++ event_path schema class event ++ codes " -> commit " ++ decimal commit ++ codes " id " ++ decimal id ++ codes "\n"
note_line schema (note.NoEvent class event at) =
    codes "  poll " ++ event_path schema class event ++ codes " -> none at " ++ decimal at ++ codes "\n"

-- the lines of a client: its own, then one for each watch and poll
abbrev pub client_lines : Schema → ℕ → End → List Note → List (List ℕ)
client_lines schema client end notes = client_line client end ∷ map (note_line schema) notes

-- the event that a watch or a poll names is the schema's
abbrev pub NoteNamesExist : Schema → Note → Type 0
NoteNamesExist schema (note.Watch class event at) = HasEvent schema class event
NoteNamesExist schema (note.Event class event commit id) = HasEvent schema class event
NoteNamesExist schema (note.NoEvent class event at) = HasEvent schema class event
