-- The lines of a journal's entries, each with its line feed.
use Rattle.std.specs.Prelude.{ℕ, List, [], ◌∷◌, ◌++◌, codes, decimal, map, All, if◌then◌else◌}
use Rattle.rdb_schema.specs.declared.schema.Schema.{Schema}
use Rattle.rdb_base.specs.declared.operation.Op.{Op}
use Rattle.rdb_base.specs.declared.operation.Reply.{Reply}
use Rattle.rdb_base.specs.declared.journal.Story.{Story}
use Rattle.rdb_base.specs.declared.journal.Cause.{Cause}
use Rattle.rdb_base.specs.declared.journal.Cause.TheVariants.{Asked, Conflict, Full}
use Rattle.rdb_base.specs.declared.journal.Entry.{Entry}
use Rattle.rdb_base.specs.declared.journal.Entry.TheVariants.{Commit, Read, Abort, Handled, Closed}
use Rattle.rdb_journal.specs.Operations.{operation_text, OperationNamesExist}
use Rattle.rdb_journal.specs.Replies.{reply_text, ReplyNamesExist}

-- an operation and its reply, indented
abbrev pub operation_line : Schema → Op × Reply → List ℕ
operation_line schema step =
    codes "  " ++ operation_text schema step.0 ++ codes " -> " ++ reply_text schema step.0 step.1 ++ codes "\n"

-- which transaction it is, and how long the journal was when it began
abbrev pub story_text : Story → List ℕ
story_text story = codes " client " ++ decimal story.client ++ codes " tx " ++ decimal story.number ++ codes " begun " ++ decimal story.begun

-- why a transaction was rolled back
abbrev pub cause_text : Cause → List ℕ
cause_text Asked = codes "rollback"
cause_text (Conflict commit operation) = codes "conflict " ++ decimal commit ++ codes " " ++ decimal operation
cause_text (Full need room) = codes "full " ++ decimal need ++ codes " " ++ decimal room

-- the first line of an entry
abbrev pub head_line : Entry → List ℕ
head_line (Commit story commit) =
    codes "commit " ++ decimal commit ++ story_text story ++ codes " snapshot " ++ decimal story.snapshot ++ codes "\n"
head_line (Read story) = codes "read" ++ story_text story ++ codes " at " ++ decimal story.snapshot ++ codes "\n"
head_line (Abort story cause) =
    codes "abort" ++ story_text story ++ codes " at " ++ decimal story.snapshot ++ codes " " ++ cause_text cause ++ codes "\n"
head_line (Handled client by at finished) =
    codes "handled client " ++ decimal client ++ codes " by " ++ decimal by ++ codes " at " ++ decimal at
    ++ (if finished then codes " finished\n" else codes " undone\n")
head_line (Closed client) = codes "closed client " ++ decimal client ++ codes "\n"

-- the operations of an entry with their replies; an end without a transaction has none
abbrev pub steps_of : Entry → List (Op × Reply)
steps_of (Commit story commit) = story.done
steps_of (Read story) = story.done
steps_of (Abort story cause) = story.done
steps_of (Handled client by at finished) = []
steps_of (Closed client) = []

-- the lines of an entry: its first line, then one for each operation
abbrev pub entry_lines : Schema → Entry → List (List ℕ)
entry_lines schema entry = head_line entry ∷ map (operation_line schema) (steps_of entry)

-- all classes and indexes that an operation and its reply name are the schema's
abbrev pub StepNamesExist : Schema → Op × Reply → Type 0
StepNamesExist schema step = OperationNamesExist schema step.0 × ReplyNamesExist schema step.0 step.1

-- all classes and indexes that an entry names are the schema's
abbrev pub NamesExist : Schema → Entry → Type 0
NamesExist schema entry = All (StepNamesExist schema) (steps_of entry)
