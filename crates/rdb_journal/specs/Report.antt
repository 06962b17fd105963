-- The report: the lines of the entries, of the clients from 1 on, and of the totals.
use Rattle.std.specs.Prelude.{ℕ, Bool, true, false, List, [], ◌∷◌, ◌++◌, codes, decimal, count_by, flat_map}
use Rattle.std.specs.List.{concat, enumerate_from, zip}
use Rattle.rdb_schema.specs.declared.schema.Schema.{Schema}
use Rattle.rdb_base.specs.declared.journal.Entry.{Entry}
use Rattle.rdb_base.specs.declared.journal.Entry.TheVariants.{Commit, Read, Abort, Handled, Closed}
use Rattle.rdb_journal.specs.declared.endings.End.{End}
use Rattle.rdb_journal.specs.declared.endings.Note.{Note}
use Rattle.rdb_journal.specs.Lines.{entry_lines}
use Rattle.rdb_journal.specs.Endings.{client_lines}

-- the entry is a commit
unfoldable pub is_commit : Entry → Bool
is_commit (Commit story commit) = true
is_commit (Read story) = false
is_commit (Abort story cause) = false
is_commit (Handled client by at finished) = false
is_commit (Closed client) = false

-- the entry ends a transaction that only read
unfoldable pub is_read : Entry → Bool
is_read (Commit story commit) = false
is_read (Read story) = true
is_read (Abort story cause) = false
is_read (Handled client by at finished) = false
is_read (Closed client) = false

-- the entry is a roll-back
unfoldable pub is_abort : Entry → Bool
is_abort (Commit story commit) = false
is_abort (Read story) = false
is_abort (Abort story cause) = true
is_abort (Handled client by at finished) = false
is_abort (Closed client) = false

-- the entry is a dead client that was handled
unfoldable pub is_handled : Entry → Bool
is_handled (Commit story commit) = false
is_handled (Read story) = false
is_handled (Abort story cause) = false
is_handled (Handled client by at finished) = true
is_handled (Closed client) = false

-- the entry is a client that was closed
unfoldable pub is_closed : Entry → Bool
is_closed (Commit story commit) = false
is_closed (Read story) = false
is_closed (Abort story cause) = false
is_closed (Handled client by at finished) = false
is_closed (Closed client) = true

-- how many entries of each kind there are, but for the closed ones
abbrev pub totals_line : List Entry → List ℕ
totals_line journal =
    codes "total commits " ++ decimal (count_by is_commit journal) ++ codes " reads " ++ decimal (count_by is_read journal)
    ++ codes " aborts " ++ decimal (count_by is_abort journal) ++ codes " handled " ++ decimal (count_by is_handled journal) ++ codes "\n"

-- the lines of the clients 1, 2 and so on, each with its end and its notes
abbrev pub clients_lines : Schema → List End → List (List Note) → List (List ℕ)
clients_lines schema ends notes =
    flat_map (λ client. client_lines schema client.0 client.1.0 client.1.1) (enumerate_from 1 (zip ends notes))

-- the lines of the report
abbrev pub report_lines : Schema → List Entry → List End → List (List Note) → List (List ℕ)
report_lines schema journal ends notes =
    flat_map (entry_lines schema) journal ++ clients_lines schema ends notes ++ totals_line journal ∷ []

-- the text of the report
abbrev pub report : Schema → List Entry → List End → List (List Note) → List ℕ
report schema journal ends notes = concat (report_lines schema journal ends notes)
