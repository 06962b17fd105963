-- What an entry of a journal is about.
use Rattle.std.specs.Prelude.{ℕ, Bool, true, false, Option, Some, None}
use Rattle.rdb_base.specs.declared.journal.Story.{Story}
use Rattle.rdb_base.specs.declared.journal.Entry.{Entry}
use Rattle.rdb_base.specs.declared.journal.Entry.TheVariants as entry

-- whether an entry is a commit
abbrev pub is_commit : Entry → Bool
is_commit (entry.Commit story commit) = true
is_commit _ = false

-- the story of the transaction that an entry ends, if it ends one
abbrev pub story_of : Entry → Option Story
story_of (entry.Commit story commit) = Some story
story_of (entry.Read story) = Some story
story_of (entry.Abort story cause) = Some story
story_of _ = None

-- the client that an entry is of: the one whose transaction it ends, or that it takes leave of
abbrev pub client_of : Entry → ℕ
client_of (entry.Commit story commit) = story.client
client_of (entry.Read story) = story.client
client_of (entry.Abort story cause) = story.client
client_of (entry.Handled client by at finished) = client
client_of (entry.Closed client) = client
