-- The serial order of the transactions of a journal.
use Rattle.std.specs.Prelude.{ℕ, ◌+◌, ◌==◌, List, [], ◌∷◌, ◌++◌, Option, Some, None, if◌then◌else◌}
use Rattle.std.specs.List.{filter_map}
use Rattle.rdb_base.specs.declared.journal.Story.{Story}
use Rattle.rdb_base.specs.declared.journal.Entry.{Entry}
use Rattle.rdb_base.specs.declared.journal.Entry.TheVariants as entry

-- the story of a read that sees that many commits
abbrev pub read_at : ℕ → Entry → Option Story
read_at n (entry.Read story) = if story.snapshot == n then Some story else None
read_at n _ = None

-- the stories of commits
abbrev pub committed_stories : List Entry → List Story
committed_stories [] = []
committed_stories (entry.Commit story commit ∷ es) = story ∷ committed_stories es
committed_stories (_ ∷ es) = committed_stories es

-- the reads that see n commits, then the next commit, and so on
abbrev pub interleaved : List Entry → ℕ → List Story → List Story
interleaved journal n [] = filter_map (read_at n) journal
interleaved journal n (story ∷ stories) = filter_map (read_at n) journal ++ story ∷ interleaved journal (n + 1) stories

-- the commits in order, each read directly after the commits that it sees, and reads that see the same ones in the journal's order
abbrev pub serial_order : List Entry → List Story
serial_order journal = interleaved journal 0 (committed_stories journal)
