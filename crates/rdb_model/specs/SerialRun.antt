-- What a legal journal in serial order is: one run, in which what had ended when a transaction began comes before it.
use Rattle.std.specs.Prelude.{◌≡◌, ℕ, ◌<◌, List, Option, Some, None, slice_get}
use Rattle.std.specs.List.{flat_map, Contains}
use Rattle.rdb_base.specs.declared.identity.Kind.TheVariants as kind
use Rattle.rdb_base.specs.declared.operation.Op.{Op}
use Rattle.rdb_base.specs.declared.operation.Reply.{Reply}
use Rattle.rdb_base.specs.declared.journal.Story.{Story}
use Rattle.rdb_base.specs.declared.journal.Entry.{Entry}
use Rattle.rdb_base.specs.declared.journal.Entry.TheVariants as entry
use Rattle.rdb_schema.specs.declared.schema.Schema.{Schema}
use Rattle.rdb_model.specs.Fits.{AllFit}

-- the operations of stories, one story after another
abbrev pub operations_of : List Story → List (Op × Reply)
operations_of stories = flat_map (λ story. story.done) stories

-- that the reads of a journal have the operations of transactions that only read
abbrev pub ReadsFit : Schema → List Entry → Type 0
ReadsFit schema journal = (story : Story) → Contains journal (entry.Read story) → AllFit schema kind.ReadOnly story.done

-- the story of a commit or a read
abbrev pub ordered_story : Entry → Option Story
ordered_story (entry.Commit story commit) = Some story
ordered_story (entry.Read story) = Some story
ordered_story _ = None

-- that a story stands before another
abbrev pub ComesBefore : List Story → Story → Story → Type 0
ComesBefore stories first second = (i j : ℕ) × (i < j) × (slice_get stories i ≡ Some first) × (slice_get stories j ≡ Some second)
