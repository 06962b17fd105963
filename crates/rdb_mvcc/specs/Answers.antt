-- What validation answers of a story: by the rows that objects were last written with, and on the databases before and after each commit.
use Rattle.std.specs.Prelude.{ℕ, List}
use Rattle.rdb_base.specs.declared.journal.Story.{Story}
use Rattle.rdb_base.specs.declared.journal.Entry.{Entry}
use Rattle.rdb_schema.specs.declared.schema.Schema.{Schema}
use Rattle.rdb_history.specs.RowTouch.{IsFirstTouch, IsUntouched}
use Rattle.rdb_history.specs.FirstTouch.{TouchesFirst, NoneTouches}
use Rattle.rdb_mvcc.specs.declared.validation.Checked.{Checked}
use Rattle.rdb_mvcc.specs.declared.validation.Checked.TheVariants as checked

-- that an answer is so by rows: clear where no commit above the snapshot touches the story, else the first touch
abbrev pub IsAnswer : Schema → List Entry → Story → Checked → Type 0
IsAnswer schema journal story checked.Clear = IsUntouched schema journal story
IsAnswer schema journal story (checked.Conflict commit operation) = IsFirstTouch schema journal story commit operation

-- that an answer is so on the databases
abbrev pub IsAnswerOnDatabases : Schema → List Entry → Story → Checked → Type 0
IsAnswerOnDatabases schema journal story checked.Clear = NoneTouches schema journal story
IsAnswerOnDatabases schema journal story (checked.Conflict commit operation) =
    (own : Story) × TouchesFirst schema journal own commit story operation
