-- The first commit that touches a story, on the databases before and after each commit.
use Rattle.std.specs.Prelude.{◌≡◌, ℕ, ◌-◌, ◌<◌, true, false, List}
use Rattle.std.specs.List.{Contains}
use Rattle.rdb_base.specs.declared.journal.Story.{Story}
use Rattle.rdb_base.specs.declared.journal.Entry.{Entry}
use Rattle.rdb_base.specs.declared.journal.Entry.TheVariants as entry
use Rattle.rdb_schema.specs.declared.schema.Schema.{Schema}
use Rattle.rdb_model.specs.Journal.{fold}
use Rattle.rdb_model.specs.Touch.{touched}

-- that the commit of a number, of a story of its own, touches no operation of another
abbrev pub TouchesNone : Schema → List Entry → Story → ℕ → Story → Type 0
TouchesNone schema journal own commit story =
    (operation : ℕ) → touched schema (fold schema journal (commit - 1)) (entry.Commit own commit) story operation ≡ false

-- that the commit of a number, of a story of its own, is the first above another's snapshot that touches it, and an operation the first
-- that it touches
pub record TouchesFirst (schema : Schema) (journal : List Entry) (own : Story) (commit : ℕ) (story : Story) (operation : ℕ) : Type 0 where
  pub stands : Contains journal (entry.Commit own commit)
  pub unseen : story.snapshot < commit
  pub numbered : 0 < operation
  pub touches : touched schema (fold schema journal (commit - 1)) (entry.Commit own commit) story operation ≡ true
  pub first_operation :
      (k : ℕ) → 0 < k → k < operation
      → touched schema (fold schema journal (commit - 1)) (entry.Commit own commit) story k ≡ false
  pub first_commit :
      (other : Story) (n : ℕ) → Contains journal (entry.Commit other n) → story.snapshot < n → n < commit
      → TouchesNone schema journal other n story

-- that no commit above a story's snapshot touches it
abbrev pub NoneTouches : Schema → List Entry → Story → Type 0
NoneTouches schema journal story =
    (own : Story) (commit : ℕ) → Contains journal (entry.Commit own commit) → story.snapshot < commit
    → TouchesNone schema journal own commit story
