-- Which operations of a story a commit touches, by the rows that its objects were last written with.
use Rattle.std.specs.Prelude.{◌≡◌, ℕ, ◌-◌, ◌<◌, ◌≤◌, Bool, true, false, ◌&&◌, ◌||◌, ◌==◌, List, slice_get, Option}
use Rattle.std.specs.List.{list_any, filter_map}
use Rattle.std.specs.Option.{option_map_or}
use Rattle.rdb_base.specs.declared.operation.Op.{Op}
use Rattle.rdb_base.specs.declared.operation.Reply.{Reply}
use Rattle.rdb_base.specs.declared.journal.Story.{Story}
use Rattle.rdb_base.specs.declared.journal.Entry.{Entry}
use Rattle.rdb_schema.specs.declared.schema.Schema.{Schema}
use Rattle.rdb_model.specs.Database.{Row}
use Rattle.rdb_model.specs.Journal.{commits}
use Rattle.rdb_base.specs.Operations.{class_of}
use Rattle.rdb_model.specs.Touch.{rests, written_by}
use Rattle.rdb_history.specs.Rows.{last_row, done_in}

-- whether the reply to an operation rests on an object that has this row, or none
abbrev pub rests_on_row : Schema → Op × Reply → ℕ × ℕ → Option Row → Bool
rests_on_row schema d object row = (object.0 == class_of d.0) && option_map_or (rests schema d.0 d.1 object.1) row false

-- whether the reply to an operation rests on an object as it was before the commit of a number, or as it was after
abbrev pub rests_on_change : Schema → List Entry → ℕ → Op × Reply → ℕ × ℕ → Bool
rests_on_change schema journal commit d object =
    rests_on_row schema d object (last_row journal (commit - 1) object) || rests_on_row schema d object (last_row journal commit object)

-- whether the commit of a number wrote an object on which the reply to an operation rests
abbrev pub touches_by_rows : Schema → List Entry → ℕ → Op × Reply → Bool
touches_by_rows schema journal commit d =
    list_any (rests_on_change schema journal commit d) (filter_map written_by (done_in journal commit))

-- whether the commit of a number touches the operation of a number, from 1, of a story
abbrev pub touched_by_rows : Schema → List Entry → ℕ → Story → ℕ → Bool
touched_by_rows schema journal commit story operation =
    option_map_or (touches_by_rows schema journal commit) (slice_get story.done (operation - 1)) false

-- that a commit is the first above a story's snapshot that touches it, and an operation the first that it touches
pub record IsFirstTouch (schema : Schema) (journal : List Entry) (story : Story) (commit operation : ℕ) : Type 0 where
  pub unseen : story.snapshot < commit
  pub there : commit ≤ commits journal
  pub numbered : 0 < operation
  pub touched : touched_by_rows schema journal commit story operation ≡ true
  pub first_operation : (k : ℕ) → 0 < k → k < operation → touched_by_rows schema journal commit story k ≡ false
  pub first_commit : (n k : ℕ) → story.snapshot < n → n < commit → touched_by_rows schema journal n story k ≡ false

-- that no commit above a story's snapshot, up to the one of a number, touches it
abbrev pub IsUntouchedUpTo : Schema → List Entry → Story → ℕ → Type 0
IsUntouchedUpTo schema journal story last = (n k : ℕ) → story.snapshot < n → n ≤ last → touched_by_rows schema journal n story k ≡ false

-- that no commit above a story's snapshot touches it
abbrev pub IsUntouched : Schema → List Entry → Story → Type 0
IsUntouched schema journal story = IsUntouchedUpTo schema journal story (commits journal)
