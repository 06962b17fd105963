-- Validation: a story that no later commit touches still runs. Backward validation (Kung and Robinson, 1981), on rows.
use Rattle.std.specs.Prelude.{◌≡◌, ℕ, ◌-◌, ◌<◌, ◌≤◌, Bool, true, false, ◌&&◌, ◌==◌, List, [], ◌∷◌, ◌++◌, IsSome}
use Rattle.std.specs.Option.{option_map_or}
use Rattle.std.specs.List.{filter_map, list_any, All, Contains}
use Rattle.rdb_base.specs.declared.operation.Op.{Op}
use Rattle.rdb_base.specs.declared.operation.Reply.{Reply}
use Rattle.rdb_base.specs.declared.journal.Story.{Story}
use Rattle.rdb_base.specs.declared.journal.Entry.{Entry}
use Rattle.rdb_base.specs.declared.journal.Entry.TheVariants as entry
use Rattle.rdb_schema.specs.declared.schema.Schema.{Schema}
use Rattle.rdb_model.specs.declared.legality.Span.{Span}
use Rattle.rdb_model.specs.Database.{Database}
use Rattle.rdb_model.specs.Story.{run}
use Rattle.rdb_model.specs.Journal.{fold, has_ended_within, is_placed, made_by, made_in, made_before, was_made}
use Rattle.rdb_model.specs.Touch.{touched, written_by}

-- whether operations wrote an object
abbrev pub was_written : List (Op × Reply) → ℕ × ℕ → Bool
was_written done object = list_any (λ w. (w.0 == object.0) && (w.1 == object.1)) (filter_map written_by done)

-- that a commit on a database touches no operation of a story, and writes no object that the story makes
pub record LeavesAlone (schema : Schema) (before : Database) (own : Story) (commit : ℕ) (story : Story) : Type 0 where
  pub touches_none : (operation : ℕ) → touched schema before (entry.Commit own commit) story operation ≡ false
  pub writes_none_made : All (λ object. was_written own.done object ≡ false) (made_in story.done)

-- that each commit of a journal after one and up to another leaves a story alone
abbrev pub AreLeftAlone : Schema → List Entry → ℕ → ℕ → Story → Type 0
AreLeftAlone schema journal from to story =
    (own : Story) (commit : ℕ) → Contains journal (entry.Commit own commit) → from < commit → commit ≤ to
    → LeavesAlone schema (fold schema journal (commit - 1)) own commit story

-- that a story runs on the database after so many commits
abbrev pub RunsAfter : Schema → List Entry → ℕ → Story → Type 0
RunsAfter schema journal n story = IsSome (run schema (fold schema journal n) story.done)

-- that each object that operations make is made for the first time
abbrev pub MakesAnew : List (ℕ × ℕ) → List (Op × Reply) → Type 0
MakesAnew made [] = Unit {0}
MakesAnew made (d ∷ ds) = (option_map_or (was_made made) (made_by d) false ≡ false) × MakesAnew (made ++ made_in (d ∷ [])) ds

-- that a story's transaction hasn't ended within the span
abbrev pub IsNew : Span → List Entry → Story → Type 0
IsNew within journal story = has_ended_within within journal (story.client, story.number) ≡ false

-- that validation lets a story commit: its transaction began and sees what it may, it makes each object anew, it runs on the
-- database that it sees, and no commit that it doesn't see touches it
pub record IsValid (schema : Schema) (journal : List Entry) (story : Story) : Type 0 where
  pub placed : is_placed journal story ≡ true
  pub makes_anew : MakesAnew (made_before journal) story.done
  pub runs : RunsAfter schema journal story.snapshot story
  pub touches_none :
      (own : Story) (commit : ℕ) → Contains journal (entry.Commit own commit) → story.snapshot < commit
      → (operation : ℕ) → touched schema (fold schema journal (commit - 1)) (entry.Commit own commit) story operation ≡ false
