-- What a touch is, at a commit and an operation that is there.
use Rattle.std.proofs.Common.{◌≡◌, ℕ, ◌-◌, false, Some, slice_get, sym, ap, ◌∙◌}
use Rattle.std.specs.Option.{option_map_or}
use Rattle.rdb_base.specs.declared.operation.Op.{Op}
use Rattle.rdb_base.specs.declared.operation.Reply.{Reply}
use Rattle.rdb_base.specs.declared.journal.Story.{Story}
use Rattle.rdb_base.specs.declared.journal.Entry.{Entry}
use Rattle.rdb_base.specs.declared.journal.Entry.TheVariants as entry
use Rattle.rdb_schema.specs.declared.schema.Schema.{Schema}
use Rattle.rdb_model.specs.Database.{Database}
use Rattle.rdb_model.specs.Touch.{touches, touched}

pub touched_is : (schema : Schema) (before : Database) (e : Entry) (own : Story) (commit : ℕ) (story : Story) (n at : ℕ) (d : Op × Reply) → e ≡ entry.Commit own commit → at ≡ n - 1 → slice_get story.done at ≡ Some d → touched schema before e story n ≡ touches schema before own.done d
touched_is schema before e own commit story n at d is_commit is_at got =
    ap (λ x. touched schema before x story n) is_commit
    ∙ ap (λ o. option_map_or (touches schema before own.done) o false) (ap (slice_get story.done) (sym is_at) ∙ got)
