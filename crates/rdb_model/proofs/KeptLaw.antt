-- A placed read that runs, an abort, and the leave of a client keep the law.
use Rattle.std.proofs.Common.{◌≡◌, ℕ, Bool, true, false, ◌||◌, not, List, [], ◌∷◌, ◌++◌, refl, ap, suc, arith}
use Rattle.std.specs.Option.{option_map_or}
use Rattle.rdb_base.specs.declared.identity.Kind.TheVariants as kind
use Rattle.rdb_base.specs.declared.operation.Op.{Op}
use Rattle.rdb_base.specs.declared.operation.Reply.{Reply}
use Rattle.rdb_base.specs.declared.journal.Cause.{Cause}
use Rattle.rdb_base.specs.declared.journal.Story.{Story}
use Rattle.rdb_base.specs.declared.journal.Entry.{Entry}
use Rattle.rdb_base.specs.declared.journal.Entry.TheVariants as entry
use Rattle.rdb_schema.specs.declared.schema.Schema.{Schema}
use Rattle.rdb_model.specs.declared.legality.Span.{Span}
use Rattle.rdb_model.specs.Fits.{AllFit}
use Rattle.rdb_model.specs.Journal.{fold, made_before, made_in, was_made, has_left_within, is_placed}
use Rattle.rdb_model.specs.Parts.{KeepsLaw}
use Rattle.rdb_model.specs.Validation.{MakesAnew, IsNew, RunsAfter}
use Rattle.rdb_model.proofs.PartLemmas.{law_with}
use Rattle.rdb_model.proofs.CommitSound.{right_from}
use Rattle.rdb_model.proofs.AnsweringLemmas.{reads_make}

pub read_keeps : (within : Span) (schema : Schema) (journal : List Entry) (story : Story) → KeepsLaw within schema journal → IsNew within journal story → is_placed journal story ≡ true → RunsAfter schema journal story.snapshot story → MakesAnew (made_before journal) story.done → KeepsLaw within schema (journal ++ entry.Read story ∷ [])
read_keeps within schema journal story law is_new placed runs anew = law_with within schema journal (entry.Read story) law (record {
  number = refl;
  twice = ap (λ b. b || false) is_new;
  placed = ap not placed;
  replies = right_from schema (fold schema journal story.snapshot) (made_before journal) 1 story.done runs anew;
})

-- operations that only read make nothing
pub reads_anew : (schema : Schema) (made : List (ℕ × ℕ)) (done : List (Op × Reply)) → AllFit schema kind.ReadOnly done → MakesAnew made done
reads_anew schema made [] fit = tt
reads_anew schema made (d ∷ ds) fit = (
  ap (λ o. option_map_or (was_made made) o false) (reads_make schema d.0 d.1 (fit 0 d (omega arith))),
  reads_anew schema (made ++ made_in (d ∷ [])) ds (λ k e lt. fit (suc k) e (omega arith)),
)

pub abort_keeps : (within : Span) (schema : Schema) (journal : List Entry) (story : Story) (cause : Cause) → KeepsLaw within schema journal → IsNew within journal story → is_placed journal story ≡ true → KeepsLaw within schema (journal ++ entry.Abort story cause ∷ [])
abort_keeps within schema journal story cause law is_new placed = law_with within schema journal (entry.Abort story cause) law (record {
  number = refl;
  twice = ap (λ b. b || false) is_new;
  placed = ap not placed;
  replies = refl;
})

pub handled_keeps : (within : Span) (schema : Schema) (journal : List Entry) (client by at : ℕ) (finished : Bool) → KeepsLaw within schema journal → has_left_within within journal client ≡ false → KeepsLaw within schema (journal ++ entry.Handled client by at finished ∷ [])
handled_keeps within schema journal client by at finished law stays = law_with within schema journal (entry.Handled client by at finished) law (record { number = refl; twice = stays; placed = refl; replies = refl })

pub closed_keeps : (within : Span) (schema : Schema) (journal : List Entry) (client : ℕ) → KeepsLaw within schema journal → has_left_within within journal client ≡ false → KeepsLaw within schema (journal ++ entry.Closed client ∷ [])
closed_keeps within schema journal client law stays = law_with within schema journal (entry.Closed client) law (record { number = refl; twice = stays; placed = refl; replies = refl })
