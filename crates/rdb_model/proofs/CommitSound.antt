-- A commit that validation lets pass keeps the law.
use Rattle.std.proofs.Common.{◌≡◌, ℕ, zero, suc, ◌+◌, ◌≤◌, Bool, true, false, ◌&&◌, ◌||◌, ◌==◌, not, cond, List, [], ◌∷◌, ◌++◌, length, Option, Some, None, IsSome, is_some, All, Contains, nat_eq, refl, sym, ap, subst, arith}
use Rattle.std.specs.List.{cons_option}
use Rattle.std.specs.Option.{option_map_or}
use Rattle.std.proofs.lemmas.Bool.Decides.{nat_tests}
use Rattle.rdb_base.specs.declared.operation.Op.{Op}
use Rattle.rdb_base.specs.declared.operation.Reply.{Reply}
use Rattle.rdb_base.specs.declared.journal.Story.{Story}
use Rattle.rdb_base.specs.declared.journal.Entry.{Entry}
use Rattle.rdb_base.specs.declared.journal.Entry.TheVariants as entry
use Rattle.rdb_schema.specs.declared.schema.Schema.{Schema}
use Rattle.rdb_model.specs.declared.legality.Span.{Span}
use Rattle.rdb_model.specs.Database.{Database, empty, row_of, objects_of}
use Rattle.rdb_model.specs.Answer.{answer}
use Rattle.rdb_model.specs.Story.{same_reply, run}
use Rattle.rdb_model.specs.Journal.{commits, fold, made_by, made_in, made_before, was_made, wrong_reply}
use Rattle.rdb_model.specs.Parts.{KeepsLaw}
use Rattle.rdb_model.specs.Validation.{was_written, AreLeftAlone, MakesAnew, IsNew, IsValid}
use Rattle.rdb_model.proofs.PartLemmas.{law_with}
use Rattle.rdb_model.proofs.LegalCommits.{commits_run}
use Rattle.rdb_model.proofs.Validating.{still_runs}
use Rattle.rdb_model.proofs.SerialReads.{snapshot_below}
use Rattle.rdb_model.proofs.MadeObjects.{made_left, commit_wrote}

-- a story that runs and makes objects anew has no wrong reply
pub right_from : (schema : Schema) (db : Database) (made : List (ℕ × ℕ)) (first : ℕ) (done : List (Op × Reply)) → IsSome (run schema db done) → MakesAnew made done → wrong_reply schema db made first done ≡ None
right_from schema db made first [] runs anew = refl
right_from schema db made first (d ∷ ds) runs anew =
    subst (λ c. cond (same_reply (answer schema db d.0).0 d.1 && not c) (wrong_reply schema (answer schema db d.0).1 (made ++ made_in (d ∷ [])) (first + 1) ds) (Some first) ≡ None) (sym anew.0)
    (go (same_reply (answer schema db d.0).0 d.1) (λ runs. right_from schema (answer schema db d.0).1 (made ++ made_in (d ∷ [])) (first + 1) ds runs anew.1) runs)
  where
    go : (b : Bool) → (IsSome (run schema (answer schema db d.0).1 ds) → wrong_reply schema (answer schema db d.0).1 (made ++ made_in (d ∷ [])) (first + 1) ds ≡ None) → IsSome (cond b (run schema (answer schema db d.0).1 ds) None) → cond (b && not false) (wrong_reply schema (answer schema db d.0).1 (made ++ made_in (d ∷ [])) (first + 1) ds) (Some first) ≡ None
    go true rest runs = rest runs
    go false rest runs = (cc)

-- what is made anew wasn't made before
made_by_first : (made more : List (ℕ × ℕ)) (w : ℕ × ℕ) → was_made (made ++ more) w ≡ false → was_made made w ≡ false
made_by_first made more w e = go (was_made made w) refl
  where
    go : (b : Bool) → was_made made w ≡ b → b ≡ false
    go true f = let g = made_left made more w f in (cc)
    go false f = refl

all_cons : (P : ℕ × ℕ → Type 0) (x : ℕ × ℕ) (xs : List (ℕ × ℕ)) → P x → All P xs → All P (x ∷ xs)
all_cons P x xs here rest zero d lt = here
all_cons P x xs here rest (suc k) d lt = rest k d (omega arith)

all_anew : (made : List (ℕ × ℕ)) (done : List (Op × Reply)) (P : ℕ × ℕ → Type 0) → ((w : ℕ × ℕ) → was_made made w ≡ false → P w) → MakesAnew made done → All P (made_in done)
all_anew made [] P holds anew = λ k d lt. absurd (omega arith)
all_anew made (d ∷ ds) P holds anew =
    go (made_by d) anew.0 (all_anew (made ++ made_in (d ∷ [])) ds P (λ w e. holds w (made_by_first made (made_in (d ∷ [])) w e)) anew.1)
  where
    go : (o : Option (ℕ × ℕ)) → option_map_or (was_made made) o false ≡ false → All P (made_in ds) → All P (cons_option o (made_in ds))
    go None e rest = rest
    go (Some w) e rest = all_cons P w (made_in ds) (holds w e) rest

none_there : (classes : ℕ) (class id : ℕ) → is_some (row_of (objects_of (empty classes) class) id) ≡ true → ⊥
none_there zero class id e = (cc)
none_there (suc n) zero id e = (cc)
none_there (suc n) (suc class) id e = none_there n class id e

-- the commit that validation lets pass
pub commit_keeps : (within : Span) (schema : Schema) (journal : List Entry) (story : Story) → KeepsLaw within schema journal → IsNew within journal story → IsValid schema journal story → KeepsLaw within schema (journal ++ entry.Commit story (commits journal + 1) ∷ [])
commit_keeps within schema journal story law is_new valid = law_with within schema journal (entry.Commit story (commits journal + 1)) law (record {
  number = number;
  twice = ap (λ b. b || false) is_new;
  placed = ap not valid.placed;
  replies = right_from schema (fold schema journal (commits journal)) (made_before journal) 1 story.done runs valid.makes_anew;
})
  where
    below : story.snapshot ≤ commits journal
    below = snapshot_below journal story (ap not valid.placed)

    unwritten : (own : Story) (commit : ℕ) → Contains journal (entry.Commit own commit) → (w : ℕ × ℕ) → was_made (made_before journal) w ≡ false → was_written own.done w ≡ false
    unwritten own commit stands w e = go (was_written own.done w) refl
      where
        go : (b : Bool) → was_written own.done w ≡ b → b ≡ false
        go true f = let g : was_made (made_before journal) w ≡ true = commit_wrote schema journal 0 (empty (length schema.classes)) [] own commit (λ v is. absurd (none_there (length schema.classes) v.0 v.1 is)) (commits_run schema journal law.numbers law.replies) stands w f in (cc)
        go false f = refl

    alone : AreLeftAlone schema journal story.snapshot (commits journal) story
    alone own commit stands from to = record {
      touches_none = valid.touches_none own commit stands from;
      writes_none_made = all_anew (made_before journal) story.done (λ object. was_written own.done object ≡ false) (unwritten own commit stands) valid.makes_anew;
    }

    runs : IsSome (run schema (fold schema journal (commits journal)) story.done)
    runs = still_runs schema journal story story.snapshot (commits journal) law.numbers law.replies below valid.runs alone

    number : not ((commits journal + 1) == (commits journal + 1)) ≡ false
    number = let same : nat_eq (commits journal + 1) (commits journal + 1) ≡ true = grind (arith, nat_tests) in ap not same
