-- The commits of a journal with one entry more.
use Rattle.std.proofs.Common.{◌≡◌, ℕ, zero, suc, ◌+◌, ◌≤◌, List, [], ◌∷◌, ◌++◌, length, take, slice_get, filter_map, Option, None, unwrap_or, refl, sym, ap, ◌∙◌, arith, add-one, length-append}
use Rattle.std.proofs.lemmas.List.{take_all, length-replicate}
use Rattle.std.proofs.lemmas.List.Elements.{filter_map-append}
use Rattle.rdb_base.specs.declared.operation.Op.{Op}
use Rattle.rdb_base.specs.declared.operation.Reply.{Reply}
use Rattle.rdb_base.specs.declared.journal.Story.{Story}
use Rattle.rdb_base.specs.declared.journal.Entry.{Entry}
use Rattle.rdb_base.specs.declared.journal.Entry.TheVariants as entry
use Rattle.rdb_schema.specs.declared.schema.Schema.{Schema}
use Rattle.rdb_model.specs.Database.{Row, Objects, Database, empty}
use Rattle.rdb_model.specs.Answer.{answer}
use Rattle.rdb_model.specs.Story.{after}
use Rattle.rdb_model.specs.Journal.{commits, committed, after_all, fold}
use Rattle.rdb_model.proofs.AnsweringLemmas.{answer_classes}
use Rattle.rdb_model.proofs.LegalCommits.{commits_are}
use Rattle.rdb_model.proofs.TallyLemmas.{commits_push}
use Rattle.rdb_history.specs.Rows.{row_after, row_after_all, last_row, done_in}
use Rattle.rdb_history.proofs.ListLemmas.{get_left, get_last}

-- there are no fewer commits, and those that were are the same
pub commits_grow : (journal : List Entry) (e : Entry) → commits journal ≤ commits (journal ++ e ∷ [])
commits_grow journal e = let h = commits_push journal e in omega arith

pub done_in_more : (journal : List Entry) (e : Entry) (n : ℕ) → n ≤ commits journal → done_in (journal ++ e ∷ []) n ≡ done_in journal n
done_in_more journal e zero le = refl
done_in_more journal e (suc n) le =
    ap (λ l. unwrap_or (slice_get l n) []) (filter_map-append committed journal (e ∷ []))
    ∙ ap (λ o. unwrap_or o []) (get_left (filter_map committed journal) (filter_map committed (e ∷ [])) n (let h = commits_are journal in omega arith))

-- the operations of the last commit
pub done_in_last : (journal : List Entry) (story : Story) (commit : ℕ) → done_in (journal ++ entry.Commit story commit ∷ []) (commits journal + 1) ≡ story.done
done_in_last journal story commit =
    ap (λ n. done_in (journal ++ entry.Commit story commit ∷ []) n) (add-one (commits journal))
    ∙ ap (λ l. unwrap_or (slice_get l (commits journal)) []) (filter_map-append committed journal (entry.Commit story commit ∷ []))
    ∙ ap (λ n. unwrap_or (slice_get (filter_map committed journal ++ story.done ∷ []) n) []) (commits_are journal)
    ∙ ap (λ o. unwrap_or o []) (get_last (filter_map committed journal) story.done)

rows_more : (object : ℕ × ℕ) (row : Option Row) (stories : List (List (Op × Reply))) (done : List (Op × Reply)) → row_after_all object row (stories ++ done ∷ []) ≡ row_after object (row_after_all object row stories) done
rows_more object row [] done = refl
rows_more object row (s ∷ ss) done = rows_more object (row_after object row s) ss done

-- the row of an object after the last commit
pub last_row_more : (journal : List Entry) (story : Story) (commit : ℕ) (object : ℕ × ℕ)
    → last_row (journal ++ entry.Commit story commit ∷ []) (commits journal + 1) object ≡ row_after object (last_row journal (commits journal) object) story.done
last_row_more journal story commit object =
    ap (λ l. row_after_all object None (take (commits journal + 1) l)) (filter_map-append committed journal (entry.Commit story commit ∷ []))
    ∙ ap (row_after_all object None) (take_all (commits journal + 1) (filter_map committed journal ++ story.done ∷ []) (let h = commits_are journal in let g = length-append (filter_map committed journal) (story.done ∷ []) in omega arith))
    ∙ rows_more object None (filter_map committed journal) story.done
    ∙ ap (λ l. row_after object (row_after_all object None l) story.done) (sym (take_all (commits journal) (filter_map committed journal) (let h = commits_are journal in omega arith)))

after_classes : (schema : Schema) (db : Database) (done : List (Op × Reply)) → length (after schema db done) ≡ length db
after_classes schema db [] = refl
after_classes schema db (d ∷ ds) = after_classes schema (answer schema db d.0).1 ds ∙ answer_classes schema db d.0

stories_classes : (schema : Schema) (db : Database) (stories : List (List (Op × Reply))) → length (after_all schema db stories) ≡ length db
stories_classes schema db [] = refl
stories_classes schema db (s ∷ ss) = stories_classes schema (after schema db s) ss ∙ after_classes schema db s

-- a fold has the schema's classes
pub fold_classes : (schema : Schema) (journal : List Entry) (n : ℕ) → length (fold schema journal n) ≡ length schema.classes
fold_classes schema journal n = stories_classes schema (empty (length schema.classes)) (take n (filter_map committed journal)) ∙ length-replicate {A = Objects} (length schema.classes) []
