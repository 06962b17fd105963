-- The rows of the database after operations that fit, and after the commits of a journal whose operations fit.
use Rattle.std.proofs.Common.{ℕ, zero, suc, List, [], ◌∷◌, length, take, arith}
use Rattle.std.specs.List.{All, AllByRecursion, filter_map}
use Rattle.rdb_base.specs.declared.identity.Kind.{Kind}
use Rattle.rdb_base.specs.declared.identity.Kind.TheVariants as kind
use Rattle.rdb_base.specs.declared.journal.Entry.{Entry}
use Rattle.rdb_base.specs.declared.journal.Entry.TheVariants as entry
use Rattle.rdb_base.specs.declared.operation.Op.{Op}
use Rattle.rdb_base.specs.declared.operation.Reply.{Reply}
use Rattle.rdb_schema.specs.declared.schema.Schema.{Schema}
use Rattle.rdb_model.specs.Database.{Database, empty}
use Rattle.rdb_model.specs.Answer.{answer}
use Rattle.rdb_model.specs.Fits.{AllFit}
use Rattle.rdb_model.specs.FirstFault.{FitsEntry}
use Rattle.rdb_model.specs.Journal.{after_all, committed, fold}
use Rattle.rdb_model.specs.Story.{after}
use Rattle.rdb_bindings.specs.Fitting.{RowsHold}
use Rattle.rdb_bindings.proofs.AnswerFits.{rows_stay, empty_holds}

-- what is so of each element is so of the others
others : {X : Type 0} (P : X → Type 0) (x : X) (xs : List X) → All P (x ∷ xs) → All P xs
others P x xs all = λ k d within. all (suc k) d (omega (arith, within))

pub rows_after : (schema : Schema) (db : Database) (done : List (Op × Reply)) (may : Kind) → AllFit schema may done → RowsHold schema db → RowsHold schema (after schema db done)
rows_after schema db [] may fit all = all
rows_after schema db (d ∷ done) may fit all =
    rows_after schema (answer schema db d.0).1 done may (λ k e within. fit (suc k) e (omega (arith, within)))
    (rows_stay schema db d.0 may (fit 0 d (omega arith)) all)

-- the stories of commits fit
stories_fit : (schema : Schema) (journal : List Entry) → All (FitsEntry schema) journal → AllByRecursion (AllFit schema kind.ReadWrite) (filter_map committed journal)
stories_fit schema [] fit = tt
stories_fit schema (entry.Commit story commit ∷ es) fit =
    ((fit 0 (entry.Commit story commit) (omega arith)).each, stories_fit schema es (others (FitsEntry schema) (entry.Commit story commit) es fit))
stories_fit schema (entry.Read story ∷ es) fit = stories_fit schema es (others (FitsEntry schema) (entry.Read story) es fit)
stories_fit schema (entry.Abort story cause ∷ es) fit = stories_fit schema es (others (FitsEntry schema) (entry.Abort story cause) es fit)
stories_fit schema (entry.Handled client by at finished ∷ es) fit = stories_fit schema es (others (FitsEntry schema) (entry.Handled client by at finished) es fit)
stories_fit schema (entry.Closed client ∷ es) fit = stories_fit schema es (others (FitsEntry schema) (entry.Closed client) es fit)

rows_after_all : (schema : Schema) (db : Database) (stories : List (List (Op × Reply))) (n : ℕ) → AllByRecursion (AllFit schema kind.ReadWrite) stories → RowsHold schema db → RowsHold schema (after_all schema db (take n stories))
rows_after_all schema db [] zero fit all = all
rows_after_all schema db [] (suc n) fit all = all
rows_after_all schema db (done ∷ stories) zero fit all = all
rows_after_all schema db (done ∷ stories) (suc n) fit all =
    rows_after_all schema (after schema db done) stories n fit.1 (rows_after schema db done kind.ReadWrite fit.0 all)

pub rows_folded : (schema : Schema) (journal : List Entry) (n : ℕ) → All (FitsEntry schema) journal → RowsHold schema (fold schema journal n)
rows_folded schema journal n fit =
    rows_after_all schema (empty (length schema.classes)) (filter_map committed journal) n (stories_fit schema journal fit) (empty_holds schema (length schema.classes))
