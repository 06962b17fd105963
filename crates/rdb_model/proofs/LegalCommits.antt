-- The commits of a journal, one after another: each has the next number and runs on what those before it made.
use Rattle.std.proofs.Common.{◌≡◌, ℕ, zero, suc, ◌+◌, Bool, true, false, ◌&&◌, ◌==◌, not, cond, List, [], ◌∷◌, ◌++◌, length, take, slice_get, filter, filter_map, Some, None, Contains, refl, sym, ap, subst, ◌∙◌, arith, take_all, length-append, append_assoc}
use Rattle.std.specs.Option.{option_map_or}
use Rattle.std.proofs.lemmas.Bool.Decides.{nat_tests}
use Rattle.std.proofs.lemmas.List.Elements.{filter-append, filter_map-append}
use Rattle.rdb_base.specs.declared.operation.Op.{Op}
use Rattle.rdb_base.specs.declared.operation.Reply.{Reply}
use Rattle.rdb_base.specs.declared.journal.Story.{Story}
use Rattle.rdb_base.specs.declared.journal.Entry.{Entry}
use Rattle.rdb_base.specs.declared.journal.Entry.TheVariants as entry
use Rattle.rdb_schema.specs.declared.schema.Schema.{Schema}
use Rattle.rdb_model.specs.Database.{Database, empty}
use Rattle.rdb_model.specs.Answer.{answer}
use Rattle.rdb_model.specs.Story.{same_reply, run, after}
use Rattle.rdb_base.specs.Entries.{is_commit}
use Rattle.rdb_model.specs.Journal.{commits, committed, after_all, fold, made_by, made_in, was_made, made_before, wrong_reply, breaks_number, breaks_reply}
use Rattle.rdb_model.specs.Parts.{NumbersInOrder, RepliesHold}
use Rattle.rdb_model.proofs.PartLemmas.{holds_here}

-- each commit has the next number, and runs on the database so far
abbrev pub CommitsRun : Schema → ℕ → Database → List Entry → Type 0
CommitsRun schema n db [] = Unit {0}
CommitsRun schema n db (entry.Commit own commit ∷ es) = (commit ≡ suc n) × (run schema db own.done ≡ Some (after schema db own.done)) × CommitsRun schema (suc n) (after schema db own.done) es
CommitsRun schema n db (entry.Read story ∷ es) = CommitsRun schema n db es
CommitsRun schema n db (entry.Abort story cause ∷ es) = CommitsRun schema n db es
CommitsRun schema n db (entry.Handled client by at finished ∷ es) = CommitsRun schema n db es
CommitsRun schema n db (entry.Closed client ∷ es) = CommitsRun schema n db es

-- a story without a wrong reply runs
pub right_runs : (schema : Schema) (db : Database) (made : List (ℕ × ℕ)) (first : ℕ) (done : List (Op × Reply)) → wrong_reply schema db made first done ≡ None → run schema db done ≡ Some (after schema db done)
right_runs schema db made first [] none = refl
right_runs schema db made first (d ∷ ds) none =
    go (same_reply (answer schema db d.0).0 d.1) (not (option_map_or (was_made made) (made_by d) false)) (right_runs schema (answer schema db d.0).1 (made ++ made_in (d ∷ [])) (first + 1) ds) none
  where
    go : (b c : Bool) → (wrong_reply schema (answer schema db d.0).1 (made ++ made_in (d ∷ [])) (first + 1) ds ≡ None → run schema (answer schema db d.0).1 ds ≡ Some (after schema (answer schema db d.0).1 ds)) → cond (b && c) (wrong_reply schema (answer schema db d.0).1 (made ++ made_in (d ∷ [])) (first + 1) ds) (Some first) ≡ None → cond b (run schema (answer schema db d.0).1 ds) None ≡ Some (after schema (answer schema db d.0).1 ds)
    go true true rest none = rest none
    go true false rest none = (cc)
    go false c rest none = (cc)

-- the commits are those whose stories are folded
pub commits_are : (es : List Entry) → commits es ≡ length (filter_map committed es)
commits_are [] = refl
commits_are (entry.Commit own commit ∷ es) = ap suc (commits_are es)
commits_are (entry.Read story ∷ es) = commits_are es
commits_are (entry.Abort story cause ∷ es) = commits_are es
commits_are (entry.Handled client by at finished ∷ es) = commits_are es
commits_are (entry.Closed client ∷ es) = commits_are es

pub after_all_append : (schema : Schema) (db : Database) (xs ys : List (List (Op × Reply))) → after_all schema db (xs ++ ys) ≡ after_all schema (after_all schema db xs) ys
after_all_append schema db [] ys = refl
after_all_append schema db (x ∷ xs) ys = after_all_append schema (after schema db x) xs ys

-- the database after all commits of a journal
abbrev pub made_of : Schema → List Entry → Database
made_of schema es = after_all schema (empty (length schema.classes)) (filter_map committed es)

pub fold_all : (schema : Schema) (es : List Entry) → fold schema es (commits es) ≡ made_of schema es
fold_all schema es = ap (after_all schema (empty (length schema.classes))) (take_all (commits es) (filter_map committed es) (omega (arith, commits_are es)))

made_more : (schema : Schema) (es : List Entry) (e : Entry) → made_of schema (es ++ e ∷ []) ≡ after_all schema (made_of schema es) (filter_map committed (e ∷ []))
made_more schema es e =
    ap (after_all schema (empty (length schema.classes))) (filter_map-append committed es (e ∷ []))
    ∙ after_all_append schema (empty (length schema.classes)) (filter_map committed es) (filter_map committed (e ∷ []))

commits_more : (es : List Entry) (e : Entry) → commits (es ++ e ∷ []) ≡ commits es + commits (e ∷ [])
commits_more es e = ap length (filter-append is_commit es (e ∷ [])) ∙ length-append (filter is_commit es) (filter is_commit (e ∷ []))

-- what isn't a commit changes nothing
passed_by : (schema : Schema) (earlier : List Entry) (e : Entry) (es : List Entry) → filter_map committed (e ∷ []) ≡ [] → commits (e ∷ []) ≡ 0 → CommitsRun schema (commits (earlier ++ e ∷ [])) (made_of schema (earlier ++ e ∷ [])) es → CommitsRun schema (commits earlier) (made_of schema earlier) es
passed_by schema earlier e es none no_commit rest =
    let same : commits (earlier ++ e ∷ []) ≡ commits earlier = let f = commits_more earlier e in omega (arith, f) in
    let alike : made_of schema (earlier ++ e ∷ []) ≡ made_of schema earlier = made_more schema earlier e ∙ ap (after_all schema (made_of schema earlier)) none in
    subst (λ n. CommitsRun schema n (made_of schema earlier) es) same (subst (λ d. CommitsRun schema (commits (earlier ++ e ∷ [])) d es) alike rest)

-- the commits of a journal whose numbers are in order and whose replies hold run, one after another
module _ (schema : Schema) (journal : List Entry) (numbers : NumbersInOrder journal) (replies : RepliesHold schema journal) where
  commits_run_from : (earlier es : List Entry) → earlier ++ es ≡ journal → CommitsRun schema (commits earlier) (made_of schema earlier) es
  commits_run_from earlier [] whole = tt
  commits_run_from earlier (entry.Commit own commit ∷ es) whole =
      let number : breaks_number earlier (entry.Commit own commit) ≡ false = holds_here (λ earlier e. breaks_number earlier e ≡ false) journal earlier es (entry.Commit own commit) numbers whole in
      let right : breaks_reply schema earlier (entry.Commit own commit) ≡ None = holds_here (λ earlier e. breaks_reply schema earlier e ≡ None) journal earlier es (entry.Commit own commit) replies whole in
      let rest : CommitsRun schema (commits (earlier ++ entry.Commit own commit ∷ [])) (made_of schema (earlier ++ entry.Commit own commit ∷ [])) es = commits_run_from (earlier ++ entry.Commit own commit ∷ []) es (append_assoc earlier (entry.Commit own commit ∷ []) es ∙ whole) in
      let runs : run schema (fold schema earlier (commits earlier)) own.done ≡ Some (after schema (fold schema earlier (commits earlier)) own.done) = right_runs schema (fold schema earlier (commits earlier)) (made_before earlier) 1 own.done right in
      let next : commits (earlier ++ entry.Commit own commit ∷ []) ≡ suc (commits earlier) = let e = commits_more earlier (entry.Commit own commit) in omega (arith, e) in (
        numbered (commit == (commits earlier + 1)) refl number,
        subst (λ d. run schema d own.done ≡ Some (after schema d own.done)) (fold_all schema earlier) runs,
        subst (λ n. CommitsRun schema n (after schema (made_of schema earlier) own.done) es) next
            (subst (λ d. CommitsRun schema (commits (earlier ++ entry.Commit own commit ∷ [])) d es) (made_more schema earlier (entry.Commit own commit)) rest),
      )
    where
      numbered : (b : Bool) → (commit == (commits earlier + 1)) ≡ b → not b ≡ false → commit ≡ suc (commits earlier)
      numbered true e f = grind (arith, nat_tests)
      numbered false e f = (cc)
  commits_run_from earlier (entry.Read story ∷ es) whole =
      passed_by schema earlier (entry.Read story) es refl refl (commits_run_from (earlier ++ entry.Read story ∷ []) es (append_assoc earlier (entry.Read story ∷ []) es ∙ whole))
  commits_run_from earlier (entry.Abort story cause ∷ es) whole =
      passed_by schema earlier (entry.Abort story cause) es refl refl (commits_run_from (earlier ++ entry.Abort story cause ∷ []) es (append_assoc earlier (entry.Abort story cause ∷ []) es ∙ whole))
  commits_run_from earlier (entry.Handled client by at finished ∷ es) whole =
      passed_by schema earlier (entry.Handled client by at finished) es refl refl (commits_run_from (earlier ++ entry.Handled client by at finished ∷ []) es (append_assoc earlier (entry.Handled client by at finished ∷ []) es ∙ whole))
  commits_run_from earlier (entry.Closed client ∷ es) whole =
      passed_by schema earlier (entry.Closed client) es refl refl (commits_run_from (earlier ++ entry.Closed client ∷ []) es (append_assoc earlier (entry.Closed client ∷ []) es ∙ whole))

pub commits_run : (schema : Schema) (journal : List Entry) → NumbersInOrder journal → RepliesHold schema journal → CommitsRun schema 0 (empty (length schema.classes)) journal
commits_run schema journal numbers replies = commits_run_from schema journal numbers replies [] journal refl

-- the commit whose story stands at a place of those that are folded
pub record IsCommitAt (schema : Schema) (n : ℕ) (db : Database) (es : List Entry) (k : ℕ) (done : List (Op × Reply)) : Type 0 where
  pub own : Story
  pub stands : Contains es (entry.Commit own (suc (n + k)))
  pub has : own.done ≡ done
  pub runs : run schema (after_all schema db (take k (filter_map committed es))) done ≡ Some (after schema (after_all schema db (take k (filter_map committed es))) done)

-- an entry among the others is one of all
contains_more : (e x : Entry) (es : List Entry) → Contains es x → Contains (e ∷ es) x
contains_more e x es c = (suc c.0, omega (arith, c.1), c.2)

skipped : (schema : Schema) (n : ℕ) (db : Database) (e : Entry) (es : List Entry) (k : ℕ) (done : List (Op × Reply)) → filter_map committed (e ∷ es) ≡ filter_map committed es → IsCommitAt schema n db es k done → IsCommitAt schema n db (e ∷ es) k done
skipped schema n db e es k done same c = record {
  own = c.own;
  stands = contains_more e (entry.Commit c.own (suc (n + k))) es c.stands;
  has = c.has;
  runs = subst (λ l. run schema (after_all schema db (take k l)) done ≡ Some (after schema (after_all schema db (take k l)) done)) (sym same) c.runs;
}

pub commit_at : (schema : Schema) (es : List Entry) (n : ℕ) (db : Database) (k : ℕ) (done : List (Op × Reply)) → CommitsRun schema n db es → slice_get (filter_map committed es) k ≡ Some done → IsCommitAt schema n db es k done
commit_at schema [] n db k done runs is = (cc)
commit_at schema (entry.Commit own commit ∷ es) n db zero done runs is =
    let same : own.done ≡ done = (cc) in
    let number : commit ≡ suc (n + 0) = omega (arith, runs.0) in
    record {
      own = own;
      stands = (0, omega arith, ap (entry.Commit own) number);
      has = same;
      runs = subst (λ d. run schema db d ≡ Some (after schema db d)) same runs.1;
    }
commit_at schema (entry.Commit own commit ∷ es) n db (suc k) done runs is =
    let c : IsCommitAt schema (suc n) (after schema db own.done) es k done = commit_at schema es (suc n) (after schema db own.done) k done runs.2 is in
    let number : suc (suc n + k) ≡ suc (n + suc k) = omega arith in
    record {
      own = c.own;
      stands = contains_more (entry.Commit own commit) (entry.Commit c.own (suc (n + suc k))) es (subst (λ m. Contains es (entry.Commit c.own m)) number c.stands);
      has = c.has;
      runs = c.runs;
    }
commit_at schema (entry.Read story ∷ es) n db k done runs is = skipped schema n db (entry.Read story) es k done refl (commit_at schema es n db k done runs is)
commit_at schema (entry.Abort story cause ∷ es) n db k done runs is = skipped schema n db (entry.Abort story cause) es k done refl (commit_at schema es n db k done runs is)
commit_at schema (entry.Handled client by at finished ∷ es) n db k done runs is = skipped schema n db (entry.Handled client by at finished) es k done refl (commit_at schema es n db k done runs is)
commit_at schema (entry.Closed client ∷ es) n db k done runs is = skipped schema n db (entry.Closed client) es k done refl (commit_at schema es n db k done runs is)
