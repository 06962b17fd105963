-- What a commit did not write stays as it was, so no event happens to it.
use Rattle.std.proofs.Common.{◌≡◌, ℕ, suc, ◌+◌, ◌-◌, Bool, true, false, ◌&&◌, ◌==◌, not, List, [], ◌∷◌, length, take, drop, slice_get, filter_map, Option, Some, None, Contains, nat_eq, refl, sym, ap, subst, ◌∙◌, arith, take-append-drop}
use Rattle.std.specs.List.{list_any}
use Rattle.std.specs.Ordering.{is_eq}
use Rattle.std.proofs.lemmas.Bool.Decides.{nat_tests}
use Rattle.std.proofs.lemmas.Cmp.{tied_itself}
use Rattle.std.proofs.lemmas.Option.{slice_get-get_or}
use Rattle.rdb_base.specs.Order.{row_order}
use Rattle.rdb_base.specs.declared.operation.Op.{Op}
use Rattle.rdb_base.specs.declared.operation.Reply.{Reply}
use Rattle.rdb_base.specs.declared.journal.Story.{Story}
use Rattle.rdb_base.specs.declared.journal.Entry.{Entry}
use Rattle.rdb_base.specs.declared.journal.Entry.TheVariants as entry
use Rattle.rdb_base.proofs.OrderLemmas.{row_order_total}
use Rattle.rdb_schema.specs.declared.schema.EventKind.{EventKind}
use Rattle.rdb_schema.specs.declared.schema.EventKind.TheVariants as kind
use Rattle.rdb_schema.specs.declared.schema.Schema.{Schema}
use Rattle.rdb_model.specs.Database.{Row, Database, empty, row_of, without, objects_of}
use Rattle.rdb_model.specs.Index.{key}
use Rattle.rdb_model.specs.Story.{run, after}
use Rattle.rdb_model.specs.Journal.{commits, committed, fold, made_before}
use Rattle.rdb_model.specs.Parts.{NumbersInOrder, RepliesHold}
use Rattle.rdb_model.specs.Touch.{written_by}
use Rattle.rdb_model.specs.Validation.{was_written}
use Rattle.rdb_model.specs.Events.{happened}
use Rattle.rdb_model.proofs.Rising.{row_of_without}
use Rattle.rdb_model.proofs.Lacking.{first_fails, second_fails}
use Rattle.rdb_model.proofs.Erasing.{erased, objects_other, objects_erased}
use Rattle.rdb_model.proofs.ErasedStory.{row_in, erased_all}
use Rattle.rdb_model.proofs.WrittenObjects.{wrote_these}
use Rattle.rdb_model.proofs.LegalCommits.{right_runs, commits_are}
use Rattle.rdb_model.proofs.Validating.{after_next}
use Rattle.rdb_model.proofs.SerialReads.{fold_front}
use Rattle.rdb_model.proofs.SerialPlaces.{get_filtered}

-- the row of another object stays where one is left out
pub row_in_erased_other : (db : Database) (v w : ℕ × ℕ) → ((v.0 == w.0) && (v.1 == w.1)) ≡ false → row_in (erased db v) w ≡ row_in db w
row_in_erased_other db v w other = go (nat_eq v.0 w.0) refl other
  where
    go : (a : Bool) → nat_eq v.0 w.0 ≡ a → (a && (v.1 == w.1)) ≡ false → row_in (erased db v) w ≡ row_in db w
    go false e other = ap (λ l. row_of l w.1) (objects_other db v.0 w.0 (without (objects_of db v.0) v.1) e)
    go true e other =
        let same : v.0 ≡ w.0 = grind (arith, nat_tests) in
        subst (λ c. row_of (objects_of (erased db v) c) w.1 ≡ row_of (objects_of db c) w.1) same (ap (λ l. row_of l w.1) (objects_erased db v.0 v.1) ∙ row_of_without (objects_of db v.0) v.1 w.1 other)

row_in_erased_all : (ws : List (ℕ × ℕ)) (db : Database) (w : ℕ × ℕ) → list_any (λ v. (v.0 == w.0) && (v.1 == w.1)) ws ≡ false → row_in (erased_all db ws) w ≡ row_in db w
row_in_erased_all [] db w other = refl
row_in_erased_all (v ∷ vs) db w other =
    row_in_erased_all vs (erased db v) w (second_fails ((v.0 == w.0) && (v.1 == w.1)) (list_any (λ v. (v.0 == w.0) && (v.1 == w.1)) vs) other)
    ∙ row_in_erased_other db v w (first_fails ((v.0 == w.0) && (v.1 == w.1)) (list_any (λ v. (v.0 == w.0) && (v.1 == w.1)) vs) other)

-- an object that a run didn't write has the row that it had
unwritten_stays : (schema : Schema) (done : List (Op × Reply)) (db : Database) (w : ℕ × ℕ) → run schema db done ≡ Some (after schema db done) → was_written done w ≡ false → row_in db w ≡ row_in (after schema db done) w
unwritten_stays schema done db w runs other =
    sym (row_in_erased_all (filter_map written_by done) db w other)
    ∙ ap (λ d. row_in d w) (wrote_these schema done db (after schema db done) runs)
    ∙ row_in_erased_all (filter_map written_by done) (after schema db done) w other

-- nothing happens to an object whose row stays
same_row_is : (row : Row) → not (is_eq (row_order row row)) ≡ false
same_row_is row = ap (λ o. not (is_eq o)) (tied_itself row_order_total row)

nothing_happened : (k : EventKind) (row : Option Row) → happened k row row ≡ false
nothing_happened kind.New None = refl
nothing_happened kind.New (Some row) = refl
nothing_happened kind.Delete None = refl
nothing_happened kind.Delete (Some row) = refl
nothing_happened kind.Update None = refl
nothing_happened kind.Update (Some row) = same_row_is row
nothing_happened (kind.UpdateField field) None = refl
nothing_happened (kind.UpdateField field) (Some row) = same_row_is (key (field ∷ []) row)

-- a commit runs on the database before it, which it makes into the one after it
pub record RunsAt (schema : Schema) (journal : List Entry) (own : Story) (commit : ℕ) : Type 0 where
  pub runs : run schema (fold schema journal (commit - 1)) own.done ≡ Some (after schema (fold schema journal (commit - 1)) own.done)
  pub next : fold schema journal commit ≡ after schema (fold schema journal (commit - 1)) own.done

pub commit_runs : (schema : Schema) (journal : List Entry) (own : Story) (commit i : ℕ) → NumbersInOrder journal → RepliesHold schema journal → slice_get journal i ≡ Some (entry.Commit own commit) → RunsAt schema journal own commit
commit_runs schema journal own commit i numbers replies is =
    let number : commit ≡ suc (commits (take i journal)) = numbered (commit == (commits (take i journal) + 1)) refl (numbers i (entry.Commit own commit) is) in
    let place : commit - 1 ≡ commits (take i journal) = omega arith in
    let right : run schema (fold schema (take i journal) (commits (take i journal))) own.done ≡ Some (after schema (fold schema (take i journal) (commits (take i journal))) own.done) = right_runs schema (fold schema (take i journal) (commits (take i journal))) (made_before (take i journal)) 1 own.done (replies i (entry.Commit own commit) is) in
    let alike : fold schema (take i journal) (commits (take i journal)) ≡ fold schema journal (commits (take i journal)) = fold_front schema (take i journal) (drop i journal) (commits (take i journal)) (omega arith) ∙ ap (λ j. fold schema j (commits (take i journal))) (take-append-drop i journal) in
    let folded : slice_get (filter_map committed journal) (commits (take i journal)) ≡ Some own.done = ap (slice_get (filter_map committed journal)) (commits_are (take i journal)) ∙ get_filtered committed journal i (entry.Commit own commit) own.done is refl in
    let here : fold schema journal (commit - 1) ≡ fold schema journal (commits (take i journal)) = ap (fold schema journal) place in
    record {
      runs = subst (λ d. run schema d own.done ≡ Some (after schema d own.done)) (alike ∙ sym here) right;
      next = ap (fold schema journal) number ∙ after_next schema (empty (length schema.classes)) (filter_map committed journal) (commits (take i journal)) own.done folded ∙ ap (λ d. after schema d own.done) (sym here);
    }
  where
    numbered : (b : Bool) → (commit == (commits (take i journal) + 1)) ≡ b → not b ≡ false → commit ≡ suc (commits (take i journal))
    numbered true e f = grind (arith, nat_tests)
    numbered false e f = (cc)

-- an event happens to an object that the commit wrote
pub events_written : (schema : Schema) (journal : List Entry) (own : Story) (commit : ℕ) (k : EventKind) (class id : ℕ) → NumbersInOrder journal → RepliesHold schema journal → Contains journal (entry.Commit own commit) → happened k (row_of (objects_of (fold schema journal (commit - 1)) class) id) (row_of (objects_of (fold schema journal commit) class) id) ≡ true → was_written own.done (class, id) ≡ true
events_written schema journal own commit k class id numbers replies stands event = go (was_written own.done (class, id)) refl
  where
    place : slice_get journal stands.0 ≡ Some (entry.Commit own commit)
    place = slice_get-get_or journal stands.0 (entry.Commit own commit) stands.1 ∙ ap Some stands.2

    at : RunsAt schema journal own commit
    at = commit_runs schema journal own commit stands.0 numbers replies place

    go : (b : Bool) → was_written own.done (class, id) ≡ b → b ≡ true
    go true e = refl
    go false e =
        let stays : row_in (fold schema journal (commit - 1)) (class, id) ≡ row_in (fold schema journal commit) (class, id) =
        unwritten_stays schema own.done (fold schema journal (commit - 1)) (class, id) at.runs e ∙ ap (λ d. row_in d (class, id)) (sym at.next) in
        let never : happened k (row_in (fold schema journal (commit - 1)) (class, id)) (row_in (fold schema journal commit) (class, id)) ≡ false =
        ap (happened k (row_in (fold schema journal (commit - 1)) (class, id))) (sym stays) ∙ nothing_happened k (row_in (fold schema journal (commit - 1)) (class, id)) in
        (cc)
