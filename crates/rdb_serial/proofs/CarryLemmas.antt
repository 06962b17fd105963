-- What is so of a connection is carried over to another scene: a longer journal, other marks and other versions that show it the same.
use Rattle.std.proofs.Common.{◌≡◌, ℕ, ◌+◌, ◌≤◌, Bool, true, false, List, ◌++◌, length, take, drop, slice_index, Some, None, IsSome, refl, sym, ap, subst, ◌∙◌, arith, Contains}
use Rattle.std.proofs.lemmas.List.{take-append-le, take-append-drop, length-append}
use Rattle.std.proofs.lemmas.List.Elements.{Contains-append_left}
use Rattle.rdb_base.specs.declared.identity.Manager.{Manager}
use Rattle.rdb_base.specs.declared.journal.Cause.{Cause}
use Rattle.rdb_base.specs.declared.journal.Cause.TheVariants as cause
use Rattle.rdb_base.specs.declared.journal.Story.{Story}
use Rattle.rdb_base.specs.declared.journal.Entry.{Entry}
use Rattle.rdb_base.specs.declared.journal.Entry.TheVariants as entry
use Rattle.rdb_schema.specs.declared.schema.Schema.{Schema}
use Rattle.rdb_registry.specs.declared.seat.Transaction.{Transaction}
use Rattle.rdb_sight.specs.Versions.{shown}
use Rattle.rdb_model.specs.Database.{Database}
use Rattle.rdb_model.specs.Story.{run}
use Rattle.rdb_model.specs.Journal.{commits, fold, made_in, made_before, has_ended_since_leave}
use Rattle.rdb_model.specs.Validation.{MakesAnew, RunsAfter}
use Rattle.rdb_history.proofs.GrowthLemmas.{commits_grown, fold_grown, first_grown}
use Rattle.rdb_shown.specs.Kept.{IsWork}
use Rattle.rdb_serial.specs.Progress.{Progress, tx_of, is_live, so_far, story_with}
use Rattle.rdb_serial.specs.Histories.{Scene, view_in, shown_to}
use Rattle.rdb_serial.specs.Serial.{IsCauseOf, MayRollBack, AreDrawn, IsBegun, SeesAll, IsGoingOn, IsOpen, IsConnection, IsUnrefused}

-- the commits that a transaction sees are there
pub commits_of_front : (journal : List Entry) (n : ℕ) → n ≤ length journal → commits (take n journal) ≤ commits journal
commits_of_front journal n le =
    let grown : commits (take n journal ++ drop n journal) ≡ commits (take n journal) + commits (drop n journal) = commits_grown (take n journal) (drop n journal) in
    let whole : commits (take n journal ++ drop n journal) ≡ commits journal = ap commits (take-append-drop n journal) in
    omega (arith, grown, whole)

pub snapshot_there : (schema : Schema) (s : Scene) (t : Transaction) → IsBegun schema s t → t.snapshot ≤ commits s.journal
snapshot_there schema s t begun = let h = commits_of_front s.journal t.begun begun.begun in let g = begun.snapshot in omega (arith, h, g)

-- what another scene is to a connection
pub record Carries (schema : Schema) (manager : Manager) (s now : Scene) (slot : ℕ) (p : Progress) : Type 0 where
  pub more : List Entry
  pub journal : now.journal ≡ s.journal ++ more
  pub shows : (t : Transaction) → p.transaction ≡ Some t → IsBegun schema s t → shown now.marks t.snapshot None now.settled ≡ shown s.marks t.snapshot None s.settled
  pub mine : (t : Transaction) → p.transaction ≡ Some t → IsBegun schema s t → t.mark ≡ None → is_live p ≡ true → shown_to now p t ≡ shown_to s p t
  pub work : (t : Transaction) → p.transaction ≡ Some t → IsBegun schema s t → t.mark ≡ None → is_live p ≡ true
      → IsWork s.marks (view_in s p) (tx_of p t) t.snapshot (so_far p) → IsWork now.marks (view_in now p) (tx_of p t) t.snapshot (so_far p)
  pub sees_all : (t : Transaction) → p.transaction ≡ Some t → IsBegun schema s t → t.mark ≡ None → is_live p ≡ true → SeesAll schema manager s p t → SeesAll schema manager now p t
  pub anew : MakesAnew (made_before s.journal) (so_far p) → MakesAnew (made_before now.journal) (so_far p)
  pub drawn : (class : ℕ) → slice_index s.drawn class ≤ slice_index now.drawn class
  pub ended : (number : ℕ) → has_ended_since_leave now.journal (slot, number) ≡ true → has_ended_since_leave s.journal (slot, number) ≡ true

pub drawn_more : (drawn now : List ℕ) (objects : List (ℕ × ℕ)) → ((class : ℕ) → slice_index drawn class ≤ slice_index now class) → AreDrawn drawn objects → AreDrawn now objects
drawn_more drawn now objects grows are class id made = let h = are class id made in let g = grows class in omega (arith, h, g)

-- a cause stays one
pub cause_more : (schema : Schema) (journal more : List Entry) (story : Story) (why : Cause) → IsCauseOf schema journal story why → IsCauseOf schema (journal ++ more) story why
cause_more schema journal more story cause.Asked is = tt
cause_more schema journal more story (cause.Conflict commit operation) is = first_grown journal more schema story commit operation is
cause_more schema journal more story (cause.Full need room) is = is

pub runs_more : (schema : Schema) (journal more : List Entry) (n : ℕ) (story : Story) → n ≤ commits journal → RunsAfter schema journal n story → RunsAfter schema (journal ++ more) n story
runs_more schema journal more n story le runs = subst (λ (db : Database). IsSome (run schema db story.done)) (sym (fold_grown journal more schema n le)) runs

may_more : (schema : Schema) (journal more : List Entry) (story : Story) (why : Cause) → story.snapshot ≤ commits journal → MayRollBack schema journal story why → MayRollBack schema (journal ++ more) story why
may_more schema journal more story why le may = record {
  runs = runs_more schema journal more story.snapshot story le may.runs;
  because = cause_more schema journal more story why may.because;
}

pub begun_more : (schema : Schema) (s now : Scene) (more : List Entry) (t : Transaction) → now.journal ≡ s.journal ++ more
    → shown now.marks t.snapshot None now.settled ≡ shown s.marks t.snapshot None s.settled → IsBegun schema s t → IsBegun schema now t
begun_more schema s now more t journal shows begun = record {
  begun = let h = begun.begun in let l : length now.journal ≡ length s.journal + length more = ap length journal ∙ length-append s.journal more in omega (arith, h, l);
  snapshot = begun.snapshot ∙ sym (ap (λ (j : List Entry). commits (take t.begun j)) journal ∙ ap commits (take-append-le t.begun s.journal more begun.begun));
  shows = shows ∙ begun.shows ∙ sym (ap (λ (j : List Entry). fold schema j t.snapshot) journal ∙ fold_grown s.journal more schema t.snapshot (snapshot_there schema s t begun));
}

false_from : (b c : Bool) → (c ≡ true → b ≡ true) → b ≡ false → c ≡ false
false_from b false up e = refl
false_from b true up e = let h = up refl in (cc)

-- an open transaction in another scene
module _ (schema : Schema) (manager : Manager) (s now : Scene) (slot : ℕ) (p : Progress) (carries : Carries schema manager s now slot p) (place : p.conn.slot ≡ slot) (t : Transaction)
    (open_one : p.transaction ≡ Some t) (is : IsOpen schema manager s p t) where
  fold_same : fold schema now.journal t.snapshot ≡ fold schema s.journal t.snapshot
  fold_same = ap (λ (j : List Entry). fold schema j t.snapshot) carries.journal ∙ fold_grown s.journal carries.more schema t.snapshot (snapshot_there schema s t is.begun)

  going : t.mark ≡ None → is_live p ≡ true → IsGoingOn schema manager s p t → IsGoingOn schema manager now p t
  going unmarked live on =
      let same = carries.mine t open_one is.begun unmarked live in record {
        work = carries.work t open_one is.begun unmarked live on.work;
        runs = ap (λ (db : Database). run schema db (so_far p)) fold_same ∙ on.runs ∙ ap Some (sym same);
        unrefused = λ w in_work unplanned. subst (λ (db : Database). IsUnrefused schema db w.op) (sym same) (on.unrefused w in_work unplanned);
        fits = on.fits;
        fits_work = on.fits_work;
        sees_all = carries.sees_all t open_one is.begun unmarked live on.sees_all;
      }

  pub open_carried : IsOpen schema manager now p t
  open_carried = record {
    number = is.number;
    begun = begun_more schema s now carries.more t carries.journal (carries.shows t open_one is.begun) is.begun;
    unended = λ unmarked. false_from (has_ended_since_leave s.journal (p.conn.slot, t.number)) (has_ended_since_leave now.journal (p.conn.slot, t.number))
        (subst (λ (k : ℕ). has_ended_since_leave now.journal (k, t.number) ≡ true → has_ended_since_leave s.journal (k, t.number) ≡ true) (sym place) (carries.ended t.number)) (is.unended unmarked);
    committed = λ commit marked. let has = is.committed commit marked in
        (has.0, subst (λ (j : List Entry). Contains j (entry.Commit has.0 commit)) (sym carries.journal) (Contains-append_left s.journal carries.more (entry.Commit has.0 commit) has.1), has.2, has.3);
    goes_on = λ unmarked live. going unmarked live (is.goes_on unmarked live);
    rolls_back = λ why unmarked rolls. subst (λ (j : List Entry). MayRollBack schema j (story_with p t p.done) why) (sym carries.journal)
        (may_more schema s.journal carries.more (story_with p t p.done) why (snapshot_there schema s t is.begun) (is.rolls_back why unmarked rolls));
  }

-- a connection in another scene
pub carried : (schema : Schema) (manager : Manager) (s now : Scene) (slot : ℕ) (p : Progress) → Carries schema manager s now slot p → IsConnection schema manager s slot p → IsConnection schema manager now slot p
carried schema manager s now slot p carries is = record {
  place = is.place;
  ended = λ number ended. is.ended number (carries.ended number ended);
  anew = carries.anew is.anew;
  drawn = drawn_more s.drawn now.drawn (made_in (so_far p)) carries.drawn is.drawn;
  open_one = λ t open_one. open_carried schema manager s now slot p carries is.place t open_one (is.open_one t open_one);
}
