-- A connection comes, begins, and goes on with its story: the journal and all versions stay.
use Rattle.std.proofs.Common.{◌≡◌, inl, inr, ℕ, ◌+◌, ◌≤◌, Bool, true, false, ◌&&◌, not, List, [], ◌∷◌, ◌++◌, length, Option, Some, None, IsSome, is_some, refl, sym, ap, subst, ◌∙◌, arith, append-nil}
use Rattle.std.proofs.lemmas.List.{take_all}
use Rattle.std.proofs.lemmas.List.Elements.{All-nil}
use Rattle.rdb_base.specs.declared.identity.Kind.{Kind}
use Rattle.rdb_base.specs.declared.identity.Manager.{Manager}
use Rattle.rdb_base.specs.declared.identity.TxId.{TxId}
use Rattle.rdb_base.specs.declared.operation.Op.{Op}
use Rattle.rdb_base.specs.declared.operation.Reply.{Reply}
use Rattle.rdb_base.specs.declared.journal.Cause.{Cause}
use Rattle.rdb_base.specs.declared.journal.Entry.{Entry}
use Rattle.rdb_pages.specs.declared.cell.CellRef.{CellRef}
use Rattle.rdb_schema.specs.declared.schema.Schema.{Schema}
use Rattle.rdb_registry.specs.declared.hand.Work.{Work}
use Rattle.rdb_registry.specs.declared.seat.Transaction.{Transaction}
use Rattle.rdb_registry.specs.Seats.{beginning}
use Rattle.rdb_sight.specs.Versions.{Versions, Marks, objects_in, chain_in, shown}
use Rattle.rdb_model.specs.Database.{Database}
use Rattle.rdb_model.specs.Fits.{Fits, AllFit}
use Rattle.rdb_model.specs.Story.{run}
use Rattle.rdb_model.specs.Journal.{commits, fold, made_in, made_before, was_made, has_ended_since_leave}
use Rattle.rdb_model.specs.Touch.{written_by}
use Rattle.rdb_model.specs.Validation.{MakesAnew}
use Rattle.rdb_shown.specs.Kept.{AreVersions, IsWork}
use Rattle.rdb_shown.specs.Changes.{HasNone}
use Rattle.rdb_shown.proofs.KeptLemmas.{in_order}
use Rattle.rdb_shown.proofs.MarkLemmas.{shown_alike}
use Rattle.rdb_shown.proofs.NothingLemmas.{no_work}
use Rattle.rdb_shown.proofs.RestLemmas.{none_own_shown}
use Rattle.rdb_serial.specs.Progress.{Progress, tx_of, holds, is_live, done_by_plan, so_far, story_with, mark_in, marks_of}
use Rattle.rdb_serial.specs.Histories.{History, Scene, scene_of, view, view_in, shown_to}
use Rattle.rdb_serial.specs.Serial.{MayRollBack, AreDrawn, IsScene, IsUnrefused, IsGoingOn, IsOpen, IsConnection, IsSlot, IsSerial}
use Rattle.rdb_serial.specs.Moves.{TakesLatches, GivesLatches, Comes, Begins, begins, Notes, TakesWork, Finishes, RollsBack, IsCondemned}
use Rattle.rdb_serial.proofs.ViewLemmas.{length_view, view_latched, view_free, view_is}
use Rattle.rdb_serial.proofs.ProgressLemmas.{mark_by, no_mark}
use Rattle.rdb_serial.proofs.TurnLemmas.{floor_turned}
use Rattle.rdb_serial.proofs.StillLemmas.{floors_stay, plan_stays, KeepsSnapshots, nothing_so_far, makes_nothing, turned_still, connection_of}
use Rattle.rdb_serial.proofs.StoryLemmas.{noted_so_far, unplanned_so_far, unwritten, run_more, run_front, unmade, made_same, anew_same, read_is_no_work, fits_more, live_has_no_cause, never}

-- the commits and the floors of a journal that stays
pub same_commits : (before after : History) → after.journal ≡ before.journal → commits before.journal ≤ commits after.journal
same_commits before after journal = let same : commits after.journal ≡ commits before.journal = ap commits journal in omega (arith, same)

pub as_many : (schema : Schema) (s : Scene) → IsScene schema s → length s.aimed ≡ length s.settled
as_many schema s is = is.classes_aimed ∙ sym is.classes

pub comes : (schema : Schema) (manager : Manager) (before after : History) (slot : ℕ) (now : Progress) → IsSerial schema manager before → Comes before after slot now → IsSerial schema manager after
comes schema manager before after slot now serial move =
    turned_still schema manager before after slot None now move.turns serial (λ tx. no_mark tx now (λ t e. absurd (closed t e)))
    (floor_turned before after slot None (Some now) move.turns.turns (same_commits before after move.turns.journal.journal) (λ q t is open_one. absurd (closed t (let same : now ≡ q = (cc) in ap (λ (r : Progress). r.transaction) same ∙ open_one))))
    (λ many class p t is open_one unmarked latched plans. absurd (cc)) (makes_nothing None now nothing) here
  where
    closed : (t : Transaction) → now.transaction ≡ Some t → ⊥
    closed t e = let none : None ≡ Some t = sym move.transaction ∙ e in (cc)

    nothing : so_far now ≡ []
    nothing = nothing_so_far now move.done move.work

    free : (number : ℕ) → has_ended_since_leave before.journal (slot, number) ≡ false
    free = subst (IsSlot schema manager (scene_of before) slot) move.turns.turns.was_there (serial.slots slot)

    here : IsConnection schema manager (scene_of before) slot now
    here = record {
      place = move.place;
      ended = λ number e. never (has_ended_since_leave before.journal (slot, number)) (free number) e;
      anew = subst (MakesAnew (made_before before.journal)) (sym nothing) tt;
      drawn = subst (λ (d : List (Op × Reply)). AreDrawn before.drawn (made_in d)) (sym nothing) (λ class id e. absurd (cc));
      open_one = λ t e. absurd (closed t e);
    }

-- an open transaction that goes on, with another story, other work, latches or plan
going_on : (schema : Schema) (manager : Manager) (s : Scene) (p : Progress) (t : Transaction) (done : List (Op × Reply)) (work : Option Work) (latches : ℕ) (plans : Bool) → is_live p ≡ true → IsOpen schema manager s p t →
    IsGoingOn schema manager s (record p { done = done; work = work; latches = latches; plans = plans }) t → IsOpen schema manager s (record p { done = done; work = work; latches = latches; plans = plans }) t
going_on schema manager s p t done work latches plans live is on = record {
  number = is.number;
  begun = is.begun;
  unended = is.unended;
  committed = is.committed;
  goes_on = λ unmarked goes. on;
  rolls_back = λ why unmarked rolls. absurd (live_has_no_cause p why live rolls);
}

-- a connection whose story, work, latches or plan are others
goes_on : (schema : Schema) (manager : Manager) (s : Scene) (slot : ℕ) (p : Progress) (t : Transaction) (done : List (Op × Reply)) (work : Option Work) (latches : ℕ) (plans : Bool) → is_live p ≡ true → p.transaction ≡ Some t →
    IsConnection schema manager s slot p → MakesAnew (made_before s.journal) (done ++ done_by_plan work) → AreDrawn s.drawn (made_in (done ++ done_by_plan work)) →
    IsGoingOn schema manager s (record p { done = done; work = work; latches = latches; plans = plans }) t → IsConnection schema manager s slot (record p { done = done; work = work; latches = latches; plans = plans })
goes_on schema manager s slot p t done work latches plans live open_one is anew drawn on = record {
  place = is.place;
  ended = is.ended;
  anew = anew;
  drawn = drawn;
  open_one = λ u e. subst (IsOpen schema manager s (record p { done = done; work = work; latches = latches; plans = plans })) (let same : Some t ≡ Some u = sym open_one ∙ e in let is_one : t ≡ u = (cc) in is_one)
      (going_on schema manager s p t done work latches plans live (is.open_one t open_one) on);
}

-- what one's open transaction was
had : (was now : Progress) (n : ℕ) → now.transaction ≡ was.transaction → KeepsSnapshots n was now
had was now n same t open_one = inr (t, sym same ∙ open_one, refl)

-- a transaction that no version is of is shown what its snapshot shows
none_shown : (journal : List Entry) (marks : Marks) (versions : Versions) (tx : TxId) (snapshot : ℕ) → AreVersions journal marks versions → marks tx ≡ None → HasNone versions tx → shown marks snapshot (Some tx) versions ≡ shown marks snapshot None versions
none_shown journal marks versions tx snapshot kept unmarked none =
    shown_alike marks marks snapshot snapshot None (Some tx) versions (in_order journal marks versions kept) (λ class id. none_own_shown marks snapshot tx (chain_in versions class id) unmarked (none class id))

pub begin : (schema : Schema) (manager : Manager) (before after : History) (slot : ℕ) (k : Kind) → IsSerial schema manager before → Begins before after slot k → IsSerial schema manager after
begin schema manager before after slot k serial move =
    turned_still schema manager before after slot (Some was) now move.turns serial
    (λ tx. no_mark tx now (λ t e. let same : t0 ≡ t = (cc) in sym (ap (λ (u : Transaction). u.mark) same)) ∙ sym (no_mark tx was (λ t e. absurd (closed t e))))
    (floors_stay before after slot was now move.turns.turns (same_commits before after move.turns.journal.journal) (λ t e. inl (let same : t0 ≡ t = (cc) in let sees : commits before.journal ≡ t.snapshot = ap (λ (u : Transaction). u.snapshot) same in omega (arith, sees))))
    (λ many class. plan_stays was now class (λ t open_one unmarked latched plans. absurd (closed t open_one)))
    (λ object made. made)
    (record {
      place = is.place;
      ended = λ number e. let h = is.ended number e in omega (arith, h);
      anew = is.anew;
      drawn = is.drawn;
      open_one = λ t e. subst (IsOpen schema manager s now) (let same : t0 ≡ t = (cc) in same) opened;
    })
  where
    was : Progress
    was = move.was

    s : Scene
    s = scene_of before

    t0 : Transaction
    t0 = beginning (move.was.begun + 1) k (length before.journal) (commits before.journal)

    now : Progress
    now = begins k (length before.journal) (commits before.journal) move.latches move.was

    tx : TxId
    tx = record { conn = move.was.conn; number = move.was.begun + 1 }

    is : IsConnection schema manager (scene_of before) slot move.was
    is = connection_of schema manager before slot move.was serial move.turns.turns.was_there

    closed : (t : Transaction) → move.was.transaction ≡ Some t → ⊥
    closed t e = let none : None ≡ Some t = sym move.transaction ∙ e in (cc)

    unmarked : marks_of before.course (record { conn = move.was.conn; number = move.was.begun + 1 }) ≡ None
    unmarked = ap (λ (n : ℕ). mark_in tx (before.course n)) is.place ∙ ap (mark_in tx) move.turns.turns.was_there ∙ no_mark tx move.was (λ t e. absurd (closed t e))

    settled : view move.latches before.settled before.aimed ≡ before.settled
    settled = view_is move.latches before.settled before.aimed before.settled (as_many schema (scene_of before) serial.scene) refl (λ class e. sym (move.free class e)) (λ class e. refl)

    nothing : so_far move.was ≡ []
    nothing = nothing_so_far move.was move.done move.work

    shows : shown (marks_of before.course) (commits before.journal) (Some tx) (view move.latches before.settled before.aimed) ≡ fold schema before.journal (commits before.journal)
    shows = ap (shown (marks_of before.course) (commits before.journal) (Some tx)) settled
        ∙ none_shown before.journal (marks_of before.course) before.settled tx (commits before.journal) serial.scene.settled unmarked move.unnamed ∙ serial.scene.current

    on : IsGoingOn schema manager (scene_of before) now t0
    on = record {
      work = subst (λ (d : List (Op × Reply)). IsWork (marks_of before.course) (view move.latches before.settled before.aimed) tx (commits before.journal) d) (sym nothing)
          (no_work (marks_of before.course) (view move.latches before.settled before.aimed) tx (commits before.journal) unmarked (subst (λ (vs : Versions). HasNone vs tx) (sym settled) move.unnamed));
      runs = ap (run schema (fold schema before.journal (commits before.journal))) nothing ∙ ap Some (sym shows);
      unrefused = λ w e unplanned. absurd (let none : None ≡ Some w = sym move.work ∙ e in (cc));
      fits = subst (AllFit schema k) (sym nothing) (All-nil (λ (e : Op × Reply). Fits schema e.0 k));
      fits_work = λ w e. absurd (let none : None ≡ Some w = sym move.work ∙ e in (cc));
      sees_all = λ single writes. (refl, ap (shown (marks_of before.course) (commits before.journal) None) settled ∙ serial.scene.current);
    }

    opened : IsOpen schema manager (scene_of before) now t0
    opened = record {
      number = refl;
      begun = record {
        begun = omega arith;
        snapshot = sym (ap commits (take_all (length before.journal) before.journal (omega arith)));
        shows = serial.scene.current;
      };
      unended = λ none. new (has_ended_since_leave before.journal (move.was.conn.slot, move.was.begun + 1))
          (λ e. let h = is.ended (move.was.begun + 1) (subst (λ (n : ℕ). has_ended_since_leave before.journal (n, move.was.begun + 1) ≡ true) is.place e) in omega (arith, h));
      committed = λ commit e. absurd (cc);
      goes_on = λ none live. on;
      rolls_back = λ why none e. absurd (let no_cause : None ≡ Some why = sym move.cause ∙ e in (cc));
    }
      where
        new : (b : Bool) → (b ≡ true → ⊥) → b ≡ false
        new true no_end = absurd (no_end refl)
        new false no_end = refl

pub notes : (schema : Schema) (manager : Manager) (before after : History) (slot : ℕ) (o : Op) (told : Reply) → IsSerial schema manager before → Notes schema before after slot o told → IsSerial schema manager after
notes schema manager before after slot o told serial move =
    turned_still schema manager before after slot (Some move.was) now move.turns serial (λ tx. mark_by tx now ∙ sym (mark_by tx move.was))
    (floors_stay before after slot move.was now move.turns.turns (same_commits before after move.turns.journal.journal) (had move.was now (commits before.journal) refl))
    (λ many class. plan_stays move.was now class (λ t open_one unmarked latched plans. (open_one, refl, latched, plans)))
    (λ object made. subst (λ (m : List (ℕ × ℕ)). was_made m object ≡ true) made_is made)
    (goes_on schema manager (scene_of before) slot move.was t (move.was.done ++ (o, told) ∷ []) move.was.work move.was.latches move.was.plans move.free.live move.free.open_one is
    (subst (MakesAnew (made_before before.journal)) (sym longer) (anew_same (made_before before.journal) (so_far move.was) (o, told) (unmade o told move.writes_none) is.anew))
    (subst (AreDrawn before.drawn) (sym made_is) is.drawn) (record {
      work = subst (λ (d : List (Op × Reply)). IsWork (marks_of before.course) (view_in (scene_of before) move.was) (tx_of move.was t) t.snapshot d) (sym longer)
          (read_is_no_work (marks_of before.course) (view_in (scene_of before) move.was) (tx_of move.was t) t.snapshot (so_far move.was) o told move.writes_none on.work);
      runs = ap (run schema (fold schema before.journal t.snapshot)) longer ∙ run_more schema (fold schema before.journal t.snapshot) db (so_far move.was) o told on.runs move.answered
          ∙ ap Some (unwritten schema db o (ap (λ (r : Reply). written_by (o, r)) (sym move.answered) ∙ move.writes_none));
      unrefused = on.unrefused;
      fits = subst (AllFit schema t.kind) (sym longer) (fits_more schema t.kind (so_far move.was) (o, told) on.fits move.fits);
      fits_work = on.fits_work;
      sees_all = on.sees_all;
    }))
  where
    t : Transaction
    t = move.transaction

    now : Progress
    now = record move.was { done = move.was.done ++ (o, told) ∷ [] }

    db : Database
    db = shown_to (scene_of before) move.was move.transaction

    is : IsConnection schema manager (scene_of before) slot move.was
    is = connection_of schema manager before slot move.was serial move.turns.turns.was_there

    on : IsGoingOn schema manager (scene_of before) move.was move.transaction
    on = (is.open_one move.transaction move.free.open_one).goes_on move.free.unmarked move.free.live

    longer : (move.was.done ++ (o, told) ∷ []) ++ done_by_plan move.was.work ≡ so_far move.was ++ (o, told) ∷ []
    longer = noted_so_far move.was (o, told) move.free.work

    made_is : made_in ((move.was.done ++ (o, told) ∷ []) ++ done_by_plan move.was.work) ≡ made_in (so_far move.was)
    made_is = ap made_in longer ∙ made_same (so_far move.was) (o, told) (unmade o told move.writes_none)

-- the versions are seen the same with latches beside others, and without some, where what is aimed at there is settled
pub view_taken : (h : History) (was latches : ℕ) → length h.aimed ≡ length h.settled → TakesLatches h was latches → view latches h.settled h.aimed ≡ view was h.settled h.aimed
view_taken h was latches many takes = view_is latches h.settled h.aimed (view was h.settled h.aimed) many (length_view was 0 h.settled h.aimed) (λ class e. latched class e (holds was class) refl) (λ class e. free class e (holds was class) refl)
  where
    latched : (class : ℕ) → holds latches class ≡ true → (b : Bool) → holds was class ≡ b → objects_in (view was h.settled h.aimed) class ≡ objects_in h.aimed class
    latched class e true f = view_latched was h.settled h.aimed class many f
    latched class e false f = view_free was h.settled h.aimed class f ∙ sym (takes.free class e f)

    free : (class : ℕ) → holds latches class ≡ false → (b : Bool) → holds was class ≡ b → objects_in (view was h.settled h.aimed) class ≡ objects_in h.settled class
    free class e true f = never (holds latches class) e (takes.keeps class f)
    free class e false f = view_free was h.settled h.aimed class f

pub view_given : (h : History) (was latches : ℕ) → length h.aimed ≡ length h.settled → GivesLatches h was latches → view latches h.settled h.aimed ≡ view was h.settled h.aimed
view_given h was latches many gives = view_is latches h.settled h.aimed (view was h.settled h.aimed) many (length_view was 0 h.settled h.aimed) (λ class e. view_latched was h.settled h.aimed class many (gives.had_them class e)) (λ class e. free class e (holds was class) refl)
  where
    free : (class : ℕ) → holds latches class ≡ false → (b : Bool) → holds was class ≡ b → objects_in (view was h.settled h.aimed) class ≡ objects_in h.settled class
    free class e true f = view_latched was h.settled h.aimed class many f ∙ gives.given class f e
    free class e false f = view_free was h.settled h.aimed class f

-- what is so of a going transaction that sees the same
seeing_the_same : (schema : Schema) (manager : Manager) (s : Scene) (p : Progress) (t : Transaction) (done : List (Op × Reply)) (work : Option Work) (latches : ℕ) (plans : Bool) →
    view latches s.settled s.aimed ≡ view_in s p → done ++ done_by_plan work ≡ so_far p →
    ((w : Work) → work ≡ Some w → w.puts ≡ None → IsUnrefused schema (shown_to s p t) w.op) → ((w : Work) → work ≡ Some w → Fits schema w.op t.kind) →
    IsGoingOn schema manager s p t → IsGoingOn schema manager s (record p { done = done; work = work; latches = latches; plans = plans }) t
seeing_the_same schema manager s p t done work latches plans sees story unrefused fits on =
    let shown_same : shown s.marks t.snapshot (Some (tx_of p t)) (view latches s.settled s.aimed) ≡ shown_to s p t = ap (shown s.marks t.snapshot (Some (tx_of p t))) sees in record {
      work = subst (λ (vs : Versions). IsWork s.marks vs (tx_of p t) t.snapshot (done ++ done_by_plan work)) (sym sees) (subst (λ (d : List (Op × Reply)). IsWork s.marks (view_in s p) (tx_of p t) t.snapshot d) (sym story) on.work);
      runs = ap (run schema (fold schema s.journal t.snapshot)) story ∙ on.runs ∙ ap Some (sym shown_same);
      unrefused = λ w in_work unplanned. subst (λ (db : Database). IsUnrefused schema db w.op) (sym shown_same) (unrefused w in_work unplanned);
      fits = subst (AllFit schema t.kind) (sym story) on.fits;
      fits_work = fits;
      sees_all = λ single writes. let all = on.sees_all single writes in (all.0, ap (shown s.marks (commits s.journal) None) sees ∙ all.1);
    }

pub takes_work : (schema : Schema) (manager : Manager) (before after : History) (slot : ℕ) (work : Work) → IsSerial schema manager before → TakesWork schema before after slot work → IsSerial schema manager after
takes_work schema manager before after slot work serial move =
    turned_still schema manager before after slot (Some move.was) now move.turns serial (λ tx. mark_by tx now ∙ sym (mark_by tx move.was))
    (floors_stay before after slot move.was now move.turns.turns (same_commits before after move.turns.journal.journal) (had move.was now (commits before.journal) refl))
    (λ many class. plan_stays move.was now class (λ t open_one unmarked latched plans. (open_one, refl, move.takes.keeps class latched, plans)))
    (λ object made. subst (λ (d : List (Op × Reply)). was_made (made_in d) object ≡ true) story made)
    (goes_on schema manager (scene_of before) slot move.was t move.was.done (Some work) move.latches move.was.plans move.free.live move.free.open_one is
    (subst (MakesAnew (made_before before.journal)) (sym story) is.anew) (subst (λ (d : List (Op × Reply)). AreDrawn before.drawn (made_in d)) (sym story) is.drawn)
    (seeing_the_same schema manager (scene_of before) move.was t move.was.done (Some work) move.latches move.was.plans (view_taken before move.was.latches move.latches (as_many schema (scene_of before) serial.scene) move.takes) story
    (λ w e unplanned. subst (λ (v : Work). IsUnrefused schema (shown_to (scene_of before) move.was t) v.op) (is_it w e) move.unrefused) (λ w e. subst (λ (v : Work). Fits schema v.op t.kind) (is_it w e) move.fits) on))
  where
    t : Transaction
    t = move.transaction

    now : Progress
    now = record move.was { work = Some work; latches = move.latches }

    is_it : (w : Work) → Some work ≡ Some w → work ≡ w
    is_it w e = (cc)

    is : IsConnection schema manager (scene_of before) slot move.was
    is = connection_of schema manager before slot move.was serial move.turns.turns.was_there

    on : IsGoingOn schema manager (scene_of before) move.was move.transaction
    on = (is.open_one move.transaction move.free.open_one).goes_on move.free.unmarked move.free.live

    story : move.was.done ++ done_by_plan (Some work) ≡ so_far move.was
    story = unplanned_so_far move.was work move.free.work move.unplanned

pub finishes : (schema : Schema) (manager : Manager) (before after : History) (slot : ℕ) (version : CellRef) → IsSerial schema manager before → Finishes manager before after slot version → IsSerial schema manager after
finishes schema manager before after slot version serial move =
    turned_still schema manager before after slot (Some move.was) now move.turns serial (λ tx. mark_by tx now ∙ sym (mark_by tx move.was))
    (floors_stay before after slot move.was now move.turns.turns (same_commits before after move.turns.journal.journal) (had move.was now (commits before.journal) refl))
    (λ many class. plan_stays move.was now class (λ t open_one unmarked latched plans. never move.was.plans (move.written many) plans))
    (λ object made. subst (λ (d : List (Op × Reply)). was_made (made_in d) object ≡ true) story made)
    (goes_on schema manager (scene_of before) slot move.was t (so_far move.was) None move.latches false move.live move.open_one.open_one is
    (subst (MakesAnew (made_before before.journal)) (sym story) is.anew) (subst (λ (d : List (Op × Reply)). AreDrawn before.drawn (made_in d)) (sym story) is.drawn)
    (seeing_the_same schema manager (scene_of before) move.was t (so_far move.was) None move.latches false (view_given before move.was.latches move.latches (as_many schema (scene_of before) serial.scene) move.gives) story
    (λ w e unplanned. absurd (cc)) (λ w e. absurd (cc)) on))
  where
    t : Transaction
    t = move.transaction

    now : Progress
    now = record move.was { done = so_far move.was; work = None; plans = false; latches = move.latches }

    is : IsConnection schema manager (scene_of before) slot move.was
    is = connection_of schema manager before slot move.was serial move.turns.turns.was_there

    on : IsGoingOn schema manager (scene_of before) move.was move.transaction
    on = (is.open_one move.transaction move.open_one.open_one).goes_on move.open_one.unmarked move.live

    story : so_far move.was ++ done_by_plan None ≡ so_far move.was
    story = append-nil (so_far move.was)

pub rolls_back : (schema : Schema) (manager : Manager) (before after : History) (slot : ℕ) (why : Cause) → IsSerial schema manager before → RollsBack schema before after slot why → IsSerial schema manager after
rolls_back schema manager before after slot why serial move =
    turned_still schema manager before after slot (Some move.was) now move.turns serial (λ tx. mark_by tx now ∙ sym (mark_by tx move.was))
    (floors_stay before after slot move.was now move.turns.turns (same_commits before after move.turns.journal.journal) (had move.was now (commits before.journal) refl))
    (λ many class. plan_stays move.was now class (λ t open_one unmarked latched plans. (open_one, refl, latched, plans)))
    (λ object made. made)
    (record {
      place = is.place;
      ended = is.ended;
      anew = is.anew;
      drawn = is.drawn;
      open_one = λ u e. subst (IsOpen schema manager (scene_of before) now) (let same : Some t ≡ Some u = sym move.open_one.open_one ∙ e in let is_one : t ≡ u = (cc) in is_one) opened;
    })
  where
    t : Transaction
    t = move.transaction

    now : Progress
    now = record move.was { cause = Some why }

    is : IsConnection schema manager (scene_of before) slot move.was
    is = connection_of schema manager before slot move.was serial move.turns.turns.was_there

    was_open : IsOpen schema manager (scene_of before) move.was move.transaction
    was_open = is.open_one move.transaction move.open_one.open_one

    on : IsGoingOn schema manager (scene_of before) move.was move.transaction
    on = was_open.goes_on move.open_one.unmarked move.live

    stopped : (b : Bool) → (not b && false) ≡ true → ⊥
    stopped true e = (cc)
    stopped false e = (cc)

    runs : IsSome (run schema (fold schema before.journal move.transaction.snapshot) move.was.done)
    runs = run_front schema (fold schema before.journal move.transaction.snapshot) move.was.done (done_by_plan move.was.work) (ap is_some on.runs)

    opened : IsOpen schema manager (scene_of before) now t
    opened = record {
      number = was_open.number;
      begun = was_open.begun;
      unended = was_open.unended;
      committed = was_open.committed;
      goes_on = λ unmarked live. absurd (stopped move.was.condemned live);
      rolls_back = λ w unmarked e. subst (MayRollBack schema before.journal (story_with move.was t move.was.done)) (let same : why ≡ w = (cc) in same) (record { runs = runs; because = move.because });
    }

pub condemned : (schema : Schema) (manager : Manager) (before after : History) (slot : ℕ) → IsSerial schema manager before → IsCondemned before after slot → IsSerial schema manager after
condemned schema manager before after slot serial move =
    turned_still schema manager before after slot (Some move.was) now move.turns serial (λ tx. mark_by tx now ∙ sym (mark_by tx move.was))
    (floors_stay before after slot move.was now move.turns.turns (same_commits before after move.turns.journal.journal) (had move.was now (commits before.journal) refl))
    (λ many class. plan_stays move.was now class (λ t open_one unmarked latched plans. (open_one, refl, latched, plans)))
    (λ object made. made)
    (record {
      place = is.place;
      ended = is.ended;
      anew = is.anew;
      drawn = is.drawn;
      open_one = λ t e. opened t (is.open_one t e);
    })
  where
    now : Progress
    now = record move.was { condemned = true }

    is : IsConnection schema manager (scene_of before) slot move.was
    is = connection_of schema manager before slot move.was serial move.turns.turns.was_there

    opened : (t : Transaction) → IsOpen schema manager (scene_of before) move.was t → IsOpen schema manager (scene_of before) now t
    opened t was_open = record {
      number = was_open.number;
      begun = was_open.begun;
      unended = was_open.unended;
      committed = was_open.committed;
      goes_on = λ unmarked live. absurd (let no : false ≡ true = live in (cc));
      rolls_back = was_open.rolls_back;
    }
