-- Transactions that only read or roll back end, marks that no version needs go, and connections leave.
use Rattle.std.proofs.Common.{◌≡◌, ◌≢◌, inr, ℕ, ◌≤◌, Bool, true, false, ◌&&◌, ◌||◌, not, cond, List, [], ◌∷◌, ◌++◌, length, Option, Some, None, IsSome, is_some, nat_eq, refl, sym, ap, subst, ◌∙◌, arith, append-nil}
use Rattle.std.proofs.lemmas.Bool.Decides.{nat_tests}
use Rattle.rdb_base.specs.Entries.{is_commit}
use Rattle.rdb_base.specs.declared.identity.Kind.{Kind}
use Rattle.rdb_base.specs.declared.identity.Kind.TheVariants as kinds
use Rattle.rdb_base.specs.declared.identity.Manager.{Manager}
use Rattle.rdb_base.specs.declared.identity.TxId.{TxId}
use Rattle.rdb_base.specs.declared.operation.Op.{Op}
use Rattle.rdb_base.specs.declared.operation.Reply.{Reply}
use Rattle.rdb_base.specs.declared.journal.Story.{Story}
use Rattle.rdb_base.specs.declared.journal.Entry.{Entry}
use Rattle.rdb_base.specs.declared.journal.Entry.TheVariants as entry
use Rattle.rdb_schema.specs.declared.schema.Schema.{Schema}
use Rattle.rdb_registry.specs.declared.hand.Work.{Work}
use Rattle.rdb_registry.specs.declared.seat.Transaction.{Transaction}
use Rattle.rdb_sight.specs.Versions.{Versions, objects_in, shown}
use Rattle.rdb_model.specs.declared.legality.Span.TheVariants as span
use Rattle.rdb_model.specs.Fits.{AllFit}
use Rattle.rdb_model.specs.Story.{run}
use Rattle.rdb_model.specs.Journal.{commits, fold, ended as ended_by, ends, takes_leave, has_ended_since_leave, made_in, made_before}
use Rattle.rdb_model.specs.Parts.{IsLegalInStretches}
use Rattle.rdb_model.specs.Validation.{MakesAnew}
use Rattle.rdb_model.proofs.EndingLemmas.{since_push}
use Rattle.rdb_model.proofs.KeptLaw.{read_keeps, abort_keeps, handled_keeps, closed_keeps}
use Rattle.rdb_history.proofs.GrowthLemmas.{no_more_commits}
use Rattle.rdb_shown.specs.Kept.{AreVersions}
use Rattle.rdb_shown.specs.Changes.{HasNone, IsUnmarked}
use Rattle.rdb_shown.proofs.KeptLemmas.{in_order}
use Rattle.rdb_shown.proofs.MarkLemmas.{unused_shown, unused_kept, unused_work}
use Rattle.rdb_serial.specs.Progress.{Progress, tx_of, done_by_plan, so_far, story_with, mark_in, marks_of}
use Rattle.rdb_serial.specs.Histories.{History, Scene, scene_of, view_in}
use Rattle.rdb_serial.specs.Serial.{IsAbortAllowed, AreDrawn, IsOpen, IsGoingOn, IsConnection, IsSlot, IsSerial}
use Rattle.rdb_serial.specs.Moves.{OnlyTurns, Enters, ended, EndsRead, EndsRolledBack, IsUnused, EndsCommitted, Closes, IsHandled}
use Rattle.rdb_serial.proofs.ViewLemmas.{view_either}
use Rattle.rdb_serial.proofs.ClassLemmas.{kept_either, none_either}
use Rattle.rdb_serial.proofs.ProgressLemmas.{no_mark, marks_same, marks_less, apart_txs}
use Rattle.rdb_serial.proofs.CarryLemmas.{Carries, carried}
use Rattle.rdb_serial.proofs.TurnLemmas.{MakesNoMore, apart_turned, turned, KeepsPlan, floor_turned}
use Rattle.rdb_serial.proofs.StillLemmas.{agrees_turned, nothing_so_far, makes_nothing, turned_still, connection_of}
use Rattle.rdb_serial.proofs.StoryLemmas.{run_front, never}
use Rattle.rdb_serial.proofs.StoryMoves.{as_many}
use Rattle.rdb_serial.proofs.EntryLemmas.{ended_before, unended_still, ends_others, ends_own, carries_entry, scene_entered, placed}

-- the other connections, the stories and the classes, as an entry is appended that is no commit and only of the slot's client
module _ (schema : Schema) (manager : Manager) (before after : History) (slot : ℕ) (was : Progress) (now : Option Progress) (e : Entry) (enters : Enters before after slot (Some was) now e)
    (serial : IsSerial schema manager before) (other_kind : is_commit e ≡ false) (others : (other number : ℕ) → other ≢ slot → ends (other, number) e ≡ false) (plans : (class : ℕ) → KeepsPlan (Some was) now class)
    (closed : (q : Progress) (t : Transaction) → now ≡ Some q → q.transaction ≡ Some t → ⊥) (no_more : MakesNoMore (Some was) now) (marks : (tx : TxId) → mark_in tx now ≡ mark_in tx (Some was)) where
  entered_scene : scene_of after ≡ record (scene_of before) { journal = before.journal ++ e ∷ [] }
  entered_scene =
      let same = marks_same before.course after.course slot enters.turns.others (λ tx. ap (mark_in tx) enters.turns.is_there ∙ marks tx ∙ sym (ap (mark_in tx) enters.turns.was_there)) in
      λ i. record { journal = enters.entered i; marks = same i; drawn = enters.drawn i; settled = enters.versions.settled i; aimed = enters.versions.aimed i }

  entered : IsLegalInStretches schema (before.journal ++ e ∷ []) → IsAbortAllowed schema before.journal e → ((story : Story) → e ≡ entry.Read story → AllFit schema kinds.ReadOnly story.done) →
      IsSlot schema manager (record (scene_of before) { journal = before.journal ++ e ∷ [] }) slot now → IsSerial schema manager after
  entered law allowed reads here =
      turned schema manager before after (record (scene_of before) { journal = before.journal ++ e ∷ [] }) slot (Some was) now enters.turns entered_scene serial
      (scene_entered schema manager (scene_of before) e other_kind serial.scene law allowed reads)
      (λ other p differs there is. carried schema manager (scene_of before) (record (scene_of before) { journal = before.journal ++ e ∷ [] }) other p (carries_entry schema manager (scene_of before) e other_kind other p (λ number. others other number differs)) is)
      (λ other number differs free. unended_still before.journal e (other, number) (others other number differs) free)
      here
      (apart_turned before.course after.course slot enters.turns.others more serial.apart)
      (agrees_turned manager before after slot (Some was) now enters.turns
      (floor_turned before after slot (Some was) now enters.turns (let same : commits after.journal ≡ commits before.journal = ap commits enters.entered ∙ no_more_commits before.journal e other_kind in omega (arith, same))
      (λ q t is open_one. absurd (closed q t is open_one)))
      (ap (λ (vs : Versions). length vs) enters.versions.settled)
      (λ many class. inr (record { keeps = plans class; settled = ap (λ (vs : Versions). objects_in vs class) enters.versions.settled; aimed = ap (λ (vs : Versions). objects_in vs class) enters.versions.aimed }))
      serial.agrees)
    where
      more : MakesNoMore (before.course slot) (after.course slot)
      more = subst (λ (o : Option Progress). MakesNoMore o (after.course slot)) (sym enters.turns.was_there) (subst (λ (o : Option Progress). MakesNoMore (Some was) o) (sym enters.turns.is_there) no_more)

-- a plan that isn't there needn't be kept
no_plan : (was : Progress) (now : Option Progress) (class : ℕ) → was.plans ≡ false → KeepsPlan (Some was) now class
no_plan was now class none p t is open_one unmarked latched plans = let same : was ≡ p = (cc) in never was.plans none (ap (λ (r : Progress). r.plans) same ∙ plans)

not_open : (latches : ℕ) (was : Progress) (q : Progress) (t : Transaction) → Some (ended latches was) ≡ Some q → q.transaction ≡ Some t → ⊥
not_open latches was q t is open_one = let same : ended latches was ≡ q = (cc) in let none : None ≡ Some t = ap (λ (r : Progress). r.transaction) same ∙ open_one in (cc)

pub story_of_none : (p : Progress) → p.work ≡ None → so_far p ≡ p.done
story_of_none p none = ap (λ (w : Option Work). p.done ++ done_by_plan w) none ∙ append-nil p.done

-- a connection whose transaction an entry ended
ended_connection : (schema : Schema) (manager : Manager) (s : Scene) (slot latches : ℕ) (was : Progress) (t : Transaction) (e : Entry) → IsConnection schema manager s slot was → was.transaction ≡ Some t → was.work ≡ None → is_commit e ≡ false →
    ended_by e ≡ Some (was.conn.slot, t.number) → IsConnection schema manager (record s { journal = s.journal ++ e ∷ [] }) slot (ended latches was)
ended_connection schema manager s slot latches was t e is open_one no_work other_kind of_it = record {
  place = is.place;
  ended = λ number has. go number (ends (slot, number) e) refl has;
  anew = subst (MakesAnew (made_before (s.journal ++ e ∷ []))) (sym nothing) tt;
  drawn = subst (λ (d : List (Op × Reply)). AreDrawn s.drawn (made_in d)) (sym nothing) (λ class id made. absurd (cc));
  open_one = λ u none. absurd (cc);
}
  where
    nothing : so_far (ended latches was) ≡ []
    nothing = nothing_so_far (ended latches was) refl no_work

    go : (number : ℕ) (b : Bool) → ends (slot, number) e ≡ b → has_ended_since_leave (s.journal ++ e ∷ []) (slot, number) ≡ true → number ≤ was.begun
    go number true f has =
        let same : t.number ≡ number = ends_own e was.conn.slot t.number number of_it (ap (λ (k : ℕ). ends (k, number) e) is.place ∙ f) in
        let mine = (is.open_one t open_one).number in
        omega (arith, same, mine)
    go number false f has = is.ended number (ended_before s.journal e (slot, number) f has)

pub ends_read : (schema : Schema) (manager : Manager) (before after : History) (slot : ℕ) → IsSerial schema manager before → EndsRead before after slot → IsSerial schema manager after
ends_read schema manager before after slot serial move =
    entered schema manager before after slot move.was (Some (ended move.latches move.was)) (entry.Read story) move.enters serial refl
    (λ other number differs. ends_others (entry.Read story) move.was.conn.slot t.number refl other number (λ same. differs (same ∙ is.place)))
    (λ class. no_plan move.was (Some (ended move.latches move.was)) class move.rest.plans) (not_open move.latches move.was)
    (makes_nothing (Some move.was) (ended move.latches move.was) (nothing_so_far (ended move.latches move.was) refl move.rest.work))
    (λ tx. no_mark tx (ended move.latches move.was) (λ u none. absurd (cc)) ∙ sym (no_mark tx move.was (λ u open_one. unmarked u open_one)))
    (read_keeps span.Stretch schema before.journal story serial.scene.law (was_open.unended move.free.unmarked) (placed schema (scene_of before) move.was t move.was.done was_open.begun) runs
    (subst (MakesAnew (made_before before.journal)) done_is is.anew))
    tt
    (λ u same. subst (λ (d : List (Op × Reply)). AllFit schema kinds.ReadOnly d) (let one : story ≡ u = (cc) in ap (λ (v : Story). v.done) one) (subst (λ (d : List (Op × Reply)). AllFit schema kinds.ReadOnly d) done_is (subst (λ (k : Kind). AllFit schema k (so_far move.was)) move.reads on.fits)))
    (ended_connection schema manager (scene_of before) slot move.latches move.was t (entry.Read story) is move.free.open_one move.rest.work refl refl)
  where
    t : Transaction
    t = move.transaction

    story : Story
    story = story_with move.was move.transaction move.was.done

    is : IsConnection schema manager (scene_of before) slot move.was
    is = connection_of schema manager before slot move.was serial move.enters.turns.was_there

    was_open : IsOpen schema manager (scene_of before) move.was move.transaction
    was_open = is.open_one move.transaction move.free.open_one

    on : IsGoingOn schema manager (scene_of before) move.was move.transaction
    on = was_open.goes_on move.free.unmarked move.free.live

    done_is : so_far move.was ≡ move.was.done
    done_is = story_of_none move.was move.rest.work

    unmarked : (u : Transaction) → move.was.transaction ≡ Some u → u.mark ≡ None
    unmarked u open_one = let same : Some move.transaction ≡ Some u = sym move.free.open_one ∙ open_one in let one : move.transaction ≡ u = (cc) in sym (ap (λ (v : Transaction). v.mark) one) ∙ move.free.unmarked

    runs : IsSome (run schema (fold schema before.journal move.transaction.snapshot) move.was.done)
    runs = run_front schema (fold schema before.journal move.transaction.snapshot) move.was.done (done_by_plan move.was.work) (ap is_some on.runs)

pub ends_rolled_back : (schema : Schema) (manager : Manager) (before after : History) (slot : ℕ) → IsSerial schema manager before → EndsRolledBack before after slot → IsSerial schema manager after
ends_rolled_back schema manager before after slot serial move =
    entered schema manager before after slot move.was (Some (ended move.latches move.was)) (entry.Abort story move.why) move.enters serial refl
    (λ other number differs. ends_others (entry.Abort story move.why) move.was.conn.slot t.number refl other number (λ same. differs (same ∙ is.place)))
    (λ class. no_plan move.was (Some (ended move.latches move.was)) class move.rest.plans) (not_open move.latches move.was)
    (makes_nothing (Some move.was) (ended move.latches move.was) (nothing_so_far (ended move.latches move.was) refl move.rest.work))
    (λ tx. no_mark tx (ended move.latches move.was) (λ u none. absurd (cc)) ∙ sym (no_mark tx move.was (λ u open_one. unmarked u open_one)))
    (abort_keeps span.Stretch schema before.journal story move.why serial.scene.law (was_open.unended move.open_one.unmarked) (placed schema (scene_of before) move.was t move.was.done was_open.begun))
    (was_open.rolls_back move.why move.open_one.unmarked move.cause)
    (λ u same. absurd (cc))
    (ended_connection schema manager (scene_of before) slot move.latches move.was t (entry.Abort story move.why) is move.open_one.open_one move.rest.work refl refl)
  where
    t : Transaction
    t = move.transaction

    story : Story
    story = story_with move.was move.transaction move.was.done

    is : IsConnection schema manager (scene_of before) slot move.was
    is = connection_of schema manager before slot move.was serial move.enters.turns.was_there

    was_open : IsOpen schema manager (scene_of before) move.was move.transaction
    was_open = is.open_one move.transaction move.open_one.open_one

    unmarked : (u : Transaction) → move.was.transaction ≡ Some u → u.mark ≡ None
    unmarked u open_one = let same : Some move.transaction ≡ Some u = sym move.open_one.open_one ∙ open_one in let one : move.transaction ≡ u = (cc) in sym (ap (λ (v : Transaction). v.mark) one) ∙ move.open_one.unmarked

-- leave is taken of a connection without an open transaction
leaves : (schema : Schema) (manager : Manager) (before after : History) (slot : ℕ) (was : Progress) (e : Entry) → IsSerial schema manager before → was.transaction ≡ None → Enters before after slot (Some was) None e →
    is_commit e ≡ false → ((tx : ℕ × ℕ) → ends tx e ≡ false) → takes_leave slot e ≡ true → IsLegalInStretches schema (before.journal ++ e ∷ []) → IsAbortAllowed schema before.journal e → ((story : Story) → e ≡ entry.Read story → ⊥) → IsSerial schema manager after
leaves schema manager before after slot was e serial none enters other_kind ends_none leaves_it law allowed no_read =
    entered schema manager before after slot was None e enters serial other_kind (λ other number differs. ends_none (other, number))
    (λ class p t is open_one unmarked latched plans. let same : was ≡ p = (cc) in absurd (closed t (ap (λ (r : Progress). r.transaction) same ∙ open_one)))
    (λ q t is open_one. absurd (cc)) (λ object made. absurd (let no : false ≡ true = made in (cc))) (λ tx. sym (no_mark tx was (λ u open_one. absurd (closed u open_one))))
    law allowed (λ story same. absurd (no_read story same)) (λ number. since_push before.journal e (slot, number) ∙ go (ends (slot, number) e) (has_ended_since_leave before.journal (slot, number)) (takes_leave slot e) (ends_none (slot, number)) leaves_it)
  where
    closed : (t : Transaction) → was.transaction ≡ Some t → ⊥
    closed t open_one = let no : None ≡ Some t = sym none ∙ open_one in (cc)

    go : (a b c : Bool) → a ≡ false → c ≡ true → (a || (b && not c)) ≡ false
    go true b c e f = e
    go false true true e f = refl
    go false true false e f = (cc)
    go false false c e f = refl

itself : (n : ℕ) → nat_eq n n ≡ true
itself n = grind (arith, nat_tests)

pub closes : (schema : Schema) (manager : Manager) (before after : History) (slot : ℕ) → IsSerial schema manager before → Closes before after slot → IsSerial schema manager after
closes schema manager before after slot serial move =
    leaves schema manager before after slot move.was (entry.Closed slot) serial move.transaction move.enters refl (λ tx. refl) (itself slot)
    (closed_keeps span.Stretch schema before.journal slot serial.scene.law refl) tt (λ story same. (cc))

-- a mark that no version needs is taken away, with its transaction
unmarks : (schema : Schema) (manager : Manager) (before after : History) (slot latches : ℕ) (was : Progress) (t0 : Transaction) → IsSerial schema manager before → OnlyTurns before after slot (Some was) (Some (record (ended latches was) { work = None })) →
    was.transaction ≡ Some t0 → was.plans ≡ false → IsUnused before was t0 → IsSerial schema manager after
unmarks schema manager before after slot latches was t0 serial turns open_was plans unused =
    turned schema manager before after (record (scene_of before) { marks = marks_of after.course }) slot (Some was) (Some now) turns.turns
    (λ i. record { journal = turns.journal.journal i; marks = marks_of after.course; drawn = turns.journal.drawn i; settled = turns.versions.settled i; aimed = turns.versions.aimed i })
    serial
    (record {
      law = serial.scene.law;
      aborts = serial.scene.aborts;
      reads = serial.scene.reads;
      drawn = serial.scene.drawn;
      settled = unused_kept before.journal (marks_of before.course) (marks_of after.course) before.settled tx unmarked unused.settled serial.scene.settled;
      aimed = unused_kept before.journal (marks_of before.course) (marks_of after.course) before.aimed tx unmarked unused.aimed serial.scene.aimed;
      classes = serial.scene.classes;
      classes_aimed = serial.scene.classes_aimed;
      current = shown_same before.settled (commits before.journal) None serial.scene.settled unused.settled ∙ serial.scene.current;
    })
    (λ other p differs there is_other. carried schema manager (scene_of before) (record (scene_of before) { marks = marks_of after.course }) other p (carries other p differs is_other.place) is_other)
    (λ other number differs free. free)
    (record {
      place = is.place;
      ended = is.ended;
      anew = subst (MakesAnew (made_before before.journal)) (sym nothing) tt;
      drawn = subst (λ (d : List (Op × Reply)). AreDrawn before.drawn (made_in d)) (sym nothing) (λ class id made. absurd (cc));
      open_one = λ u none. absurd (cc);
    })
    (apart_turned before.course after.course slot turns.turns.others
    (subst (λ (o : Option Progress). MakesNoMore (before.course slot) o) (sym turns.turns.is_there) (makes_nothing (before.course slot) now nothing)) serial.apart)
    (agrees_turned manager before after slot (Some was) (Some now) turns.turns
    (floor_turned before after slot (Some was) (Some now) turns.turns (let same : commits after.journal ≡ commits before.journal = ap commits turns.journal.journal in omega (arith, same)) (λ q t is_it open_one. absurd (not_now q t is_it open_one)))
    (ap (λ (vs : Versions). length vs) turns.versions.settled)
    (λ many class. inr (record {
      keeps = no_plan was (Some now) class plans;
      settled = ap (λ (vs : Versions). objects_in vs class) turns.versions.settled;
      aimed = ap (λ (vs : Versions). objects_in vs class) turns.versions.aimed;
    }))
    serial.agrees)
  where
    now : Progress
    now = record (ended latches was) { work = None }

    not_now : (q : Progress) (t : Transaction) → Some (record (ended latches was) { work = None }) ≡ Some q → q.transaction ≡ Some t → ⊥
    not_now q t is_it open_one = let same : now ≡ q = (cc) in let none : None ≡ Some t = ap (λ (r : Progress). r.transaction) same ∙ open_one in (cc)

    tx : TxId
    tx = tx_of was t0

    is : IsConnection schema manager (scene_of before) slot was
    is = connection_of schema manager before slot was serial turns.turns.was_there

    nothing : so_far (record (ended latches was) { work = None }) ≡ []
    nothing = refl

    unmarked : IsUnmarked (marks_of before.course) (marks_of after.course) (tx_of was t0)
    unmarked = marks_less before.course after.course slot turns.turns.others was t0 turns.turns.was_there is.place open_was
        (λ x. ap (mark_in x) turns.turns.is_there ∙ no_mark x now (λ u none. absurd (cc)))

    shown_same : (versions : Versions) (snapshot : ℕ) (reader : Option TxId) → AreVersions before.journal (marks_of before.course) versions → HasNone versions (tx_of was t0) →
        shown (marks_of after.course) snapshot reader versions ≡ shown (marks_of before.course) snapshot reader versions
    shown_same versions snapshot reader kept none = unused_shown (marks_of before.course) (marks_of after.course) versions tx snapshot reader (in_order before.journal (marks_of before.course) versions kept) unmarked none

    carries : (other : ℕ) (p : Progress) → other ≢ slot → p.conn.slot ≡ other → Carries schema manager (scene_of before) (record (scene_of before) { marks = marks_of after.course }) other p
    carries other p differs place = record {
      more = [];
      journal = sym (append-nil before.journal);
      shows = λ t open_one begun. shown_same before.settled t.snapshot None serial.scene.settled unused.settled;
      mine = λ t open_one begun none live. shown_same (view_in (scene_of before) p) t.snapshot (Some (tx_of p t)) view_kept view_none;
      work = λ t open_one begun none live work. unused_work (marks_of before.course) (marks_of after.course) (view_in (scene_of before) p) tx (tx_of p t) t.snapshot (so_far p) unmarked view_none (apart_txs p was t t0 (λ same. differs (sym place ∙ same ∙ is.place))) work;
      sees_all = λ t open_one begun none live sees single writes. let all = sees single writes in (all.0, shown_same (view_in (scene_of before) p) (commits before.journal) None view_kept view_none ∙ all.1);
      anew = λ anew. anew;
      drawn = λ class. omega arith;
      ended = λ number has. has;
    }
      where
        view_kept : AreVersions before.journal (marks_of before.course) (view_in (scene_of before) p)
        view_kept = kept_either before.journal (marks_of before.course) (view_in (scene_of before) p) before.aimed before.settled (λ class. view_either p.latches before.settled before.aimed class (as_many schema (scene_of before) serial.scene)) serial.scene.aimed serial.scene.settled

        view_none : HasNone (view_in (scene_of before) p) (tx_of was t0)
        view_none = none_either (view_in (scene_of before) p) before.aimed before.settled tx (λ class. view_either p.latches before.settled before.aimed class (as_many schema (scene_of before) serial.scene)) unused.aimed unused.settled

-- the unmarked transaction of a connection is forgotten
forgets : (schema : Schema) (manager : Manager) (before after : History) (slot latches : ℕ) (was : Progress) → IsSerial schema manager before → OnlyTurns before after slot (Some was) (Some (record (ended latches was) { work = None })) →
    ((t : Transaction) → was.transaction ≡ Some t → t.mark ≡ None) → was.plans ≡ false → IsSerial schema manager after
forgets schema manager before after slot latches was serial turns unmarked plans =
    turned_still schema manager before after slot (Some was) now turns serial (λ tx. no_mark tx now (λ u none. absurd (cc)) ∙ sym (no_mark tx was unmarked))
    (floor_turned before after slot (Some was) (Some now) turns.turns (let same : commits after.journal ≡ commits before.journal = ap commits turns.journal.journal in omega (arith, same))
    (λ q t is_it open_one. let same : now ≡ q = (cc) in let none : None ≡ Some t = ap (λ (r : Progress). r.transaction) same ∙ open_one in absurd (cc)))
    (λ many class. no_plan was (Some now) class plans) (makes_nothing (Some was) now refl)
    (record {
      place = is.place;
      ended = is.ended;
      anew = tt;
      drawn = λ class id made. absurd (cc);
      open_one = λ u none. absurd (cc);
    })
  where
    now : Progress
    now = record (ended latches was) { work = None }

    is : IsConnection schema manager (scene_of before) slot was
    is = connection_of schema manager before slot was serial turns.turns.was_there

pub ends_committed : (schema : Schema) (manager : Manager) (before after : History) (slot commit : ℕ) → IsSerial schema manager before → EndsCommitted before after slot commit → IsSerial schema manager after
ends_committed schema manager before after slot commit serial move =
    unmarks schema manager before after slot move.latches move.was move.transaction serial
    (record {
      turns = record {
        was_there = move.turns.turns.was_there;
        is_there = move.turns.turns.is_there ∙ (λ i. Some (record (ended move.latches move.was) { work = move.rest.work i }));
        others = move.turns.turns.others;
      };
      journal = move.turns.journal;
      versions = move.turns.versions;
    })
    move.open_one move.rest.plans move.unused

-- leave is taken of a connection whose transaction, if one is open, is forgotten first
pub handled : (schema : Schema) (manager : Manager) (before after : History) (slot by at : ℕ) (finished : Bool) → IsSerial schema manager before → IsHandled before after slot by at finished → IsSerial schema manager after
handled schema manager before after slot by at finished serial move = go move.was.transaction refl
  where
    left : Progress
    left = record (ended 0 move.was) { work = None }

    mid : History
    mid = record before { course = λ other. cond (nat_eq other slot) (Some left) (before.course other) }

    here : cond (nat_eq slot slot) (Some left) (before.course slot) ≡ Some left
    here = ap (λ (b : Bool). cond b (Some left) (before.course slot)) (itself slot)

    there : (other : ℕ) → other ≢ slot → cond (nat_eq other slot) (Some left) (before.course other) ≡ before.course other
    there other differs = ap (λ (b : Bool). cond b (Some left) (before.course other)) (let apart : nat_eq other slot ≡ false = grind (arith, nat_tests) in apart)

    forgetting : OnlyTurns before mid slot (Some move.was) (Some left)
    forgetting = record {
      turns = record { was_there = move.enters.turns.was_there; is_there = here; others = there };
      journal = record { journal = refl; drawn = refl };
      versions = record { settled = refl; aimed = refl };
    }

    leaving : Enters mid after slot (Some left) None (entry.Handled slot by at finished)
    leaving = record {
      turns = record {
        was_there = here;
        is_there = move.enters.turns.is_there;
        others = λ other differs. move.enters.turns.others other differs ∙ sym (there other differs);
      };
      entered = move.enters.entered;
      drawn = move.enters.drawn;
      versions = record { settled = move.enters.versions.settled; aimed = move.enters.versions.aimed };
    }

    leave : IsSerial schema manager mid → IsSerial schema manager after
    leave serial_mid =
        leaves schema manager mid after slot left (entry.Handled slot by at finished) serial_mid refl leaving refl (λ tx. refl) (itself slot)
        (handled_keeps span.Stretch schema before.journal slot by at finished serial.scene.law refl) tt (λ story same. (cc))

    at_mark : (t : Transaction) → move.was.transaction ≡ Some t → (o : Option ℕ) → t.mark ≡ o → IsSerial schema manager after
    at_mark t open_one None e =
        leave (forgets schema manager before mid slot 0 move.was serial forgetting
        (λ u other. let same : Some t ≡ Some u = sym open_one ∙ other in let one : t ≡ u = (cc) in sym (ap (λ (v : Transaction). v.mark) one) ∙ e) move.plans)
    at_mark t open_one (Some commit) e = leave (unmarks schema manager before mid slot 0 move.was t serial forgetting open_one move.plans (move.unused t commit open_one e))

    go : (o : Option Transaction) → move.was.transaction ≡ o → IsSerial schema manager after
    go None e = leave (forgets schema manager before mid slot 0 move.was serial forgetting (λ u other. let same : None ≡ Some u = sym e ∙ other in absurd (cc)) move.plans)
    go (Some t) e = at_mark t e t.mark refl
