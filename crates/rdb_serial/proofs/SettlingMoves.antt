-- The last cell of a plan is written where many may write: what its connection aims at is settled, and others see what they saw.
use Rattle.std.proofs.Common.{◌≡◌, ◌≢◌, ◌⊎◌, inl, inr, ℕ, ◌<◌, ◌≤◌, Bool, true, false, List, [], length, Option, Some, None, refl, sym, ap, subst, ◌∙◌, arith, append-nil, length-set}
use Rattle.rdb_base.specs.declared.identity.Manager.{Manager}
use Rattle.rdb_base.specs.declared.identity.Manager.TheVariants as managers
use Rattle.rdb_base.specs.declared.identity.TxId.{TxId}
use Rattle.rdb_base.specs.declared.operation.Op.{Op}
use Rattle.rdb_base.specs.declared.operation.Reply.{Reply}
use Rattle.rdb_base.specs.declared.journal.Entry.{Entry}
use Rattle.rdb_schema.specs.declared.schema.Schema.{Schema}
use Rattle.rdb_registry.specs.declared.seat.Transaction.{Transaction}
use Rattle.rdb_sight.specs.Versions.{Versions, objects_in, rows_shown, shown}
use Rattle.rdb_model.specs.Journal.{commits}
use Rattle.rdb_shown.specs.Kept.{AreVersions, IsWork}
use Rattle.rdb_serial.specs.Progress.{Progress, Course, tx_of, holds, so_far, mark_in, marks_of}
use Rattle.rdb_serial.specs.Histories.{History, Scene, scene_of, view, AreSameIn, with_class, IsFloor, IsOneChange, IsPlanned, AreHeldOnce}
use Rattle.rdb_serial.specs.Serial.{IsScene, IsGoingOn, IsOpen, IsConnection, IsSerial}
use Rattle.rdb_serial.specs.Moves.{Settles, WritesOut}
use Rattle.rdb_serial.proofs.ViewLemmas.{length_view, view_latched, view_free, view_either, views_are_one, class_here, class_elsewhere}
use Rattle.rdb_serial.proofs.ClassLemmas.{shown_by_class, class_shown, WorkIn, work_in, work_by_class, kept_either}
use Rattle.rdb_serial.proofs.ProgressLemmas.{mark_by, marks_same, apart_txs}
use Rattle.rdb_serial.proofs.ChangeLemmas.{change_shown, change_work, change_there, moved_change}
use Rattle.rdb_serial.proofs.CarryLemmas.{Carries, carried}
use Rattle.rdb_serial.proofs.TurnLemmas.{apart_turned, turned}
use Rattle.rdb_serial.proofs.StillLemmas.{StaysIn, floors_stay, plan_stays, agrees_turned, turned_still, connection_of}
use Rattle.rdb_serial.proofs.StoryLemmas.{never}
use Rattle.rdb_serial.proofs.StoryMoves.{as_many, same_commits}
use Rattle.rdb_serial.proofs.PlanMoves.{mark_here}
use Rattle.rdb_serial.proofs.GivingMoves.{same_made}

-- what is so of a connection rests on no plan of it
pub plans_unsaid : (schema : Schema) (manager : Manager) (s : Scene) (slot : ℕ) (p : Progress) (plans : Bool) → IsConnection schema manager s slot p → IsConnection schema manager s slot (record p { plans = plans })
plans_unsaid schema manager s slot p plans is = record {
  place = is.place;
  ended = is.ended;
  anew = is.anew;
  drawn = is.drawn;
  open_one = λ t e. opened t (is.open_one t e);
}
  where
    going : (t : Transaction) → IsGoingOn schema manager s p t → IsGoingOn schema manager s (record p { plans = plans }) t
    going t on = record {
      work = on.work;
      runs = on.runs;
      unrefused = on.unrefused;
      fits = on.fits;
      fits_work = on.fits_work;
      sees_all = on.sees_all;
    }

    opened : (t : Transaction) → IsOpen schema manager s p t → IsOpen schema manager s (record p { plans = plans }) t
    opened t was_open = record {
      number = was_open.number;
      begun = was_open.begun;
      unended = was_open.unended;
      committed = was_open.committed;
      goes_on = λ unmarked live. going t (was_open.goes_on unmarked live);
      rolls_back = was_open.rolls_back;
    }

pub writes_out : (schema : Schema) (manager : Manager) (before after : History) (slot : ℕ) → IsSerial schema manager before → WritesOut manager before after slot → IsSerial schema manager after
writes_out schema manager before after slot serial move =
    turned_still schema manager before after slot (Some move.was) (record move.was { plans = false }) move.turns serial (λ x. mark_by x (record move.was { plans = false }) ∙ sym (mark_by x move.was))
    (floors_stay before after slot move.was (record move.was { plans = false }) move.turns.turns (same_commits before after move.turns.journal.journal) (λ t open_one. inr (t, open_one, refl)))
    (λ many class. plan_stays move.was (record move.was { plans = false }) class (λ t open_one unmarked held plans. absurd (let both : managers.Mvcc ≡ managers.Mursiw = sym many ∙ move.single in (cc))))
    (λ object made. made)
    (plans_unsaid schema manager (scene_of before) slot move.was false (connection_of schema manager before slot move.was serial move.turns.turns.was_there))

-- what becomes of a class of versions: it stays, or a connection's one change there is made
abbrev BecomesIn : List Entry → Course → Progress → Versions → Versions → ℕ → Type 0
BecomesIn journal course was versions now class =
    AreSameIn class now versions
    ⊎ ((t : Transaction) × (was.transaction ≡ Some t) × (t.mark ≡ None) × IsOneChange journal course (tx_of was t) versions (with_class versions class now) class)

module _ (schema : Schema) (before after : History) (slot : ℕ) (serial : IsSerial schema managers.Mvcc before) (once : AreHeldOnce before.course) (move : Settles before after slot) where
  -- each class of versions that has the settled objects
  becomes : (class : ℕ) (versions : Versions) → length versions ≡ length before.settled → AreSameIn class versions before.settled → BecomesIn before.journal before.course move.was versions after.settled class
  becomes class versions many same = go (holds move.was.latches class) refl
    where
      at : holds move.was.latches class ≡ true → AreSameIn class before.aimed before.settled ⊎ IsPlanned before.journal before.course before.settled before.aimed class
          → BecomesIn before.journal before.course move.was versions after.settled class
      at held (inl aims) = inl (move.settled.latched class held ∙ aims ∙ sym same)
      at held (inr planned) =
          let is : planned.slot ≡ slot = once class planned.slot slot planned.progress move.was planned.there move.turns.was_there planned.latched held in
          let mine : Some planned.progress ≡ Some move.was = sym planned.there ∙ ap before.course is ∙ move.turns.was_there in
          let one : planned.progress ≡ move.was = (cc) in
          let there : class < length before.settled = change_there before.journal before.course (tx_of planned.progress planned.transaction) before.settled (with_class before.settled class before.aimed) class planned.changes in
          let there_now : class < length versions = omega (arith, there, many) in
          inr (
            planned.transaction,
            sym (ap (λ (r : Progress). r.transaction) one) ∙ planned.open_one,
            planned.unmarked,
            subst (λ (r : Progress). IsOneChange before.journal before.course (tx_of r planned.transaction) versions (with_class versions class after.settled) class) one
                (moved_change before.settled (with_class before.settled class before.aimed) versions (with_class versions class after.settled) class there_now (length-set versions class (objects_in after.settled class)) same
                (class_here versions class after.settled there_now ∙ move.settled.latched class held ∙ sym (class_here before.settled class before.aimed there))
                (λ other differs. class_elsewhere versions class after.settled other differs)
                before.journal before.journal before.course before.course (tx_of planned.progress planned.transaction) (λ floor is_floor. is_floor) planned.changes),
          )

      go : (b : Bool) → holds move.was.latches class ≡ b → BecomesIn before.journal before.course move.was versions after.settled class
      go true held = at held (serial.agrees refl class)
      go false free = inl (move.settled.elsewhere class free ∙ sym same)

  is_there : IsConnection schema managers.Mvcc (scene_of before) slot move.was
  is_there = connection_of schema managers.Mvcc before slot move.was serial move.turns.was_there

  unmarked_tx : (t : Transaction) → move.was.transaction ≡ Some t → t.mark ≡ None → marks_of before.course (tx_of move.was t) ≡ None
  unmarked_tx t open_one unmarked = mark_here before.course slot move.was t move.turns.was_there is_there.place open_one ∙ unmarked

  -- what another reader is shown of it
  rows_same : (class : ℕ) (versions : Versions) → AreVersions before.journal (marks_of before.course) versions → length versions ≡ length before.settled → AreSameIn class versions before.settled →
      (snapshot : ℕ) (reader : Option TxId) → ((t : Transaction) → move.was.transaction ≡ Some t → reader ≢ Some (tx_of move.was t)) → ((floor : ℕ) → IsFloor before.journal before.course floor → floor ≤ snapshot) →
      rows_shown (marks_of before.course) snapshot reader (objects_in after.settled class) ≡ rows_shown (marks_of before.course) snapshot reader (objects_in versions class)
  rows_same class versions kept many same snapshot reader differs above = go (becomes class versions many same)
    where
      go : BecomesIn before.journal before.course move.was versions after.settled class → rows_shown (marks_of before.course) snapshot reader (objects_in after.settled class) ≡ rows_shown (marks_of before.course) snapshot reader (objects_in versions class)
      go (inl stays) = ap (rows_shown (marks_of before.course) snapshot reader) stays
      go (inr change) =
          let there = change_there before.journal before.course (tx_of move.was change.0) versions (with_class versions class after.settled) class change.3 in
          ap (rows_shown (marks_of before.course) snapshot reader) (sym (class_here versions class after.settled there))
          ∙ class_shown (marks_of before.course) (marks_of before.course) snapshot snapshot reader reader (with_class versions class after.settled) versions
          (change_shown before.journal before.course (marks_of before.course) (tx_of move.was change.0) versions (with_class versions class after.settled) class kept (unmarked_tx change.0 change.1 change.2)
          snapshot reader (differs change.0 change.1) above change.3) class

  -- and what is another transaction's work of it
  work_same : (class : ℕ) (versions : Versions) → AreVersions before.journal (marks_of before.course) versions → length versions ≡ length before.settled → AreSameIn class versions before.settled →
      (other : TxId) (snapshot : ℕ) (done : List (Op × Reply)) → ((t : Transaction) → move.was.transaction ≡ Some t → other ≢ tx_of move.was t) → IsWork (marks_of before.course) versions other snapshot done →
      WorkIn (marks_of before.course) other snapshot done class (objects_in after.settled class)
  work_same class versions kept many same other snapshot done differs work = go (becomes class versions many same)
    where
      go : BecomesIn before.journal before.course move.was versions after.settled class → WorkIn (marks_of before.course) other snapshot done class (objects_in after.settled class)
      go (inl stays) = subst (WorkIn (marks_of before.course) other snapshot done class) (sym stays) (work_in (marks_of before.course) versions other snapshot done work class)
      go (inr change) =
          let there = change_there before.journal before.course (tx_of move.was change.0) versions (with_class versions class after.settled) class change.3 in
          subst (WorkIn (marks_of before.course) other snapshot done class) (class_here versions class after.settled there)
          (work_in (marks_of before.course) (with_class versions class after.settled) other snapshot done
          (change_work before.journal before.course (marks_of before.course) (tx_of move.was change.0) versions (with_class versions class after.settled) class kept (unmarked_tx change.0 change.1 change.2)
          other snapshot done (differs change.0 change.1) change.3 work) class)

  many : length before.aimed ≡ length before.settled
  many = as_many schema (scene_of before) serial.scene

  many_now : length before.aimed ≡ length after.settled
  many_now = as_many schema (scene_of before) serial.scene ∙ sym move.settled.count

  -- what the settled versions show
  shown_settled : (snapshot : ℕ) → ((floor : ℕ) → IsFloor before.journal before.course floor → floor ≤ snapshot) → shown (marks_of before.course) snapshot None after.settled ≡ shown (marks_of before.course) snapshot None before.settled
  shown_settled snapshot above =
      shown_by_class (marks_of before.course) (marks_of before.course) snapshot snapshot None None after.settled before.settled move.settled.count
      (λ class. rows_same class before.settled serial.scene.settled refl refl snapshot None (λ t open_one e. (cc)) above)

  -- another connection
  module _ (other : ℕ) (q : Progress) (differs : other ≢ slot) (place : q.conn.slot ≡ other) (there : before.course other ≡ Some q) where
    apart_from : (t u : Transaction) → tx_of q t ≢ tx_of move.was u
    apart_from t u = apart_txs q move.was t u (λ same. differs (sym place ∙ same ∙ is_there.place))

    view_kept : AreVersions before.journal (marks_of before.course) (view q.latches before.settled before.aimed)
    view_kept = kept_either before.journal (marks_of before.course) (view q.latches before.settled before.aimed) before.aimed before.settled (λ class. view_either q.latches before.settled before.aimed class many)
        serial.scene.aimed serial.scene.settled

    mine : (t : Transaction) → q.transaction ≡ Some t → shown (marks_of before.course) t.snapshot (Some (tx_of q t)) (view q.latches after.settled before.aimed) ≡ shown (marks_of before.course) t.snapshot (Some (tx_of q t)) (view q.latches before.settled before.aimed)
    mine t open_one =
        shown_by_class (marks_of before.course) (marks_of before.course) t.snapshot t.snapshot (Some (tx_of q t)) (Some (tx_of q t)) (view q.latches after.settled before.aimed) (view q.latches before.settled before.aimed)
        (length_view q.latches 0 after.settled before.aimed ∙ move.settled.count ∙ sym (length_view q.latches 0 before.settled before.aimed)) (λ class. go class (holds q.latches class) refl)
      where
        go : (class : ℕ) (b : Bool) → holds q.latches class ≡ b → rows_shown (marks_of before.course) t.snapshot (Some (tx_of q t)) (objects_in (view q.latches after.settled before.aimed) class)
            ≡ rows_shown (marks_of before.course) t.snapshot (Some (tx_of q t)) (objects_in (view q.latches before.settled before.aimed) class)
        go class true held = ap (rows_shown (marks_of before.course) t.snapshot (Some (tx_of q t))) (view_latched q.latches after.settled before.aimed class many_now held ∙ sym (view_latched q.latches before.settled before.aimed class many held))
        go class false free =
            ap (rows_shown (marks_of before.course) t.snapshot (Some (tx_of q t))) (view_free q.latches after.settled before.aimed class free)
            ∙ rows_same class (view q.latches before.settled before.aimed) view_kept (length_view q.latches 0 before.settled before.aimed) (view_free q.latches before.settled before.aimed class free)
            t.snapshot (Some (tx_of q t)) (λ u open_was e. apart_from t u (cc)) (λ floor is_floor. is_floor.least other q t there open_one)

    its_work : (t : Transaction) → IsWork (marks_of before.course) (view q.latches before.settled before.aimed) (tx_of q t) t.snapshot (so_far q) → IsWork (marks_of before.course) (view q.latches after.settled before.aimed) (tx_of q t) t.snapshot (so_far q)
    its_work t work = work_by_class (marks_of before.course) (view q.latches after.settled before.aimed) (tx_of q t) t.snapshot (so_far q) work.unmarked (λ class. go class (holds q.latches class) refl)
      where
        go : (class : ℕ) (b : Bool) → holds q.latches class ≡ b → WorkIn (marks_of before.course) (tx_of q t) t.snapshot (so_far q) class (objects_in (view q.latches after.settled before.aimed) class)
        go class true held =
            subst (WorkIn (marks_of before.course) (tx_of q t) t.snapshot (so_far q) class) (view_latched q.latches before.settled before.aimed class many held ∙ sym (view_latched q.latches after.settled before.aimed class many_now held))
            (work_in (marks_of before.course) (view q.latches before.settled before.aimed) (tx_of q t) t.snapshot (so_far q) work class)
        go class false free =
            subst (WorkIn (marks_of before.course) (tx_of q t) t.snapshot (so_far q) class) (sym (view_free q.latches after.settled before.aimed class free))
            (work_same class (view q.latches before.settled before.aimed) view_kept (length_view q.latches 0 before.settled before.aimed) (view_free q.latches before.settled before.aimed class free)
            (tx_of q t) t.snapshot (so_far q) (λ u open_was. apart_from t u) work)

    carries_other : Carries schema managers.Mvcc (scene_of before) (record (scene_of before) { settled = after.settled }) other q
    carries_other = record {
      more = [];
      journal = sym (append-nil before.journal);
      shows = λ t open_one begun. shown_settled t.snapshot (λ floor is_floor. is_floor.least other q t there open_one);
      mine = λ t open_one begun unmarked live. mine t open_one;
      work = λ t open_one begun unmarked live work. its_work t work;
      sees_all = λ t open_one begun unmarked live sees single writes. absurd (cc);
      anew = λ anew. anew;
      drawn = λ class. omega arith;
      ended = λ number has. has;
    }

  -- the connection itself
  view_same : view move.was.latches after.settled before.aimed ≡ view move.was.latches before.settled before.aimed
  view_same = views_are_one move.was.latches before.settled before.aimed after.settled before.aimed many many_now move.settled.count (λ class held. refl) (λ class free. move.settled.elsewhere class free)

  carries_own : Carries schema managers.Mvcc (scene_of before) (record (scene_of before) { settled = after.settled }) slot move.was
  carries_own = record {
    more = [];
    journal = sym (append-nil before.journal);
    shows = λ t open_one begun. shown_settled t.snapshot (λ floor is_floor. is_floor.least slot move.was t move.turns.was_there open_one);
    mine = λ t open_one begun unmarked live. ap (shown (marks_of before.course) t.snapshot (Some (tx_of move.was t))) view_same;
    work = λ t open_one begun unmarked live work. subst (λ (vs : Versions). IsWork (marks_of before.course) vs (tx_of move.was t) t.snapshot (so_far move.was)) (sym view_same) work;
    sees_all = λ t open_one begun unmarked live sees single writes. absurd (cc);
    anew = λ anew. anew;
    drawn = λ class. omega arith;
    ended = λ number has. has;
  }

  scene_now : scene_of after ≡ record (scene_of before) { settled = after.settled }
  scene_now =
      let marks = marks_same before.course after.course slot move.turns.others
      (λ x. ap (mark_in x) move.turns.is_there ∙ mark_by x (record move.was { plans = false }) ∙ sym (ap (mark_in x) move.turns.was_there ∙ mark_by x move.was)) in
      λ i. record { journal = move.journal.journal i; marks = marks i; drawn = move.journal.drawn i; settled = after.settled; aimed = move.aimed i }

  is_scene : IsScene schema (record (scene_of before) { settled = after.settled })
  is_scene = record {
    law = serial.scene.law;
    aborts = serial.scene.aborts;
    reads = serial.scene.reads;
    drawn = serial.scene.drawn;
    settled = kept_either before.journal (marks_of before.course) after.settled before.aimed before.settled (λ class. either class (holds move.was.latches class) refl) serial.scene.aimed serial.scene.settled;
    aimed = serial.scene.aimed;
    classes = move.settled.count ∙ serial.scene.classes;
    classes_aimed = serial.scene.classes_aimed;
    current = shown_settled (commits before.journal) (λ floor is_floor. is_floor.there) ∙ serial.scene.current;
  }
    where
      either : (class : ℕ) (b : Bool) → holds move.was.latches class ≡ b → AreSameIn class after.settled before.aimed ⊎ AreSameIn class after.settled before.settled
      either class true e = inl (move.settled.latched class e)
      either class false e = inr (move.settled.elsewhere class e)

  pub settles : IsSerial schema managers.Mvcc after
  settles =
      turned schema managers.Mvcc before after (record (scene_of before) { settled = after.settled }) slot (Some move.was) (Some (record move.was { plans = false })) move.turns scene_now serial is_scene
      (λ other q differs there is_other. carried schema managers.Mvcc (scene_of before) (record (scene_of before) { settled = after.settled }) other q (carries_other other q differs is_other.place there) is_other)
      (λ other number differs free. free)
      (plans_unsaid schema managers.Mvcc (record (scene_of before) { settled = after.settled }) slot move.was false
      (carried schema managers.Mvcc (scene_of before) (record (scene_of before) { settled = after.settled }) slot move.was carries_own is_there))
      (apart_turned before.course after.course slot move.turns.others
      (same_made before.course after.course slot move.was (record move.was { plans = false }) move.turns.was_there move.turns.is_there (λ object made. made)) serial.apart)
      (agrees_turned managers.Mvcc before after slot (Some move.was) (Some (record move.was { plans = false })) move.turns
      (floors_stay before after slot move.was (record move.was { plans = false }) move.turns (same_commits before after move.journal.journal) (λ t open_one. inr (t, open_one, refl)))
      move.settled.count (λ many_write class. agree class (holds move.was.latches class) refl) serial.agrees)
    where
      agree : (class : ℕ) (b : Bool) → holds move.was.latches class ≡ b →
          (AreSameIn class after.aimed after.settled ⊎ IsPlanned after.journal after.course after.settled after.aimed class) ⊎ StaysIn before after (Some move.was) (Some (record move.was { plans = false })) class
      agree class true e = inl (inl (ap (λ (vs : Versions). objects_in vs class) move.aimed ∙ sym (move.settled.latched class e)))
      agree class false e = inr (record {
        keeps = plan_stays move.was (record move.was { plans = false }) class (λ t open_one unmarked held plans. never (holds move.was.latches class) e held);
        settled = move.settled.elsewhere class e;
        aimed = ap (λ (vs : Versions). objects_in vs class) move.aimed;
      })
