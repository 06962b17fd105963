-- A transaction is marked as the next commit: its story goes into the journal, and what it aims at is settled.
use Rattle.std.proofs.Common.{◌≡◌, ◌≢◌, ◌⊎◌, inl, inr, ℕ, zero, suc, ◌+◌, ◌-◌, ◌<◌, ◌≤◌, Bool, true, false, ◌&&◌, ◌||◌, ◌==◌, List, [], ◌∷◌, ◌++◌, length, get_or, Some, None, IsSome, is_some, nat_eq, refl, sym, ap, subst, ◌∙◌, arith, length-set, Contains}
use Rattle.std.specs.List.{All}
use Rattle.std.proofs.lemmas.Bool.Decides.{nat_tests}
use Rattle.std.proofs.lemmas.List.{ext_get_or}
use Rattle.std.proofs.lemmas.Option.{slice_get-get_or}
use Rattle.std.proofs.lemmas.List.Elements.{Contains-push, Contains-push_cases}
use Rattle.std.proofs.lemmas.Nat.Bits.{bit_at-zero}
use Rattle.rdb_base.specs.declared.identity.Kind.{Kind}
use Rattle.rdb_base.specs.declared.identity.Kind.TheVariants as kinds
use Rattle.rdb_base.specs.declared.identity.Manager.{Manager}
use Rattle.rdb_base.specs.declared.identity.Manager.TheVariants as managers
use Rattle.rdb_base.specs.declared.operation.Op.{Op}
use Rattle.rdb_base.specs.declared.operation.Reply.{Reply}
use Rattle.rdb_base.specs.declared.journal.Story.{Story}
use Rattle.rdb_base.specs.declared.journal.Entry.{Entry}
use Rattle.rdb_base.specs.declared.journal.Entry.TheVariants as entry
use Rattle.rdb_schema.specs.declared.schema.Schema.{Schema}
use Rattle.rdb_registry.specs.declared.seat.Transaction.{Transaction}
use Rattle.rdb_registry.specs.Seats.{marked}
use Rattle.rdb_sight.specs.Versions.{Versions, objects_in, shown}
use Rattle.rdb_model.specs.declared.legality.Span.TheVariants as span
use Rattle.rdb_model.specs.Fits.{AllFit}
use Rattle.rdb_model.specs.Story.{run}
use Rattle.rdb_model.specs.Journal.{commits, fold, ends, has_ended_since_leave, made_in, made_before, was_made}
use Rattle.rdb_model.specs.Touch.{touched}
use Rattle.rdb_model.specs.Validation.{MakesAnew, IsValid}
use Rattle.rdb_model.proofs.CommitSound.{commit_keeps}
use Rattle.rdb_model.proofs.PartLemmas.{holds_with}
use Rattle.rdb_history.proofs.FoldLemmas.{done_is}
use Rattle.rdb_history.proofs.GrowthLemmas.{commits_grown}
use Rattle.rdb_history.proofs.RowLaws.{untouched_is}
use Rattle.rdb_history.proofs.StoryLemmas.{anew_beside, made_more}
use Rattle.rdb_shown.specs.Kept.{AreVersions, IsWork}
use Rattle.rdb_shown.specs.Changes.{IsMarked}
use Rattle.rdb_shown.proofs.CommitLemmas.{commit_shown}
use Rattle.rdb_shown.proofs.KeptLemmas.{in_order}
use Rattle.rdb_shown.proofs.MarkLemmas.{earlier_shown, marked_work}
use Rattle.rdb_shown.proofs.MarkedChains.{marked_kept}
use Rattle.rdb_serial.specs.Progress.{Progress, tx_of, holds, so_far, done_by_plan, story_with, marks_of}
use Rattle.rdb_serial.specs.Histories.{History, Scene, scene_of, view, view_in, AreSameIn, with_class, IsFloor, IsPlanned}
use Rattle.rdb_serial.specs.Serial.{IsAbortAllowed, AreDrawn, IsScene, IsBegun, ShowsCommits, IsGoingOn, IsOpen, IsConnection, IsSerial}
use Rattle.rdb_serial.specs.Moves.{next_commit, marks, Marks}
use Rattle.rdb_serial.proofs.ViewLemmas.{same_versions, length_view, view_latched, view_either, view_is, class_here, class_elsewhere}
use Rattle.rdb_serial.proofs.ClassLemmas.{KeptIn, kept_in, kept_by_class, kept_either}
use Rattle.rdb_serial.proofs.ProgressLemmas.{marks_more, apart_txs}
use Rattle.rdb_serial.proofs.ChangeLemmas.{change_kept, change_there, moved_change}
use Rattle.rdb_serial.proofs.CarryLemmas.{Carries, carried, begun_more, snapshot_there}
use Rattle.rdb_serial.proofs.TurnLemmas.{apart_turned, turned}
use Rattle.rdb_serial.proofs.StillLemmas.{floors_stay, plan_stays, agrees_turned, makes_nothing, nothing_so_far, connection_of}
use Rattle.rdb_serial.proofs.StoryLemmas.{run_front, never}
use Rattle.rdb_serial.proofs.StoryMoves.{as_many}
use Rattle.rdb_serial.proofs.EntryLemmas.{ended_before, unended_still, ends_others, ends_own, placed}
use Rattle.rdb_serial.proofs.EndingMoves.{story_of_none}
use Rattle.rdb_serial.proofs.PlanMoves.{mark_here}
use Rattle.rdb_serial.proofs.GivingMoves.{same_made}
use Rattle.rdb_serial.proofs.ObjectLemmas.{drawn_both}

abbrev its_story : Progress → Transaction → Story
its_story p t = story_with p t p.done

-- the entry, and the journal with it
abbrev commit_entry : History → Progress → Transaction → Entry
commit_entry h p t = next_commit h.journal (its_story p t)

abbrev longer_journal : History → Progress → Transaction → List Entry
longer_journal h p t = h.journal ++ commit_entry h p t ∷ []

-- the progress of the connection, and the scene, afterwards
abbrev marks_next : History → Progress → Transaction → Progress
marks_next h p t = marks (commits h.journal + 1) p t

abbrev marked_scene : History → History → Progress → Transaction → Scene
marked_scene before after p t = record { journal = longer_journal before p t; marks = marks_of after.course; drawn = before.drawn; settled = after.settled; aimed = before.aimed }

-- by the manager
by_manager : {A : Type 0} → (manager : Manager) → (manager ≡ managers.Mvcc → A) → (manager ≡ managers.Mursiw → A) → A
by_manager managers.Mvcc among alone = among refl
by_manager managers.Mursiw among alone = alone refl

-- no latch is held in none
no_latch : (latches class : ℕ) → latches ≡ 0 → holds latches class ≡ false
no_latch latches class none =
    let bit = ap (λ (n : ℕ). holds n class) none in
    let zero_bit = bit_at-zero class in
    bit ∙ ap (λ (b : ℕ). b == 1) zero_bit

-- what another story makes is none of what a story makes
apart_all : (xs ys : List (ℕ × ℕ)) → ((object : ℕ × ℕ) → was_made ys object ≡ true → was_made xs object ≡ false) → All (λ object. was_made xs object ≡ false) ys
apart_all xs ys apart i d within = apart (get_or ys i d) (made_at ys i d within)
  where
    itself : (object : ℕ × ℕ) (rest : List (ℕ × ℕ)) → was_made (object ∷ rest) object ≡ true
    itself object rest = go (nat_eq object.0 object.0) (nat_eq object.1 object.1) (let one : nat_eq object.0 object.0 ≡ true = grind (arith, nat_tests) in one) (let two : nat_eq object.1 object.1 ≡ true = grind (arith, nat_tests) in two)
      where
        go : (a b : Bool) → a ≡ true → b ≡ true → ((a && b) || was_made rest object) ≡ true
        go true true e f = refl
        go true false e f = (cc)
        go false b e f = (cc)

    later : (a b : Bool) → b ≡ true → (a || b) ≡ true
    later true b e = refl
    later false b e = e

    made_at : (ys : List (ℕ × ℕ)) (i : ℕ) (d : ℕ × ℕ) → i < length ys → was_made ys (get_or ys i d) ≡ true
    made_at [] i d within = absurd (omega (arith, within))
    made_at (y ∷ ys) zero d within = itself y ys
    made_at (y ∷ ys) (suc i) d within = later ((y.0 == (get_or ys i d).0) && (y.1 == (get_or ys i d).1)) (was_made ys (get_or ys i d)) (made_at ys i d (omega (arith, within)))

module _ (schema : Schema) (manager : Manager) (before after : History) (slot : ℕ) (serial : IsSerial schema manager before) (move : Marks schema manager before after slot) where
  is_there : IsConnection schema manager (scene_of before) slot move.was
  is_there = connection_of schema manager before slot move.was serial move.turns.was_there

  was_open : IsOpen schema manager (scene_of before) move.was move.transaction
  was_open = is_there.open_one move.transaction move.free.open_one

  on : IsGoingOn schema manager (scene_of before) move.was move.transaction
  on = was_open.goes_on move.free.unmarked move.free.live

  done_is_all : so_far move.was ≡ move.was.done
  done_is_all = story_of_none move.was move.free.work

  many : length before.aimed ≡ length before.settled
  many = as_many schema (scene_of before) serial.scene

  unmarked_tx : marks_of before.course (tx_of move.was move.transaction) ≡ None
  unmarked_tx = mark_here before.course slot move.was move.transaction move.turns.was_there is_there.place move.free.open_one ∙ move.free.unmarked

  marking : IsMarked (marks_of before.course) (marks_of after.course) (tx_of move.was move.transaction) (commits before.journal + 1)
  marking = marks_more before.course after.course slot move.turns.others move.was (marks_next before move.was move.transaction) move.transaction (commits before.journal + 1)
      move.turns.was_there move.turns.is_there is_there.place refl move.free.open_one refl

  settled_is : after.settled ≡ view_in (scene_of before) move.was
  settled_is = sym (view_is move.was.latches before.settled before.aimed after.settled many move.settled.count move.settled.latched move.settled.elsewhere)

  view_kept : (p : Progress) → AreVersions before.journal (marks_of before.course) (view_in (scene_of before) p)
  view_kept p = kept_either before.journal (marks_of before.course) (view_in (scene_of before) p) before.aimed before.settled (λ class. view_either p.latches before.settled before.aimed class many)
      serial.scene.aimed serial.scene.settled

  its_work : IsWork (marks_of before.course) (view_in (scene_of before) move.was) (tx_of move.was move.transaction) move.transaction.snapshot move.was.done
  its_work = subst (λ (d : List (Op × Reply)). IsWork (marks_of before.course) (view_in (scene_of before) move.was) (tx_of move.was move.transaction) move.transaction.snapshot d) done_is_all on.work

  anew : MakesAnew (made_before before.journal) move.was.done
  anew = subst (MakesAnew (made_before before.journal)) done_is_all is_there.anew

  runs : IsSome (run schema (fold schema before.journal move.transaction.snapshot) move.was.done)
  runs = run_front schema (fold schema before.journal move.transaction.snapshot) move.was.done (done_by_plan move.was.work) (ap is_some on.runs)

  fit : AllFit schema kinds.ReadWrite move.was.done
  fit = subst (AllFit schema kinds.ReadWrite) done_is_all (subst (λ (k : Kind). AllFit schema k (so_far move.was)) move.writes on.fits)

  snapshot_below : move.transaction.snapshot ≤ commits before.journal
  snapshot_below = snapshot_there schema (scene_of before) move.transaction was_open.begun

  -- under a single writer
  module _ (single : manager ≡ managers.Mursiw) where
    sees : (move.transaction.snapshot ≡ commits before.journal) × ShowsCommits schema before.journal (marks_of before.course) (view_in (scene_of before) move.was) (commits before.journal)
    sees = on.sees_all single move.writes

    view_aimed : view_in (scene_of before) move.was ≡ before.aimed
    view_aimed = ext_get_or [] (view_in (scene_of before) move.was) before.aimed (length_view move.was.latches 0 before.settled before.aimed ∙ sym many)
        (λ class lt. view_latched move.was.latches before.settled before.aimed class many ((move.single single).latched class (let n = length_view move.was.latches 0 before.settled before.aimed in omega (arith, lt, n))))

  -- among many
  module _ (among : manager ≡ managers.Mvcc) where
    unlatched : (class : ℕ) → holds move.was.latches class ≡ false
    unlatched class = no_latch move.was.latches class (move.many among).latches

    settled_same : after.settled ≡ before.settled
    settled_same = same_versions after.settled before.settled move.settled.count (λ class. move.settled.elsewhere class (unlatched class))

    view_settled : view_in (scene_of before) move.was ≡ before.settled
    view_settled = sym settled_is ∙ settled_same

  touches_none : (own : Story) (commit : ℕ) → Contains before.journal (entry.Commit own commit) → move.transaction.snapshot < commit →
      (operation : ℕ) → touched schema (fold schema before.journal (commit - 1)) (entry.Commit own commit) (its_story move.was move.transaction) operation ≡ false
  touches_none own commit stands unseen operation = by_manager manager among alone
    where
      among : manager ≡ managers.Mvcc → touched schema (fold schema before.journal (commit - 1)) (entry.Commit own commit) (its_story move.was move.transaction) operation ≡ false
      among e = untouched_is schema before.journal serial.scene.law.numbers serial.scene.law.replies own (its_story move.was move.transaction) commit operation kinds.ReadWrite fit (move.many e).untouched stands unseen

      alone : manager ≡ managers.Mursiw → touched schema (fold schema before.journal (commit - 1)) (entry.Commit own commit) (its_story move.was move.transaction) operation ≡ false
      alone e =
          let all = (sees e).0 in
          let there = (done_is schema before.journal stands.0 own commit serial.scene.law.numbers serial.scene.law.replies (slice_get-get_or before.journal stands.0 (entry.Commit own commit) stands.1 ∙ ap Some stands.2)).0 in
          absurd (omega (arith, all, there, unseen))

  valid : IsValid schema before.journal (its_story move.was move.transaction)
  valid = record {
    placed = placed schema (scene_of before) move.was move.transaction move.was.done was_open.begun;
    makes_anew = anew;
    runs = runs;
    touches_none = touches_none;
  }

  -- the versions that the transaction sees show all commits so far
  current : shown (marks_of before.course) (commits before.journal) None (view_in (scene_of before) move.was) ≡ fold schema before.journal (commits before.journal)
  current = by_manager manager
      (λ e. ap (shown (marks_of before.course) (commits before.journal) None) (view_settled e) ∙ serial.scene.current)
      (λ e. (sees e).1)

  -- and what was settled at its snapshot
  at_snapshot : shown (marks_of before.course) move.transaction.snapshot None (view_in (scene_of before) move.was) ≡ shown (marks_of before.course) move.transaction.snapshot None before.settled
  at_snapshot = by_manager manager
      (λ e. ap (shown (marks_of before.course) move.transaction.snapshot None) (view_settled e))
      (λ e.
      ap (λ (n : ℕ). shown (marks_of before.course) n None (view_in (scene_of before) move.was)) (sees e).0 ∙ (sees e).1
      ∙ sym (ap (λ (n : ℕ). shown (marks_of before.course) n None before.settled) (sees e).0 ∙ serial.scene.current))

  view_marked : AreVersions (longer_journal before move.was move.transaction) (marks_of after.course) (view_in (scene_of before) move.was)
  view_marked = marked_kept span.Stretch schema before.journal (marks_of before.course) (marks_of after.course) (view_in (scene_of before) move.was) (tx_of move.was move.transaction)
      (its_story move.was move.transaction) serial.scene.law valid (view_kept move.was) its_work marking

  commits_now : commits (longer_journal before move.was move.transaction) ≡ commits before.journal + 1
  commits_now = commits_grown before.journal (commit_entry before move.was move.transaction ∷ [])

  floors : (floor : ℕ) → IsFloor before.journal before.course floor → IsFloor after.journal after.course floor
  floors = floors_stay before after slot move.was (marks_next before move.was move.transaction) move.turns
      (let now = ap commits move.entered ∙ commits_now in omega (arith, now))
      (λ t open_one. inr (move.transaction, move.free.open_one, let same : marked (commits before.journal + 1) move.transaction ≡ t = (cc) in ap (λ (u : Transaction). u.snapshot) same))

  -- what is aimed at is kept
  aimed_marked : AreVersions (longer_journal before move.was move.transaction) (marks_of after.course) before.aimed
  aimed_marked = by_manager manager among (λ e. subst (AreVersions (longer_journal before move.was move.transaction) (marks_of after.course)) (view_aimed e) view_marked)
    where
      among : manager ≡ managers.Mvcc → AreVersions (longer_journal before move.was move.transaction) (marks_of after.course) before.aimed
      among e = subst (λ (j : List Entry). AreVersions j (marks_of after.course) before.aimed) move.entered
          (kept_by_class after.journal (marks_of after.course) before.aimed (λ class. go class (serial.agrees e class)))
        where
          kept_settled : AreVersions after.journal (marks_of after.course) before.settled
          kept_settled = subst (AreVersions after.journal (marks_of after.course)) (view_settled e) (subst (λ (j : List Entry). AreVersions j (marks_of after.course) (view_in (scene_of before) move.was)) (sym move.entered) view_marked)

          go : (class : ℕ) → AreSameIn class before.aimed before.settled ⊎ IsPlanned before.journal before.course before.settled before.aimed class → KeptIn after.journal (marks_of after.course) class (objects_in before.aimed class)
          go class (inl same) = subst (KeptIn after.journal (marks_of after.course) class) (sym same) (kept_in after.journal (marks_of after.course) before.settled kept_settled class)
          go class (inr planned) =
              subst (KeptIn after.journal (marks_of after.course) class) (class_here before.settled class before.aimed there)
              (kept_in after.journal (marks_of after.course) (with_class before.settled class before.aimed)
              (change_kept after.journal after.course (marks_of after.course) (tx_of planned.progress planned.transaction) before.settled (with_class before.settled class before.aimed) class kept_settled its_mark
              (moved_change before.settled (with_class before.settled class before.aimed) before.settled (with_class before.settled class before.aimed) class there (length-set before.settled class (objects_in before.aimed class)) refl refl
              (λ other differs. class_elsewhere before.settled class before.aimed other differs) before.journal after.journal before.course after.course (tx_of planned.progress planned.transaction) floors planned.changes)) class)
            where
              there : class < length before.settled
              there = change_there before.journal before.course (tx_of planned.progress planned.transaction) before.settled (with_class before.settled class before.aimed) class planned.changes

              apart : planned.slot ≢ slot
              apart same =
                  let mine : Some planned.progress ≡ Some move.was = sym planned.there ∙ ap before.course same ∙ move.turns.was_there in
                  let one : planned.progress ≡ move.was = (cc) in
                  never (holds move.was.latches class) (unlatched e class) (sym (ap (λ (r : Progress). holds r.latches class) one) ∙ planned.latched)

              its_place : planned.progress.conn.slot ≡ planned.slot
              its_place = (connection_of schema manager before planned.slot planned.progress serial planned.there).place

              its_mark : marks_of after.course (tx_of planned.progress planned.transaction) ≡ None
              its_mark =
                  marking.others (tx_of planned.progress planned.transaction) (apart_txs planned.progress move.was planned.transaction move.transaction (λ same. apart (sym its_place ∙ same ∙ is_there.place)))
                  ∙ mark_here before.course planned.slot planned.progress planned.transaction planned.there its_place planned.open_one ∙ planned.unmarked

  is_scene : IsScene schema (marked_scene before after move.was move.transaction)
  is_scene = record {
    law = commit_keeps span.Stretch schema before.journal (its_story move.was move.transaction) serial.scene.law (was_open.unended move.free.unmarked) valid;
    aborts = holds_with (IsAbortAllowed schema) before.journal (commit_entry before move.was move.transaction) serial.scene.aborts tt;
    reads = λ story stands. read story (Contains-push_cases before.journal (commit_entry before move.was move.transaction) (entry.Read story) stands);
    drawn = subst (AreDrawn before.drawn) (sym (made_more before.journal (commit_entry before move.was move.transaction)))
        (drawn_both before.drawn (made_before before.journal) (made_in move.was.done) serial.scene.drawn (subst (λ (d : List (Op × Reply)). AreDrawn before.drawn (made_in d)) done_is_all is_there.drawn));
    settled = subst (AreVersions (longer_journal before move.was move.transaction) (marks_of after.course)) (sym settled_is) view_marked;
    aimed = aimed_marked;
    classes = move.settled.count ∙ serial.scene.classes;
    classes_aimed = serial.scene.classes_aimed;
    current =
        ap (λ (n : ℕ). shown (marks_of after.course) n None after.settled) commits_now
        ∙ ap (shown (marks_of after.course) (commits before.journal + 1) None) settled_is
        ∙ commit_shown span.Stretch schema before.journal (marks_of before.course) (marks_of after.course) (view_in (scene_of before) move.was) (tx_of move.was move.transaction) (its_story move.was move.transaction)
        serial.scene.law (was_open.unended move.free.unmarked) valid (view_kept move.was) its_work marking current
        ∙ sym (ap (λ (n : ℕ). fold schema (longer_journal before move.was move.transaction) n) commits_now);
  }
    where
      read : (story : Story) → Contains before.journal (entry.Read story) ⊎ (commit_entry before move.was move.transaction ≡ entry.Read story) → AllFit schema kinds.ReadOnly story.done
      read story (inl stands) = serial.scene.reads story stands
      read story (inr same) = absurd (cc)

  -- another connection, which has an open transaction among many alone
  carries_other : (other : ℕ) (q : Progress) → other ≢ slot → q.conn.slot ≡ other → before.course other ≡ Some q → ((t : Transaction) → q.transaction ≡ Some t → manager ≡ managers.Mvcc) →
      Carries schema manager (scene_of before)
      (marked_scene before after move.was move.transaction) other q
  carries_other other q differs place there among = record {
    more = commit_entry before move.was move.transaction ∷ [];
    journal = refl;
    shows = λ t open_one begun.
        ap (shown (marks_of after.course) t.snapshot None) (settled_same (among t open_one))
        ∙ earlier_shown before.journal (marks_of before.course) (marks_of after.course) before.settled (tx_of move.was move.transaction) t.snapshot None (in_order before.journal (marks_of before.course) before.settled serial.scene.settled) unmarked_tx marking
        (snapshot_there schema (scene_of before) t begun) (λ e. (cc));
    mine = λ t open_one begun unmarked live.
        ap (shown (marks_of after.course) t.snapshot (Some (tx_of q t))) (same_view (among t open_one))
        ∙ earlier_shown before.journal (marks_of before.course) (marks_of after.course) (view_in (scene_of before) q) (tx_of move.was move.transaction) t.snapshot (Some (tx_of q t)) (in_order before.journal (marks_of before.course) (view_in (scene_of before) q) (view_kept q)) unmarked_tx marking
        (snapshot_there schema (scene_of before) t begun) (λ e. apart t (cc));
    work = λ t open_one begun unmarked live work.
        subst (λ (vs : Versions). IsWork (marks_of after.course) vs (tx_of q t) t.snapshot (so_far q)) (sym (same_view (among t open_one)))
        (marked_work before.journal (marks_of before.course) (marks_of after.course) (view_in (scene_of before) q) (tx_of move.was move.transaction) (tx_of q t) t.snapshot (so_far q) marking (apart t) (snapshot_there schema (scene_of before) t begun) work);
    sees_all = λ t open_one begun unmarked live sees_it single writes. let both : managers.Mvcc ≡ managers.Mursiw = sym (among t open_one) ∙ single in absurd (cc);
    anew = λ its_anew. subst (λ (made : List (ℕ × ℕ)). MakesAnew made (so_far q)) (sym (made_more before.journal (commit_entry before move.was move.transaction)))
        (anew_beside (made_before before.journal) (made_in move.was.done) (so_far q) its_anew
        (apart_all (made_in move.was.done) (made_in (so_far q)) (λ object made.
        sym (ap (λ (d : List (Op × Reply)). was_made (made_in d) object) done_is_all) ∙ serial.apart other slot q move.was differs there move.turns.was_there object made)));
    drawn = λ class. omega arith;
    ended = λ number has. ended_before before.journal (commit_entry before move.was move.transaction) (other, number)
        (ends_others (commit_entry before move.was move.transaction) move.was.conn.slot move.transaction.number refl other number (λ same. differs (same ∙ is_there.place))) has;
  }
    where
      apart : (t : Transaction) → tx_of q t ≢ tx_of move.was move.transaction
      apart t = apart_txs q move.was t move.transaction (λ same. differs (sym place ∙ same ∙ is_there.place))

      same_view : manager ≡ managers.Mvcc → view q.latches after.settled before.aimed ≡ view q.latches before.settled before.aimed
      same_view e = ap (λ (vs : Versions). view q.latches vs before.aimed) (settled_same e)

  -- the connection itself
  own : IsConnection schema manager
      (marked_scene before after move.was move.transaction) slot
      (marks_next before move.was move.transaction)
  own = record {
    place = is_there.place;
    ended = λ number has. go number (ends (slot, number) (commit_entry before move.was move.transaction)) refl has;
    anew = subst (MakesAnew (made_before (longer_journal before move.was move.transaction))) (sym nothing) tt;
    drawn = subst (λ (d : List (Op × Reply)). AreDrawn before.drawn (made_in d)) (sym nothing) (λ class id made. absurd (cc));
    open_one = λ u e. subst (IsOpen schema manager
        (marked_scene before after move.was move.transaction)
        (marks_next before move.was move.transaction)) (let same : marked (commits before.journal + 1) move.transaction ≡ u = (cc) in same) opened;
  }
    where
      nothing : so_far (marks_next before move.was move.transaction) ≡ []
      nothing = nothing_so_far (marks_next before move.was move.transaction) refl move.free.work

      go : (number : ℕ) (b : Bool) → ends (slot, number) (commit_entry before move.was move.transaction) ≡ b →
          has_ended_since_leave (longer_journal before move.was move.transaction) (slot, number) ≡ true → number ≤ move.was.begun
      go number true f has =
          let same : move.transaction.number ≡ number = ends_own (commit_entry before move.was move.transaction) move.was.conn.slot move.transaction.number number refl
          (ap (λ (k : ℕ). ends (k, number) (commit_entry before move.was move.transaction)) is_there.place ∙ f) in
          let mine = was_open.number in
          omega (arith, same, mine)
      go number false f has = is_there.ended number (ended_before before.journal (commit_entry before move.was move.transaction) (slot, number) f has)

      begun_now : IsBegun schema
          (marked_scene before after move.was move.transaction) move.transaction
      begun_now = begun_more schema (scene_of before)
          (marked_scene before after move.was move.transaction)
          (commit_entry before move.was move.transaction ∷ []) move.transaction refl
          (ap (shown (marks_of after.course) move.transaction.snapshot None) settled_is
          ∙ earlier_shown before.journal (marks_of before.course) (marks_of after.course) (view_in (scene_of before) move.was) (tx_of move.was move.transaction) move.transaction.snapshot None
          (in_order before.journal (marks_of before.course) (view_in (scene_of before) move.was) (view_kept move.was)) unmarked_tx marking snapshot_below (λ e. (cc))
          ∙ at_snapshot) was_open.begun

      opened : IsOpen schema manager
          (marked_scene before after move.was move.transaction)
          (marks_next before move.was move.transaction) (marked (commits before.journal + 1) move.transaction)
      opened = record {
        number = was_open.number;
        begun = record { begun = begun_now.begun; snapshot = begun_now.snapshot; shows = begun_now.shows };
        unended = λ none. absurd (cc);
        committed = λ commit is. (
          its_story move.was move.transaction,
          subst (λ (n : ℕ). Contains (longer_journal before move.was move.transaction) (entry.Commit (its_story move.was move.transaction) n))
              (let same : commits before.journal + 1 ≡ commit = (cc) in same) (Contains-push before.journal (commit_entry before move.was move.transaction)),
          refl,
          refl,
        );
        goes_on = λ none live. absurd (cc);
        rolls_back = λ why none cause. absurd (cc);
      }

  scene_now : scene_of after ≡ marked_scene before after move.was move.transaction
  scene_now = λ i. record { journal = move.entered i; marks = marks_of after.course; drawn = move.drawn i; settled = after.settled; aimed = move.aimed i }

  pub marks_it : IsSerial schema manager after
  marks_it =
      turned schema manager before after
      (marked_scene before after move.was move.transaction)
      slot (Some move.was) (Some (marks_next before move.was move.transaction)) move.turns scene_now serial is_scene
      (λ other q differs there is_other. carried schema manager (scene_of before)
      (marked_scene before after move.was move.transaction)
      other q (carries_other other q differs is_other.place there (λ t open_one. by_manager manager (λ e. e) (λ e. absurd ((move.single e).alone other q t differs there open_one)))) is_other)
      (λ other number differs free. unended_still before.journal (commit_entry before move.was move.transaction) (other, number)
      (ends_others (commit_entry before move.was move.transaction) move.was.conn.slot move.transaction.number refl other number (λ same. differs (same ∙ is_there.place))) free)
      own
      (apart_turned before.course after.course slot move.turns.others
      (same_made before.course after.course slot move.was (marks_next before move.was move.transaction) move.turns.was_there move.turns.is_there
      (makes_nothing (Some move.was) (marks_next before move.was move.transaction) (nothing_so_far (marks_next before move.was move.transaction) refl move.free.work))) serial.apart)
      (agrees_turned manager before after slot (Some move.was) (Some (marks_next before move.was move.transaction)) move.turns floors move.settled.count
      (λ among class. inr (record {
        keeps = plan_stays move.was (marks_next before move.was move.transaction) class (λ t open_one unmarked held plans. never move.was.plans move.plans plans);
        settled = move.settled.elsewhere class (unlatched among class);
        aimed = ap (λ (vs : Versions). objects_in vs class) move.aimed;
      }))
      serial.agrees)
