-- A version of a marked transaction is stamped: nobody is shown anything else.
use Rattle.std.proofs.Common.{◌≡◌, ◌≢◌, ◌⊎◌, inl, inr, ℕ, ◌<◌, Bool, true, false, List, [], ◌∷◌, ◌++◌, length, Option, Some, None, nat_eq, refl, sym, ap, subst, ◌∙◌, arith, append-nil, length-set}
use Rattle.std.specs.List.{AllPairs}
use Rattle.std.proofs.lemmas.Bool.Decides.{nat_tests}
use Rattle.rdb_base.specs.declared.identity.Manager.{Manager}
use Rattle.rdb_base.specs.declared.identity.Manager.TheVariants as managers
use Rattle.rdb_base.specs.declared.identity.TxId.{TxId}
use Rattle.rdb_base.specs.declared.operation.Op.{Op}
use Rattle.rdb_base.specs.declared.operation.Reply.{Reply}
use Rattle.rdb_base.specs.declared.journal.Entry.{Entry}
use Rattle.rdb_schema.specs.declared.schema.Schema.{Schema}
use Rattle.rdb_sight.specs.Versions.{Version, Versions, Marks, objects_in, own_version, row_shown, shown}
use Rattle.rdb_model.specs.Journal.{commits}
use Rattle.rdb_shown.specs.Kept.{IsChain, AreVersions, IsUnseenBy, IsWork}
use Rattle.rdb_shown.specs.Changes.{Stamps}
use Rattle.rdb_shown.proofs.KeptLemmas.{in_order, kept_after, same_work_after, same_shown, chain_restamped}
use Rattle.rdb_shown.proofs.StampLemmas.{counted_marked, others_own}
use Rattle.rdb_shown.proofs.StampedLemmas.{same_sights, restamped_sights, restamped_own, restamped_unseen}
use Rattle.rdb_serial.specs.Progress.{Progress, tx_of, holds, so_far, mark_in, marks_of}
use Rattle.rdb_serial.specs.Histories.{History, Scene, scene_of, view, AreSameIn, IsPlanned}
use Rattle.rdb_serial.specs.Serial.{IsScene, IsSerial}
use Rattle.rdb_serial.specs.Moves.{Turns, StampsVersion}
use Rattle.rdb_serial.proofs.ViewLemmas.{length_view, view_latched, view_free, view_either}
use Rattle.rdb_serial.proofs.ClassLemmas.{kept_either}
use Rattle.rdb_serial.proofs.ProgressLemmas.{marks_same}
use Rattle.rdb_serial.proofs.ChangeLemmas.{chain_elsewhere_same, moved_stamp}
use Rattle.rdb_serial.proofs.CarryLemmas.{Carries, carried}
use Rattle.rdb_serial.proofs.TurnLemmas.{apart_turned, turned}
use Rattle.rdb_serial.proofs.StillLemmas.{StaysIn, floors_stay, plan_stays, agrees_turned, connection_of}
use Rattle.rdb_serial.proofs.StoryMoves.{as_many, same_commits}
use Rattle.rdb_serial.proofs.GivingMoves.{same_made}

module _ (journal : List Entry) (marks : Marks) (before after : Versions) (tx : TxId) (class id : ℕ) (kept : AreVersions journal marks before) (stamps : Stamps marks before after tx class id) where
  pub stamp_shown : (snapshot : ℕ) (reader : Option TxId) → shown marks snapshot reader after ≡ shown marks snapshot reader before
  stamp_shown snapshot reader =
      same_shown marks snapshot reader before after class id _ (in_order journal marks before kept) stamps.put
      (same_sights marks marks snapshot reader (stamps.newer ++ stamps.stamped ∷ stamps.older) _
      (restamped_sights marks stamps.newer stamps.stamped _ stamps.older (sym (counted_marked marks stamps.stamped.stamp tx stamps.commit stamps.was_own stamps.marked)) refl)
      ∙ ap (row_shown marks snapshot reader) (sym stamps.was))

  pub stamp_kept : AreVersions journal marks after
  stamp_kept =
      kept_after journal marks before after class id _ kept stamps.put
      (chain_restamped journal marks (class, id) stamps.newer stamps.stamped _ stamps.older (sym (counted_marked marks stamps.stamped.stamp tx stamps.commit stamps.was_own stamps.marked)) refl
      (subst (IsChain journal marks (class, id)) stamps.was (kept.chains class id)))

  pub stamp_work : (other : TxId) (snapshot : ℕ) (done : List (Op × Reply)) → IsWork marks before other snapshot done → IsWork marks after other snapshot done
  stamp_work other snapshot done work =
      let differs : Some other ≢ Some tx = (λ e. let same : other ≡ tx = (cc) in let g : marks tx ≡ None = ap marks (sym same) ∙ work.unmarked in let h = stamps.marked in (cc)) in
      same_work_after marks before after class id _ other snapshot done (in_order journal marks before kept) stamps.put
      (restamped_own other stamps.newer stamps.stamped _ stamps.older (others_own (Some other) tx stamps.stamped.stamp differs stamps.was_own) refl ∙ ap (own_version other) (sym stamps.was))
      (λ unseen. restamped_unseen marks other snapshot stamps.newer stamps.stamped _ stamps.older (sym (counted_marked marks stamps.stamped.stamp tx stamps.commit stamps.was_own stamps.marked)) (λ e. (cc))
      (subst (λ (vs : List Version). AllPairs (IsUnseenBy other snapshot marks) vs) stamps.was unseen))
      work

-- no class is lost, and all other classes stay
stamp_long : (marks : Marks) (before after : Versions) (tx : TxId) (class id : ℕ) → Stamps marks before after tx class id → length after ≡ length before
stamp_long marks before after tx class id stamps = ap (λ (vs : Versions). length vs) stamps.put.is ∙ length-set before class _

stamp_elsewhere : (marks : Marks) (before after : Versions) (tx : TxId) (class id : ℕ) → Stamps marks before after tx class id → (other : ℕ) → other ≢ class → AreSameIn other after before
stamp_elsewhere marks before after tx class id stamps = chain_elsewhere_same before after class id _ stamps.put

-- a version is stamped in both lists, so it is in what is seen with any latches
view_stamped : (marks : Marks) (latches : ℕ) (settled aimed settled_now aimed_now : Versions) (tx : TxId) (class id : ℕ) → length aimed ≡ length settled →
    Stamps marks settled settled_now tx class id → Stamps marks aimed aimed_now tx class id → Stamps marks (view latches settled aimed) (view latches settled_now aimed_now) tx class id
view_stamped marks latches settled aimed settled_now aimed_now tx class id many stamps stamps_aimed = go (holds latches class) refl
  where
    long : length settled_now ≡ length settled
    long = stamp_long marks settled settled_now tx class id stamps

    many_now : length aimed_now ≡ length settled_now
    many_now = stamp_long marks aimed aimed_now tx class id stamps_aimed ∙ many ∙ sym (stamp_long marks settled settled_now tx class id stamps)

    there : class < length (view latches settled aimed)
    there = let h = stamps.put.class_there in let n = length_view latches 0 settled aimed in omega (arith, h, n)

    view_long : length (view latches settled_now aimed_now) ≡ length (view latches settled aimed)
    view_long = length_view latches 0 settled_now aimed_now ∙ long ∙ sym (length_view latches 0 settled aimed)

    elsewhere : (other : ℕ) → other ≢ class → objects_in (view latches settled_now aimed_now) other ≡ objects_in (view latches settled aimed) other
    elsewhere other differs = at (holds latches other) refl
      where
        at : (b : Bool) → holds latches other ≡ b → objects_in (view latches settled_now aimed_now) other ≡ objects_in (view latches settled aimed) other
        at true e =
            view_latched latches settled_now aimed_now other many_now e ∙ stamp_elsewhere marks aimed aimed_now tx class id stamps_aimed other differs
            ∙ sym (view_latched latches settled aimed other many e)
        at false e =
            view_free latches settled_now aimed_now other e ∙ stamp_elsewhere marks settled settled_now tx class id stamps other differs
            ∙ sym (view_free latches settled aimed other e)

    go : (b : Bool) → holds latches class ≡ b → Stamps marks (view latches settled aimed) (view latches settled_now aimed_now) tx class id
    go true e =
        moved_stamp aimed aimed_now (view latches settled aimed) (view latches settled_now aimed_now) class there view_long
        (view_latched latches settled aimed class many e) (view_latched latches settled_now aimed_now class many_now e) elsewhere marks tx id stamps_aimed
    go false e =
        moved_stamp settled settled_now (view latches settled aimed) (view latches settled_now aimed_now) class there view_long
        (view_free latches settled aimed class e) (view_free latches settled_now aimed_now class e) elsewhere marks tx id stamps

pub stamps_version : (schema : Schema) (manager : Manager) (before after : History) (slot class id : ℕ) → IsSerial schema manager before → StampsVersion manager before after slot class id → IsSerial schema manager after
stamps_version schema manager before after slot class id serial move =
    turned schema manager before after s_now slot (Some move.was) (Some move.was) turns scene serial is_scene
    (λ other q differs there is_other. carried schema manager (scene_of before) s_now other q (carries other q) is_other)
    (λ other number differs free. free)
    (carried schema manager (scene_of before) s_now slot move.was (carries slot move.was) (connection_of schema manager before slot move.was serial move.there))
    (apart_turned before.course after.course slot turns.others (same_made before.course after.course slot move.was move.was move.there turns.is_there (λ object made. made)) serial.apart)
    (agrees_turned manager before after slot (Some move.was) (Some move.was) turns
    (floors_stay before after slot move.was move.was turns (same_commits before after move.journal.journal) (λ t open_one. inr (t, open_one, refl)))
    (stamp_long (marks_of before.course) before.settled after.settled tx class id move.settled) (λ many k. agree many k (nat_eq k class) refl) serial.agrees)
  where
    tx : TxId
    tx = tx_of move.was move.transaction

    s_now : Scene
    s_now = record (scene_of before) { settled = after.settled; aimed = after.aimed }

    turns : Turns before after slot (Some move.was) (Some move.was)
    turns = record { was_there = move.there; is_there = move.course slot ∙ move.there; others = λ other differs. move.course other }

    scene : scene_of after ≡ s_now
    scene =
        let marks = marks_same before.course after.course slot turns.others (λ x. ap (mark_in x) (move.course slot)) in
        λ i. record { journal = move.journal.journal i; marks = marks i; drawn = move.journal.drawn i; settled = after.settled; aimed = after.aimed }

    is_scene : IsScene schema s_now
    is_scene = record {
      law = serial.scene.law;
      aborts = serial.scene.aborts;
      reads = serial.scene.reads;
      drawn = serial.scene.drawn;
      settled = stamp_kept before.journal (marks_of before.course) before.settled after.settled tx class id serial.scene.settled move.settled;
      aimed = stamp_kept before.journal (marks_of before.course) before.aimed after.aimed tx class id serial.scene.aimed move.aimed;
      classes = stamp_long (marks_of before.course) before.settled after.settled tx class id move.settled ∙ serial.scene.classes;
      classes_aimed = stamp_long (marks_of before.course) before.aimed after.aimed tx class id move.aimed ∙ serial.scene.classes_aimed;
      current = stamp_shown before.journal (marks_of before.course) before.settled after.settled tx class id serial.scene.settled move.settled (commits before.journal) None ∙ serial.scene.current;
    }

    carries : (other : ℕ) (q : Progress) → Carries schema manager (scene_of before) s_now other q
    carries other q = record {
      more = [];
      journal = sym (append-nil before.journal);
      shows = λ t open_one begun. stamp_shown before.journal (marks_of before.course) before.settled after.settled tx class id serial.scene.settled move.settled t.snapshot None;
      mine = λ t open_one begun unmarked live. seen t.snapshot (Some (tx_of q t));
      work = λ t open_one begun unmarked live work. stamp_work before.journal (marks_of before.course) (view q.latches before.settled before.aimed) (view q.latches after.settled after.aimed) tx class id view_kept in_view (tx_of q t) t.snapshot (so_far q) work;
      sees_all = λ t open_one begun unmarked live sees single writes. let all = sees single writes in (all.0, seen (commits before.journal) None ∙ all.1);
      anew = λ anew. anew;
      drawn = λ k. omega arith;
      ended = λ number has. has;
    }
      where
        view_kept : AreVersions before.journal (marks_of before.course) (view q.latches before.settled before.aimed)
        view_kept = kept_either before.journal (marks_of before.course) (view q.latches before.settled before.aimed) before.aimed before.settled
            (λ k. view_either q.latches before.settled before.aimed k (as_many schema (scene_of before) serial.scene)) serial.scene.aimed serial.scene.settled

        in_view : Stamps (marks_of before.course) (view q.latches before.settled before.aimed) (view q.latches after.settled after.aimed) (tx_of move.was move.transaction) class id
        in_view = view_stamped (marks_of before.course) q.latches before.settled before.aimed after.settled after.aimed tx class id (as_many schema (scene_of before) serial.scene) move.settled move.aimed

        seen : (snapshot : ℕ) (reader : Option TxId) → shown (marks_of before.course) snapshot reader (view q.latches after.settled after.aimed) ≡ shown (marks_of before.course) snapshot reader (view q.latches before.settled before.aimed)
        seen snapshot reader = stamp_shown before.journal (marks_of before.course) (view q.latches before.settled before.aimed) (view q.latches after.settled after.aimed) tx class id view_kept in_view snapshot reader

    agree : manager ≡ managers.Mvcc → (k : ℕ) (b : Bool) → nat_eq k class ≡ b →
        (AreSameIn k after.aimed after.settled ⊎ IsPlanned after.journal after.course after.settled after.aimed k) ⊎ StaysIn before after (Some move.was) (Some move.was) k
    agree many k true e = let one : class ≡ k = grind (arith, nat_tests) in inl (inl (subst (λ (c : ℕ). AreSameIn c after.aimed after.settled) one (move.same many)))
    agree many k false e =
        let differs : k ≢ class = grind (arith, nat_tests) in
        inr (record {
          keeps = plan_stays move.was move.was k (λ t open_one unmarked held plans. (open_one, refl, held, plans));
          settled = stamp_elsewhere (marks_of before.course) before.settled after.settled tx class id move.settled k differs;
          aimed = stamp_elsewhere (marks_of before.course) before.aimed after.aimed tx class id move.aimed k differs;
        })
