-- Plans are made, and plans are given up: what is aimed at changes, and the settled versions stay.
use Rattle.std.proofs.Common.{◌≡◌, ◌≢◌, ◌⊎◌, inl, inr, ℕ, ◌<◌, ◌≤◌, Bool, true, false, ◌&&◌, ◌==◌, cond, length, slice_index, Option, Some, None, nat_eq, refl, sym, ap, ap₂, subst, ◌∙◌, arith, length-set, option_and_then}
use Rattle.std.proofs.lemmas.Bool.Decides.{nat_tests}
use Rattle.rdb_base.specs.declared.identity.ConnId.{ConnId}
use Rattle.rdb_base.specs.declared.identity.Manager.{Manager}
use Rattle.rdb_base.specs.declared.identity.Manager.TheVariants as managers
use Rattle.rdb_base.specs.declared.identity.TxId.{TxId}
use Rattle.rdb_schema.specs.declared.schema.Schema.{Schema}
use Rattle.rdb_registry.specs.declared.seat.Transaction.{Transaction}
use Rattle.rdb_registry.specs.Seats.{mark_if}
use Rattle.rdb_sight.specs.Versions.{Versions, objects_in}
use Rattle.rdb_shown.specs.Kept.{AreVersions}
use Rattle.rdb_serial.specs.Progress.{Progress, Course, tx_of, holds, mark_in, marks_of}
use Rattle.rdb_serial.specs.Histories.{History, scene_of, view, view_in, AreSameIn, with_class, IsFloor, IsOneChange, IsPlanned}
use Rattle.rdb_serial.specs.Serial.{IsConnection, StoriesAreApart, IsSerial}
use Rattle.rdb_serial.specs.Moves.{Turns}
use Rattle.rdb_serial.proofs.ViewLemmas.{length_view, view_latched, view_free, view_either, views_are_one, class_here, class_elsewhere}
use Rattle.rdb_serial.proofs.ClassLemmas.{kept_either}
use Rattle.rdb_serial.proofs.ProgressLemmas.{mark_by, own_mark, marks_same}
use Rattle.rdb_serial.proofs.ChangeLemmas.{change_kept, change_there, change_long, change_elsewhere, moved_change}
use Rattle.rdb_serial.proofs.CarryLemmas.{carried}
use Rattle.rdb_serial.proofs.TurnLemmas.{turned}
use Rattle.rdb_serial.proofs.StillLemmas.{floors_stay, plan_stays, StaysIn, agrees_turned, connection_of}
use Rattle.rdb_serial.proofs.StoryLemmas.{never}
use Rattle.rdb_serial.proofs.StoryMoves.{as_many, same_commits}
use Rattle.rdb_serial.proofs.AimLemmas.{carries_aims, scene_aims}

-- the mark of a connection's transaction among all
pub mark_here : (course : Course) (slot : ℕ) (p : Progress) (t : Transaction) → course slot ≡ Some p → p.conn.slot ≡ slot → p.transaction ≡ Some t → marks_of course (tx_of p t) ≡ t.mark
mark_here course slot p t there place open_one = ap (λ (k : ℕ). mark_in (tx_of p t) (course k)) place ∙ ap (mark_in (tx_of p t)) there ∙ own_mark p t open_one

-- Who has no plan aims at the settled versions in its classes, where many may write.
pub aims_at_settled : (schema : Schema) (manager : Manager) (h : History) (slot class : ℕ) (p : Progress) → IsSerial schema manager h → h.course slot ≡ Some p → p.plans ≡ false →
    ((other : ℕ) (q : Progress) → h.course other ≡ Some q → holds q.latches class ≡ true → other ≡ slot) → manager ≡ managers.Mvcc → AreSameIn class h.aimed h.settled
aims_at_settled schema manager h slot class p serial there unplanned once many = go (serial.agrees many class)
  where
    go : AreSameIn class h.aimed h.settled ⊎ IsPlanned h.journal h.course h.settled h.aimed class → AreSameIn class h.aimed h.settled
    go (inl same) = same
    go (inr planned) =
        let is : planned.slot ≡ slot = once planned.slot planned.progress planned.there planned.latched in
        let mine : Some planned.progress ≡ Some p = sym planned.there ∙ ap h.course is ∙ there in
        let one : planned.progress ≡ p = (cc) in
        never p.plans unplanned (sym (ap (λ (r : Progress). r.plans) one) ∙ planned.plans)

-- one connection plans one change of what it aims at
pub record Planning (schema : Schema) (manager : Manager) (before after : History) (slot class : ℕ) (was now : Progress) (t : Transaction) : Type 0 where
  pub serial : IsSerial schema manager before
  pub turns : Turns before after slot (Some was) (Some now)
  pub journal : after.journal ≡ before.journal
  pub settled : after.settled ≡ before.settled
  pub grows : (k : ℕ) → slice_index before.drawn k ≤ slice_index after.drawn k
  pub open_was : was.transaction ≡ Some t
  pub open_now : now.transaction ≡ Some t
  pub conn : now.conn ≡ was.conn
  pub unmarked : t.mark ≡ None
  pub unplanned : was.plans ≡ false
  pub plans : now.plans ≡ true
  pub latched : holds now.latches class ≡ true
  pub apart : (other : ℕ) (q : Progress) → other ≢ slot → before.course other ≡ Some q → holds q.latches class ≡ false
  pub same : manager ≡ managers.Mvcc → AreSameIn class before.aimed before.settled
  pub change : IsOneChange before.journal before.course (tx_of was t) before.aimed after.aimed class

module _ (schema : Schema) (manager : Manager) (before after : History) (slot class : ℕ) (was now : Progress) (t : Transaction) (p : Planning schema manager before after slot class was now t) where
  is : IsConnection schema manager (scene_of before) slot was
  is = connection_of schema manager before slot was p.serial p.turns.was_there

  pub unmarked_tx : marks_of before.course (tx_of was t) ≡ None
  unmarked_tx = mark_here before.course slot was t p.turns.was_there is.place p.open_was ∙ p.unmarked

  long : length after.aimed ≡ length before.aimed
  long = change_long before.journal before.course (tx_of was t) before.aimed after.aimed class p.change

  elsewhere : (other : ℕ) → other ≢ class → AreSameIn other after.aimed before.aimed
  elsewhere = change_elsewhere before.journal before.course (tx_of was t) before.aimed after.aimed class p.change

  aimed_kept : AreVersions before.journal (marks_of before.course) after.aimed
  aimed_kept = change_kept before.journal before.course (marks_of before.course) (tx_of was t) before.aimed after.aimed class p.serial.scene.aimed unmarked_tx p.change

  scene_planned : scene_of after ≡ record (scene_of before) { drawn = after.drawn; aimed = after.aimed }
  scene_planned =
      let marks = marks_same before.course after.course slot p.turns.others (λ x. ap (mark_in x) p.turns.is_there ∙ mark_by x now ∙ same_mark x ∙ sym (ap (mark_in x) p.turns.was_there ∙ mark_by x was)) in
      λ i. record { journal = p.journal i; marks = marks i; drawn = after.drawn; settled = p.settled i; aimed = after.aimed }
    where
      same_mark : (x : TxId) → cond ((now.conn.slot == x.conn.slot) && (now.conn.serial == x.conn.serial)) (option_and_then (mark_if x.number) now.transaction) None
          ≡ cond ((was.conn.slot == x.conn.slot) && (was.conn.serial == x.conn.serial)) (option_and_then (mark_if x.number) was.transaction) None
      same_mark x = ap₂ (λ (c : ConnId) (o : Option Transaction). cond ((c.slot == x.conn.slot) && (c.serial == x.conn.serial)) (option_and_then (mark_if x.number) o) None) p.conn (p.open_now ∙ sym p.open_was)

  floors : (floor : ℕ) → IsFloor before.journal before.course floor → IsFloor after.journal after.course floor
  floors = floors_stay before after slot was now p.turns (same_commits before after p.journal) (λ u open_one. inr (u, p.open_was ∙ sym p.open_now ∙ open_one, refl))

  new_plan : manager ≡ managers.Mvcc → IsPlanned after.journal after.course after.settled after.aimed class
  new_plan many = record {
    slot = slot;
    progress = now;
    transaction = t;
    there = p.turns.is_there;
    open_one = p.open_now;
    unmarked = p.unmarked;
    latched = p.latched;
    plans = p.plans;
    changes = subst (λ (c : ConnId). IsOneChange after.journal after.course (record { conn = c; number = t.number }) after.settled (with_class after.settled class after.aimed) class) (sym p.conn)
        (moved_change before.aimed after.aimed after.settled (with_class after.settled class after.aimed) class there (length-set after.settled class (objects_in after.aimed class))
        (ap (λ (vs : Versions). objects_in vs class) p.settled ∙ sym (p.same many)) (class_here after.settled class after.aimed there) (λ other differs. class_elsewhere after.settled class after.aimed other differs)
        before.journal after.journal before.course after.course (tx_of was t) floors p.change);
  }
    where
      there : class < length after.settled
      there =
          let h = change_there before.journal before.course (tx_of was t) before.aimed after.aimed class p.change in
          let m = as_many schema (scene_of before) p.serial.scene in
          let n : length after.settled ≡ length before.settled = ap (λ (vs : Versions). length vs) p.settled in
          omega (arith, h, m, n)

  -- the history goes on, by what is so of the connection and of the objects that its story makes
  pub planned : StoriesAreApart after.course → IsConnection schema manager (record (scene_of before) { drawn = after.drawn; aimed = after.aimed }) slot now → IsSerial schema manager after
  planned stories here =
      turned schema manager before after (record (scene_of before) { drawn = after.drawn; aimed = after.aimed }) slot (Some was) (Some now) p.turns scene_planned p.serial
      (scene_aims schema (scene_of before) after.drawn after.aimed p.serial.scene p.grows aimed_kept long)
      (λ other q differs there is_other. carried schema manager (scene_of before) (record (scene_of before) { drawn = after.drawn; aimed = after.aimed }) other q
      (carries_aims schema manager (scene_of before) other q after.drawn after.aimed (sees other q differs there) p.grows) is_other)
      (λ other number differs free. free) here stories
      (agrees_turned manager before after slot (Some was) (Some now) p.turns floors (ap (λ (vs : Versions). length vs) p.settled) (λ many k. each many k (nat_eq k class) refl) p.serial.agrees)
    where
      sees : (other : ℕ) (q : Progress) → other ≢ slot → before.course other ≡ Some q → view q.latches before.settled after.aimed ≡ view q.latches before.settled before.aimed
      sees other q differs there =
          views_are_one q.latches before.settled before.aimed before.settled after.aimed (as_many schema (scene_of before) p.serial.scene) (long ∙ as_many schema (scene_of before) p.serial.scene) refl
          (λ k held. at k held (nat_eq k class) refl) (λ k free. refl)
        where
          at : (k : ℕ) → holds q.latches k ≡ true → (b : Bool) → nat_eq k class ≡ b → AreSameIn k after.aimed before.aimed
          at k held true e =
              let one : class ≡ k = grind (arith, nat_tests) in
              never (holds q.latches k) (ap (holds q.latches) (sym one) ∙ p.apart other q differs there) held
          at k held false e = let other_class : k ≢ class = grind (arith, nat_tests) in elsewhere k other_class

      each : manager ≡ managers.Mvcc → (k : ℕ) (b : Bool) → nat_eq k class ≡ b → (AreSameIn k after.aimed after.settled ⊎ IsPlanned after.journal after.course after.settled after.aimed k) ⊎ StaysIn before after (Some was) (Some now) k
      each many k true e =
          let one : class ≡ k = grind (arith, nat_tests) in
          inl (inr (subst (IsPlanned after.journal after.course after.settled after.aimed) one (new_plan many)))
      each many k false e =
          let other_class : k ≢ class = grind (arith, nat_tests) in
          inr (record {
            keeps = plan_stays was now k (λ u open_one none held planning. never was.plans p.unplanned planning);
            settled = ap (λ (vs : Versions). objects_in vs k) p.settled;
            aimed = elsewhere k other_class;
          })

  -- what the connection sees, where it holds the latch already
  module _ (held : holds was.latches class ≡ true) where
    pub view_kept : AreVersions before.journal (marks_of before.course) (view_in (scene_of before) was)
    view_kept = kept_either before.journal (marks_of before.course) (view_in (scene_of before) was) before.aimed before.settled (λ k. view_either was.latches before.settled before.aimed k (as_many schema (scene_of before) p.serial.scene))
        p.serial.scene.aimed p.serial.scene.settled

    pub view_there : class < length (view was.latches before.settled before.aimed)
    view_there =
        let h = change_there before.journal before.course (tx_of was t) before.aimed after.aimed class p.change in
        let m = as_many schema (scene_of before) p.serial.scene in
        let n = length_view was.latches 0 before.settled before.aimed in
        omega (arith, h, m, n)

    pub view_long : length (view was.latches before.settled after.aimed) ≡ length (view was.latches before.settled before.aimed)
    view_long = length_view was.latches 0 before.settled after.aimed ∙ sym (length_view was.latches 0 before.settled before.aimed)

    pub view_was : objects_in (view was.latches before.settled before.aimed) class ≡ objects_in before.aimed class
    view_was = view_latched was.latches before.settled before.aimed class (as_many schema (scene_of before) p.serial.scene) held

    pub view_now : objects_in (view was.latches before.settled after.aimed) class ≡ objects_in after.aimed class
    view_now = view_latched was.latches before.settled after.aimed class (long ∙ as_many schema (scene_of before) p.serial.scene) held

    pub view_elsewhere : (other : ℕ) → other ≢ class → objects_in (view was.latches before.settled after.aimed) other ≡ objects_in (view was.latches before.settled before.aimed) other
    view_elsewhere other differs = go (holds was.latches other) refl
      where
        go : (b : Bool) → holds was.latches other ≡ b → objects_in (view was.latches before.settled after.aimed) other ≡ objects_in (view was.latches before.settled before.aimed) other
        go true e =
            view_latched was.latches before.settled after.aimed other (long ∙ as_many schema (scene_of before) p.serial.scene) e ∙ elsewhere other differs
            ∙ sym (view_latched was.latches before.settled before.aimed other (as_many schema (scene_of before) p.serial.scene) e)
        go false e = view_free was.latches before.settled after.aimed other e ∙ sym (view_free was.latches before.settled before.aimed other e)

    pub view_change : IsOneChange before.journal before.course (tx_of was t) (view was.latches before.settled before.aimed) (view was.latches before.settled after.aimed) class
    view_change = moved_change before.aimed after.aimed (view was.latches before.settled before.aimed) (view was.latches before.settled after.aimed) class view_there view_long view_was view_now view_elsewhere
        before.journal before.journal before.course before.course (tx_of was t) (λ floor is_floor. is_floor) p.change
