-- Plans of drops are made, and plans are given up.
use Rattle.std.proofs.Common.{◌≡◌, ◌≢◌, ◌⊎◌, inl, inr, ℕ, ◌≤◌, Bool, true, false, List, [], ◌∷◌, ◌++◌, length, slice_index, Option, Some, None, nat_eq, refl, sym, ap, subst, ◌∙◌, arith, append-nil}
use Rattle.std.proofs.lemmas.List.Elements.{filter_map-append}
use Rattle.std.proofs.lemmas.Bool.Decides.{nat_tests}
use Rattle.rdb_base.specs.declared.identity.Manager.{Manager}
use Rattle.rdb_base.specs.declared.identity.Manager.TheVariants as managers
use Rattle.rdb_base.specs.declared.identity.TxId.{TxId}
use Rattle.rdb_base.specs.declared.operation.Op.{Op}
use Rattle.rdb_base.specs.declared.operation.Reply.{Reply}
use Rattle.rdb_schema.specs.declared.schema.Schema.{Schema}
use Rattle.rdb_registry.specs.declared.hand.Work.{Work}
use Rattle.rdb_registry.specs.declared.seat.Transaction.{Transaction}
use Rattle.rdb_sight.specs.Versions.{Versions, objects_in, shown}
use Rattle.rdb_model.specs.Database.{Database}
use Rattle.rdb_model.specs.Journal.{commits, made_by, made_in, made_before, was_made}
use Rattle.rdb_model.specs.Validation.{MakesAnew}
use Rattle.rdb_model.proofs.MadeObjects.{made_left}
use Rattle.rdb_shown.specs.Kept.{AreVersions}
use Rattle.rdb_serial.specs.Progress.{Progress, Course, tx_of, holds, is_live, done_by_plan, so_far, mark_in, marks_of}
use Rattle.rdb_serial.specs.Histories.{History, Scene, scene_of, view, shown_to, AreSameIn, DropsOld, IsPlanned, AreHeldOnce}
use Rattle.rdb_serial.specs.Serial.{IsBegun, IsUnrefused, IsGoingOn, IsOpen, IsConnection, IsSerial}
use Rattle.rdb_serial.specs.Moves.{PlansGarbage, PlansDrop, LaysDown}
use Rattle.rdb_serial.proofs.ClassLemmas.{kept_either}
use Rattle.rdb_serial.proofs.ProgressLemmas.{mark_by, marks_same}
use Rattle.rdb_serial.proofs.ChangeLemmas.{moved_garbage, old_unseen, old_is_no_work}
use Rattle.rdb_serial.proofs.CarryLemmas.{Carries, carried, drawn_more}
use Rattle.rdb_serial.proofs.TurnLemmas.{MakesNoMore, apart_turned, turned}
use Rattle.rdb_serial.proofs.StillLemmas.{StaysIn, floors_stay, plan_stays, agrees_turned, connection_of}
use Rattle.rdb_serial.proofs.StoryLemmas.{never}
use Rattle.rdb_serial.proofs.StoryMoves.{as_many, same_commits}
use Rattle.rdb_serial.proofs.AimLemmas.{carries_aims, scene_aims, others_see_the_same}
use Rattle.rdb_serial.proofs.PlanMoves.{aims_at_settled, Planning, planned, view_kept, view_there, view_long, view_was, view_now, view_elsewhere, unmarked_tx}

-- nobody else holds a latch that one holds
pub held_by_one : (course : Course) (slot class : ℕ) (was : Progress) → AreHeldOnce course → course slot ≡ Some was → holds was.latches class ≡ true → (other : ℕ) (q : Progress) → other ≢ slot → course other ≡ Some q → holds q.latches class ≡ false
held_by_one course slot class was once there held other q differs there_q = go (holds q.latches class) refl
  where
    go : (b : Bool) → holds q.latches class ≡ b → holds q.latches class ≡ false
    go true e = absurd (differs (once class other slot q was there_q there e held))
    go false e = e

-- the ids drawn stay
pub same_drawn : (drawn now : List ℕ) → now ≡ drawn → (k : ℕ) → slice_index drawn k ≤ slice_index now k
same_drawn drawn now same k = let d = ap (λ (ds : List ℕ). slice_index ds k) same in omega (arith, d)

-- one story for another that is the same
pub same_made : (before after : Course) (slot : ℕ) (was now : Progress) → before slot ≡ Some was → after slot ≡ Some now → ((object : ℕ × ℕ) → was_made (made_in (so_far now)) object ≡ true → was_made (made_in (so_far was)) object ≡ true) → MakesNoMore (before slot) (after slot)
same_made before after slot was now there_was there_now no_more =
    subst (λ (o : Option Progress). MakesNoMore o (after slot)) (sym there_was) (subst (λ (o : Option Progress). MakesNoMore (Some was) o) (sym there_now) no_more)

pub begun_again : (schema : Schema) (s : Scene) (drawn : List ℕ) (aimed : Versions) (t : Transaction) → IsBegun schema s t → IsBegun schema (record s { drawn = drawn; aimed = aimed }) t
begun_again schema s drawn aimed t begun = record { begun = begun.begun; snapshot = begun.snapshot; shows = begun.shows }

pub garbage : (schema : Schema) (manager : Manager) (before after : History) (slot class id floor : ℕ) → IsSerial schema manager before → AreHeldOnce before.course → PlansGarbage before after slot class id floor → IsSerial schema manager after
garbage schema manager before after slot class id floor serial once move =
    planned schema manager before after slot class move.was now t plan
    (apart_turned before.course after.course slot move.turns.others (same_made before.course after.course slot move.was now move.turns.was_there move.turns.is_there (λ object made. made)) serial.apart)
    (record {
      place = is.place;
      ended = is.ended;
      anew = is.anew;
      drawn = drawn_more before.drawn after.drawn (made_in (so_far move.was)) grows is.drawn;
      open_one = λ u e. subst (IsOpen schema manager s_now now) (let same : Some t ≡ Some u = sym move.to_plan.open_one.open_one ∙ e in let one : t ≡ u = (cc) in one) opened;
    })
  where
    t : Transaction
    t = move.transaction

    now : Progress
    now = record move.was { plans = true }

    s_now : Scene
    s_now = record (scene_of before) { drawn = after.drawn; aimed = after.aimed }

    is : IsConnection schema manager (scene_of before) slot move.was
    is = connection_of schema manager before slot move.was serial move.turns.was_there

    was_open : IsOpen schema manager (scene_of before) move.was move.transaction
    was_open = is.open_one move.transaction move.to_plan.open_one.open_one

    on : IsGoingOn schema manager (scene_of before) move.was move.transaction
    on = was_open.goes_on move.to_plan.open_one.unmarked move.to_plan.live

    grows : (k : ℕ) → slice_index before.drawn k ≤ slice_index after.drawn k
    grows = same_drawn before.drawn after.drawn move.journal.drawn

    plan : Planning schema manager before after slot class move.was now move.transaction
    plan = record {
      serial = serial;
      turns = move.turns;
      journal = move.journal.journal;
      settled = move.settled;
      grows = grows;
      open_was = move.to_plan.open_one.open_one;
      open_now = move.to_plan.open_one.open_one;
      conn = refl;
      unmarked = move.to_plan.open_one.unmarked;
      unplanned = move.to_plan.plans;
      plans = refl;
      latched = move.latched;
      apart = held_by_one before.course slot class move.was once move.turns.was_there move.latched;
      same = aims_at_settled schema manager before slot class move.was serial move.turns.was_there move.to_plan.plans (λ other q there held. once class other slot q move.was there move.turns.was_there held move.latched);
      change = inr (inr (record { id = id; floor = floor; least = move.least; drops = move.drops }));
    }

    one : DropsOld before.journal before.course (view move.was.latches before.settled before.aimed) (view move.was.latches before.settled after.aimed) class
    one = record {
      id = id;
      floor = floor;
      least = move.least;
      drops = moved_garbage before.aimed after.aimed (view move.was.latches before.settled before.aimed) (view move.was.latches before.settled after.aimed) class
          (view_there schema manager before after slot class move.was now t plan move.latched) (view_long schema manager before after slot class move.was now t plan move.latched)
          (view_was schema manager before after slot class move.was now t plan move.latched) (view_now schema manager before after slot class move.was now t plan move.latched)
          (view_elsewhere schema manager before after slot class move.was now t plan move.latched) (Some floor) id move.drops;
    }

    kept : AreVersions before.journal (marks_of before.course) (view move.was.latches before.settled before.aimed)
    kept = view_kept schema manager before after slot class move.was now t plan move.latched

    marks_none : marks_of before.course (tx_of move.was move.transaction) ≡ None
    marks_none = unmarked_tx schema manager before after slot class move.was now t plan

    unseen : (snapshot : ℕ) (reader : Option TxId) → floor ≤ snapshot → shown (marks_of before.course) snapshot reader (view move.was.latches before.settled after.aimed) ≡ shown (marks_of before.course) snapshot reader (view move.was.latches before.settled before.aimed)
    unseen snapshot reader above = old_unseen before.journal before.course (marks_of before.course) (tx_of move.was t) (view move.was.latches before.settled before.aimed) (view move.was.latches before.settled after.aimed) class kept marks_none one snapshot reader above

    mine : shown (marks_of before.course) move.transaction.snapshot (Some (tx_of move.was move.transaction)) (view move.was.latches before.settled after.aimed) ≡ shown_to (scene_of before) move.was move.transaction
    mine = unseen t.snapshot (Some (tx_of move.was t)) (move.least.least slot move.was t move.turns.was_there move.to_plan.open_one.open_one)

    opened : IsOpen schema manager s_now now t
    opened = record {
      number = was_open.number;
      begun = begun_again schema (scene_of before) after.drawn after.aimed t was_open.begun;
      unended = was_open.unended;
      committed = was_open.committed;
      goes_on = λ unmarked live. record {
        work = old_is_no_work before.journal before.course (marks_of before.course) (tx_of move.was t) (view move.was.latches before.settled before.aimed) (view move.was.latches before.settled after.aimed) class kept marks_none one (tx_of move.was t) t.snapshot (so_far move.was) on.work;
        runs = on.runs ∙ ap Some (sym mine);
        unrefused = λ w in_work unplanned. subst (λ (db : Database). IsUnrefused schema db w.op) (sym mine) (on.unrefused w in_work unplanned);
        fits = on.fits;
        fits_work = on.fits_work;
        sees_all = λ single writes. let all = on.sees_all single writes in (all.0, unseen (commits before.journal) None move.least.there ∙ all.1);
      };
      rolls_back = was_open.rolls_back;
    }

-- what is so of an open transaction that doesn't go on rests on nothing that its connection has in hand but its story and its cause
dead_open : (schema : Schema) (manager : Manager) (s : Scene) (p : Progress) (t : Transaction) (work : Option Work) (latches : ℕ) (plans : Bool) → is_live p ≡ false → IsOpen schema manager s p t → IsOpen schema manager s (record p { work = work; latches = latches; plans = plans }) t
dead_open schema manager s p t work latches plans dead is = record {
  number = is.number;
  begun = is.begun;
  unended = is.unended;
  committed = is.committed;
  goes_on = λ unmarked live. never (is_live p) dead live;
  rolls_back = is.rolls_back;
}

-- a connection that doesn't go on sees nothing
carries_dead : (schema : Schema) (manager : Manager) (s : Scene) (slot : ℕ) (p : Progress) (drawn : List ℕ) (aimed : Versions) → is_live p ≡ false → ((k : ℕ) → slice_index s.drawn k ≤ slice_index drawn k) → Carries schema manager s (record s { drawn = drawn; aimed = aimed }) slot p
carries_dead schema manager s slot p drawn aimed dead grows = record {
  more = [];
  journal = sym (append-nil s.journal);
  shows = λ t open_one begun. refl;
  mine = λ t open_one begun unmarked live. never (is_live p) dead live;
  work = λ t open_one begun unmarked live. never (is_live p) dead live;
  sees_all = λ t open_one begun unmarked live. never (is_live p) dead live;
  anew = λ anew. anew;
  drawn = grows;
  ended = λ number is. is;
}

pub drops : (schema : Schema) (manager : Manager) (before after : History) (slot class id : ℕ) → IsSerial schema manager before → AreHeldOnce after.course → PlansDrop before after slot class id → IsSerial schema manager after
drops schema manager before after slot class id serial once move =
    planned schema manager before after slot class move.was now t plan
    (apart_turned before.course after.course slot move.turns.others (same_made before.course after.course slot move.was now move.turns.was_there move.turns.is_there (λ object made. made)) serial.apart)
    (record {
      place = is_now.place;
      ended = is_now.ended;
      anew = is_now.anew;
      drawn = is_now.drawn;
      open_one = λ u e. dead_open schema manager s_now move.was u move.was.work move.latches true move.given_up (is_now.open_one u e);
    })
  where
    t : Transaction
    t = move.transaction

    now : Progress
    now = record move.was { plans = true; latches = move.latches }

    s_now : Scene
    s_now = record (scene_of before) { drawn = after.drawn; aimed = after.aimed }

    grows : (k : ℕ) → slice_index before.drawn k ≤ slice_index after.drawn k
    grows = same_drawn before.drawn after.drawn move.journal.drawn

    is : IsConnection schema manager (scene_of before) slot move.was
    is = connection_of schema manager before slot move.was serial move.turns.was_there

    is_now : IsConnection schema manager s_now slot move.was
    is_now = carried schema manager (scene_of before) s_now slot move.was (carries_dead schema manager (scene_of before) slot move.was after.drawn after.aimed move.given_up grows) is

    apart : (other : ℕ) (q : Progress) → other ≢ slot → before.course other ≡ Some q → holds q.latches class ≡ false
    apart other q differs there = held_by_one after.course slot class now once move.turns.is_there move.latched other q differs (move.turns.others other differs ∙ there)

    same : manager ≡ managers.Mvcc → AreSameIn class before.aimed before.settled
    same many = go (holds move.was.latches class) refl
      where
        mine : (other : ℕ) (q : Progress) → before.course other ≡ Some q → holds q.latches class ≡ true → other ≡ slot
        mine other q there held = at (nat_eq other slot) refl
          where
            at : (b : Bool) → nat_eq other slot ≡ b → other ≡ slot
            at true e = grind (arith, nat_tests)
            at false e = let differs : other ≢ slot = grind (arith, nat_tests) in never (holds q.latches class) (apart other q differs there) held

        go : (b : Bool) → holds move.was.latches class ≡ b → AreSameIn class before.aimed before.settled
        go true e = aims_at_settled schema manager before slot class move.was serial move.turns.was_there move.plans mine many
        go false e = move.takes.free class move.latched e

    plan : Planning schema manager before after slot class move.was now move.transaction
    plan = record {
      serial = serial;
      turns = move.turns;
      journal = move.journal.journal;
      settled = move.settled;
      grows = grows;
      open_was = move.open_one.open_one;
      open_now = move.open_one.open_one;
      conn = refl;
      unmarked = move.open_one.unmarked;
      unplanned = move.plans;
      plans = refl;
      latched = move.latched;
      apart = apart;
      same = same;
      change = inr (inl (record { id = id; drops = move.drops }));
    }

-- what a story makes at first
pub anew_front : (made : List (ℕ × ℕ)) (xs ys : List (Op × Reply)) → MakesAnew made (xs ++ ys) → MakesAnew made xs
anew_front made [] ys anew = tt
anew_front made (x ∷ xs) ys anew = (anew.0, anew_front (made ++ made_in (x ∷ [])) xs ys anew.1)

pub made_front : (xs ys : List (Op × Reply)) (object : ℕ × ℕ) → was_made (made_in xs) object ≡ true → was_made (made_in (xs ++ ys)) object ≡ true
made_front xs ys object made = subst (λ (l : List (ℕ × ℕ)). was_made l object ≡ true) (sym (filter_map-append made_by xs ys)) (made_left (made_in xs) (made_in ys) object made)

pub lays_down : (schema : Schema) (manager : Manager) (before after : History) (slot : ℕ) → IsSerial schema manager before → AreHeldOnce before.course → LaysDown before after slot → IsSerial schema manager after
lays_down schema manager before after slot serial once move =
    turned schema manager before after s_now slot (Some move.was) (Some now) move.turns scene serial
    (scene_aims schema (scene_of before) after.drawn after.aimed serial.scene grows
    (kept_either before.journal (marks_of before.course) after.aimed before.settled before.aimed (λ class. either class (holds move.was.latches class) refl) serial.scene.settled serial.scene.aimed) move.aimed.count)
    (λ other q differs there is_other. carried schema manager (scene_of before) s_now other q
    (carries_aims schema manager (scene_of before) other q after.drawn after.aimed
    (others_see_the_same before.course before.settled before.aimed after.aimed slot other move.was q once move.turns.was_there there differs (as_many schema (scene_of before) serial.scene) move.aimed.count (λ class free. move.aimed.elsewhere class free)) grows) is_other)
    (λ other number differs free. free)
    (record {
      place = is_now.place;
      ended = is_now.ended;
      anew = story (λ (d : List (Op × Reply)). MakesAnew (made_before before.journal) d) is_now.anew (λ anew. subst (MakesAnew (made_before before.journal)) (sym (append-nil move.was.done)) (anew_front (made_before before.journal) move.was.done (done_by_plan move.was.work) anew));
      drawn = λ class id made. is_now.drawn class id (less (class, id) made);
      open_one = λ u e. dead_open schema manager s_now move.was u move.work move.latches move.plans move.given_up (is_now.open_one u e);
    })
    (apart_turned before.course after.course slot move.turns.others (same_made before.course after.course slot move.was now move.turns.was_there move.turns.is_there less) serial.apart)
    (agrees_turned manager before after slot (Some move.was) (Some now) move.turns
    (floors_stay before after slot move.was now move.turns (same_commits before after move.journal.journal) (λ u open_one. inr (u, open_one, refl)))
    (ap (λ (vs : Versions). length vs) move.settled) (λ many class. agree class (holds move.was.latches class) refl) serial.agrees)
  where
    now : Progress
    now = record move.was { work = move.work; plans = move.plans; latches = move.latches }

    s_now : Scene
    s_now = record (scene_of before) { drawn = after.drawn; aimed = after.aimed }

    grows : (k : ℕ) → slice_index before.drawn k ≤ slice_index after.drawn k
    grows = same_drawn before.drawn after.drawn move.journal.drawn

    is : IsConnection schema manager (scene_of before) slot move.was
    is = connection_of schema manager before slot move.was serial move.turns.was_there

    is_now : IsConnection schema manager s_now slot move.was
    is_now = carried schema manager (scene_of before) s_now slot move.was (carries_dead schema manager (scene_of before) slot move.was after.drawn after.aimed move.given_up grows) is

    scene : scene_of after ≡ s_now
    scene =
        let marks = marks_same before.course after.course slot move.turns.others (λ x. ap (mark_in x) move.turns.is_there ∙ mark_by x now ∙ sym (ap (mark_in x) move.turns.was_there ∙ mark_by x move.was)) in
        λ i. record { journal = move.journal.journal i; marks = marks i; drawn = after.drawn; settled = move.settled i; aimed = after.aimed }

    either : (class : ℕ) (b : Bool) → holds move.was.latches class ≡ b → AreSameIn class after.aimed before.settled ⊎ AreSameIn class after.aimed before.aimed
    either class true e = inl (move.aimed.latched class e)
    either class false e = inr (move.aimed.elsewhere class e)

    -- what is so of the story before, and of what is done of it, is so of the story now
    story : (P : List (Op × Reply) → Type 0) → P (so_far move.was) → (P (so_far move.was) → P (move.was.done ++ [])) → P (move.was.done ++ done_by_plan move.work)
    story P all front = go move.work_is
      where
        go : (move.work ≡ move.was.work) ⊎ (move.work ≡ None) → P (move.was.done ++ done_by_plan move.work)
        go (inl same) = subst (λ (w : Option Work). P (move.was.done ++ done_by_plan w)) (sym same) all
        go (inr none) = subst (λ (w : Option Work). P (move.was.done ++ done_by_plan w)) (sym none) (front all)

    less : (object : ℕ × ℕ) → was_made (made_in (move.was.done ++ done_by_plan move.work)) object ≡ true → was_made (made_in (so_far move.was)) object ≡ true
    less object = story (λ (d : List (Op × Reply)). was_made (made_in d) object ≡ true → was_made (made_in (so_far move.was)) object ≡ true) (λ made. made)
        (λ same made. made_front move.was.done (done_by_plan move.was.work) object (ap (λ (d : List (Op × Reply)). was_made (made_in d) object) (sym (append-nil move.was.done)) ∙ made))

    agree : (class : ℕ) (b : Bool) → holds move.was.latches class ≡ b → (AreSameIn class after.aimed after.settled ⊎ IsPlanned after.journal after.course after.settled after.aimed class) ⊎ StaysIn before after (Some move.was) (Some now) class
    agree class true e = inl (inl (move.aimed.latched class e ∙ sym (ap (λ (vs : Versions). objects_in vs class) move.settled)))
    agree class false e = inr (record {
      keeps = plan_stays move.was now class (λ u open_one unmarked held plans. never (holds move.was.latches class) e held);
      settled = ap (λ (vs : Versions). objects_in vs class) move.settled;
      aimed = move.aimed.elsewhere class e;
    })
