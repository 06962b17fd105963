-- A history stays serial as one connection's progress changes, by what is so of the scene, of the other connections and of that one.
use Rattle.std.proofs.Common.{◌≡◌, ◌≢◌, ◌⊎◌, inl, inr, ℕ, ◌<◌, ◌≤◌, Bool, true, false, List, [], length, Option, Some, None, nat_eq, refl, sym, ap, subst, ◌∙◌, arith, length-set}
use Rattle.std.proofs.lemmas.Bool.Decides.{nat_tests}
use Rattle.rdb_base.specs.declared.identity.ConnId.{ConnId}
use Rattle.rdb_base.specs.declared.identity.Manager.{Manager}
use Rattle.rdb_schema.specs.declared.schema.Schema.{Schema}
use Rattle.rdb_registry.specs.declared.seat.Transaction.{Transaction}
use Rattle.rdb_sight.specs.Versions.{objects_in}
use Rattle.rdb_model.specs.Journal.{commits, made_in, was_made, has_ended_since_leave}
use Rattle.rdb_serial.specs.Progress.{Progress, Course, tx_of, holds, so_far}
use Rattle.rdb_serial.specs.Histories.{History, Scene, scene_of, AreSameIn, with_class, IsFloor, IsOneChange, IsPlanned}
use Rattle.rdb_serial.specs.Serial.{IsScene, IsConnection, IsSlot, StoriesAreApart, EachClassAgrees, IsSerial}
use Rattle.rdb_serial.specs.Moves.{Turns}
use Rattle.rdb_serial.proofs.ViewLemmas.{class_here, class_elsewhere}
use Rattle.rdb_serial.proofs.ChangeLemmas.{change_there, moved_change}

-- the objects that the story of a slot's connection makes
abbrev pub made_of : Option Progress → List (ℕ × ℕ)
made_of None = []
made_of (Some p) = made_in (so_far p)

-- that what is made now was made before
abbrev pub MakesNoMore : Option Progress → Option Progress → Type 0
MakesNoMore was now = (object : ℕ × ℕ) → was_made (made_of now) object ≡ true → was_made (made_of was) object ≡ true

not_true : (b : Bool) → (b ≡ true → ⊥) → b ≡ false
not_true true none = absurd (none refl)
not_true false none = refl

-- stories stay apart as one makes no more
pub apart_turned : (before after : Course) (slot : ℕ) → ((other : ℕ) → other ≢ slot → after other ≡ before other) → MakesNoMore (before slot) (after slot) → StoriesAreApart before → StoriesAreApart after
apart_turned before after slot others no_more apart i j p q differs there_i there_j object made = go (nat_eq i slot) refl (nat_eq j slot) refl
  where
    -- what a slot's story makes was made by that of the slot before
    was_by : (k : ℕ) (r : Progress) → after k ≡ Some r → was_made (made_in (so_far r)) object ≡ true → was_made (made_of (before k)) object ≡ true
    was_by k r there h = at (nat_eq k slot) refl
      where
        at : (b : Bool) → nat_eq k slot ≡ b → was_made (made_of (before k)) object ≡ true
        at true e =
            let same : slot ≡ k = grind (arith, nat_tests) in
            subst (λ (m : ℕ). was_made (made_of (before m)) object ≡ true) same
            (no_more object (subst (λ (o : Option Progress). was_made (made_of o) object ≡ true) (sym (ap after same ∙ there)) h))
        at false e =
            let apart_k : k ≢ slot = grind (arith, nat_tests) in
            subst (λ (o : Option Progress). was_made (made_of o) object ≡ true) (sym (sym (others k apart_k) ∙ there)) h

    both : (o u : Option Progress) → before i ≡ o → before j ≡ u → was_made (made_of o) object ≡ true → was_made (made_of u) object ≡ true → ⊥
    both None u e f h g = (cc)
    both (Some a) None e f h g = (cc)
    both (Some a) (Some b) e f h g = let no = apart i j a b differs e f object h in (cc)

    go : (b : Bool) → nat_eq i slot ≡ b → (c : Bool) → nat_eq j slot ≡ c → was_made (made_in (so_far q)) object ≡ false
    go b e c f = not_true (was_made (made_in (so_far q)) object) (λ h. both (before i) (before j) refl refl (was_by i p there_i made) (was_by j q there_j h))

-- stories stay apart as one makes what it made, or what no other makes
pub apart_fresh : (before after : Course) (slot : ℕ) → ((other : ℕ) → other ≢ slot → after other ≡ before other) →
    ((object : ℕ × ℕ) → was_made (made_of (after slot)) object ≡ true → (was_made (made_of (before slot)) object ≡ true) ⊎ ((other : ℕ) → other ≢ slot → was_made (made_of (before other)) object ≡ false)) →
    StoriesAreApart before → StoriesAreApart after
apart_fresh before after slot others fresh apart i j p q differs there_i there_j object made = not_true (was_made (made_in (so_far q)) object) (λ also. go (nat_eq i slot) refl (nat_eq j slot) refl also)
  where
    after_i : was_made (made_of (after i)) object ≡ true
    after_i = ap (λ (o : Option Progress). was_made (made_of o) object) there_i ∙ made

    both : (o u : Option Progress) → before i ≡ o → before j ≡ u → was_made (made_of o) object ≡ true → was_made (made_of u) object ≡ true → ⊥
    both None u e f h g = (cc)
    both (Some a) None e f h g = (cc)
    both (Some a) (Some b) e f h g = let none = apart i j a b differs e f object h in (cc)

    both_before : was_made (made_of (before i)) object ≡ true → was_made (made_of (before j)) object ≡ true → ⊥
    both_before h g = both (before i) (before j) refl refl h g

    go : (b : Bool) → nat_eq i slot ≡ b → (c : Bool) → nat_eq j slot ≡ c → was_made (made_in (so_far q)) object ≡ true → ⊥
    go true e true f also = let same : i ≡ j = grind (arith, nat_tests) in differs same
    go false e false f also =
        let one : i ≢ slot = grind (arith, nat_tests) in
        let two : j ≢ slot = grind (arith, nat_tests) in
        both_before (ap (λ (o : Option Progress). was_made (made_of o) object) (sym (others i one)) ∙ after_i)
        (ap (λ (o : Option Progress). was_made (made_of o) object) (sym (others j two) ∙ there_j) ∙ also)
    go true e false f also =
        let here : slot ≡ i = grind (arith, nat_tests) in
        let two : j ≢ slot = grind (arith, nat_tests) in
        let old_j : was_made (made_of (before j)) object ≡ true = ap (λ (o : Option Progress). was_made (made_of o) object) (sym (others j two) ∙ there_j) ∙ also in
        at (fresh object (ap (λ (k : ℕ). was_made (made_of (after k)) object) here ∙ after_i))
      where
        at : (was_made (made_of (before slot)) object ≡ true) ⊎ ((other : ℕ) → other ≢ slot → was_made (made_of (before other)) object ≡ false) → ⊥
        at (inl old) =
            let here : i ≡ slot = grind (arith, nat_tests) in
            let two : j ≢ slot = grind (arith, nat_tests) in
            both_before (ap (λ (k : ℕ). was_made (made_of (before k)) object) here ∙ old) (ap (λ (o : Option Progress). was_made (made_of o) object) (sym (others j two) ∙ there_j) ∙ also)
        at (inr new) =
            let two : j ≢ slot = grind (arith, nat_tests) in
            let none = new j two in
            let old_j : was_made (made_of (before j)) object ≡ true = ap (λ (o : Option Progress). was_made (made_of o) object) (sym (others j two) ∙ there_j) ∙ also in
            (cc)
    go false e true f also =
        let here : slot ≡ j = grind (arith, nat_tests) in
        at (fresh object (ap (λ (k : ℕ). was_made (made_of (after k)) object) here ∙ ap (λ (o : Option Progress). was_made (made_of o) object) there_j ∙ also))
      where
        at : (was_made (made_of (before slot)) object ≡ true) ⊎ ((other : ℕ) → other ≢ slot → was_made (made_of (before other)) object ≡ false) → ⊥
        at (inl old) =
            let here : j ≡ slot = grind (arith, nat_tests) in
            let one : i ≢ slot = grind (arith, nat_tests) in
            both_before (ap (λ (o : Option Progress). was_made (made_of o) object) (sym (others i one)) ∙ after_i) (ap (λ (k : ℕ). was_made (made_of (before k)) object) here ∙ old)
        at (inr new) =
            let one : i ≢ slot = grind (arith, nat_tests) in
            let none = new i one in
            let old_i : was_made (made_of (before i)) object ≡ true = ap (λ (o : Option Progress). was_made (made_of o) object) (sym (others i one)) ∙ after_i in
            (cc)

-- a serial history turned
pub turned : (schema : Schema) (manager : Manager) (before after : History) (s : Scene) (slot : ℕ) (was now : Option Progress) → Turns before after slot was now → scene_of after ≡ s → IsSerial schema manager before → IsScene schema s →
    ((other : ℕ) (p : Progress) → other ≢ slot → before.course other ≡ Some p → IsConnection schema manager (scene_of before) other p → IsConnection schema manager s other p) →
    ((other number : ℕ) → other ≢ slot → has_ended_since_leave before.journal (other, number) ≡ false → has_ended_since_leave s.journal (other, number) ≡ false) →
    IsSlot schema manager s slot now → StoriesAreApart after.course → EachClassAgrees manager after → IsSerial schema manager after
turned schema manager before after s slot was now turns scene serial is_scene others free here apart agrees = record {
  scene = subst (IsScene schema) (sym scene) is_scene;
  slots = λ other. subst (λ (c : Scene). IsSlot schema manager c other (after.course other)) (sym scene) (go other (nat_eq other slot) refl);
  apart = apart;
  agrees = agrees;
}
  where
    moved : (other : ℕ) → other ≢ slot → (o : Option Progress) → before.course other ≡ o → IsSlot schema manager (scene_of before) other o → IsSlot schema manager s other o
    moved other differs None e is = λ number. free other number differs (is number)
    moved other differs (Some p) e is = others other p differs e is

    go : (other : ℕ) (b : Bool) → nat_eq other slot ≡ b → IsSlot schema manager s other (after.course other)
    go other true e =
        let same : slot ≡ other = grind (arith, nat_tests) in
        subst (λ (k : ℕ). IsSlot schema manager s k (after.course k)) same (subst (IsSlot schema manager s slot) (sym turns.is_there) here)
    go other false e =
        let differs : other ≢ slot = grind (arith, nat_tests) in
        subst (IsSlot schema manager s other) (sym (turns.others other differs)) (moved other differs (before.course other) refl (serial.slots other))

-- that whoever planned in a class still does, as one connection's progress changes
abbrev pub KeepsPlan : Option Progress → Option Progress → ℕ → Type 0
KeepsPlan was now class = (p : Progress) (t : Transaction) → was ≡ Some p → p.transaction ≡ Some t → t.mark ≡ None → holds p.latches class ≡ true → p.plans ≡ true →
    (q : Progress) × (now ≡ Some q) × (q.transaction ≡ Some t) × (q.conn ≡ p.conn) × (holds q.latches class ≡ true) × (q.plans ≡ true)

-- what is planned in a class stays planned
pub planned_turned : (before after : History) (slot : ℕ) (was now : Option Progress) (class : ℕ) → Turns before after slot was now → KeepsPlan was now class →
    ((floor : ℕ) → IsFloor before.journal before.course floor → IsFloor after.journal after.course floor) →
    length after.settled ≡ length before.settled → AreSameIn class after.settled before.settled → AreSameIn class after.aimed before.aimed →
    IsPlanned before.journal before.course before.settled before.aimed class → IsPlanned after.journal after.course after.settled after.aimed class
planned_turned before after slot was now class turns keeps floors many same same_aimed planned = go (nat_eq planned.slot slot) refl
  where
    there : class < length before.settled
    there = change_there before.journal before.course (tx_of planned.progress planned.transaction) before.settled (with_class before.settled class before.aimed) class planned.changes

    there_now : class < length after.settled
    there_now = omega (arith, there, many)

    long_now : length (with_class after.settled class after.aimed) ≡ length after.settled
    long_now = length-set after.settled class (objects_in after.aimed class)

    changes : IsOneChange after.journal after.course (tx_of planned.progress planned.transaction) after.settled (with_class after.settled class after.aimed) class
    changes = moved_change before.settled (with_class before.settled class before.aimed) after.settled (with_class after.settled class after.aimed) class there_now long_now same
        (class_here after.settled class after.aimed there_now ∙ same_aimed ∙ sym (class_here before.settled class before.aimed there))
        (λ other differs. class_elsewhere after.settled class after.aimed other differs)
        before.journal after.journal before.course after.course (tx_of planned.progress planned.transaction) floors planned.changes

    go : (b : Bool) → nat_eq planned.slot slot ≡ b → IsPlanned after.journal after.course after.settled after.aimed class
    go false e =
        let differs : planned.slot ≢ slot = grind (arith, nat_tests) in
        record {
          slot = planned.slot;
          progress = planned.progress;
          transaction = planned.transaction;
          there = turns.others planned.slot differs ∙ planned.there;
          open_one = planned.open_one;
          unmarked = planned.unmarked;
          latched = planned.latched;
          plans = planned.plans;
          changes = changes;
        }
    go true e =
        let is : planned.slot ≡ slot = grind (arith, nat_tests) in
        let kept = keeps planned.progress planned.transaction (sym turns.was_there ∙ sym (ap before.course is) ∙ planned.there) planned.open_one planned.unmarked planned.latched planned.plans in
        record {
          slot = slot;
          progress = kept.0;
          transaction = planned.transaction;
          there = turns.is_there ∙ kept.1;
          open_one = kept.2;
          unmarked = planned.unmarked;
          latched = kept.4;
          plans = kept.5;
          changes = subst (λ (c : ConnId). IsOneChange after.journal after.course (record { conn = c; number = planned.transaction.number }) after.settled (with_class after.settled class after.aimed) class) (sym kept.3) changes;
        }

-- what is a floor stays one as a transaction begins now or is one that was open
pub floor_turned : (before after : History) (slot : ℕ) (was now : Option Progress) → Turns before after slot was now → commits before.journal ≤ commits after.journal →
    ((q : Progress) (t : Transaction) → now ≡ Some q → q.transaction ≡ Some t → (commits before.journal ≤ t.snapshot) ⊎ ((p : Progress) × (u : Transaction) × (was ≡ Some p) × (p.transaction ≡ Some u) × (u.snapshot ≡ t.snapshot))) →
    (floor : ℕ) → IsFloor before.journal before.course floor → IsFloor after.journal after.course floor
floor_turned before after slot was now turns more snapshots floor is = record {
  there = let h = is.there in omega (arith, h, more);
  least = λ other p t there open_one. go other p t there open_one (nat_eq other slot) refl;
}
  where
    go : (other : ℕ) (p : Progress) (t : Transaction) → after.course other ≡ Some p → p.transaction ≡ Some t → (b : Bool) → nat_eq other slot ≡ b → floor ≤ t.snapshot
    go other p t there open_one false e =
        let differs : other ≢ slot = grind (arith, nat_tests) in
        is.least other p t (sym (turns.others other differs) ∙ there) open_one
    go other p t there open_one true e =
        let same : slot ≡ other = grind (arith, nat_tests) in
        at (snapshots p t (sym turns.is_there ∙ ap after.course same ∙ there) open_one)
      where
        at : (commits before.journal ≤ t.snapshot) ⊎ ((q : Progress) × (u : Transaction) × (was ≡ Some q) × (q.transaction ≡ Some u) × (u.snapshot ≡ t.snapshot)) → floor ≤ t.snapshot
        at (inl le) = let h = is.there in omega (arith, h, le)
        at (inr had) = let h = is.least slot had.0 had.1 (turns.was_there ∙ had.2) had.3 in let g = had.4 in omega (arith, h, g)
