-- What the steps on one connection's hand leave of the settled image, of the image aimed at, and of each connection's work.
use Rattle.std.proofs.Common.{◌≡◌, ◌≢◌, ◌&&◌, ◌∷◌, ◌++◌, ℕ, List, [], length, set, Option, Some, IsSomeAnd, Bool, true, false, cond, option_map, refl, sym, ap, subst, ◌∙◌, arith, inl, inr, eqb-true}
use Rattle.rdb_base.specs.declared.identity.ConnId.{ConnId}
use Rattle.rdb_base.specs.declared.identity.Manager.{Manager}
use Rattle.rdb_cells.specs.declared.pairs.Pair.{Pair}
use Rattle.rdb_cells.specs.Images.{SameImage, Writes}
use Rattle.rdb_cells.specs.Records.{Record, names, planned, settled, taken_back, KeepsSettled, TakesBack}
use Rattle.rdb_cells.proofs.SettledLemmas.{true_or_false}
use Rattle.rdb_registry.specs.declared.hand.Hand.{Hand}
use Rattle.rdb_registry.specs.declared.seat.Seat.{Seat}
use Rattle.rdb_registry.specs.Seats.{Seats, seat_in, seat_of, with_hand}
use Rattle.rdb_registry.proofs.SlotLemmas.{seat_in_other, some_and_of}
use Rattle.rdb_registry.proofs.RecordLaws.{changed_here}
use Rattle.rdb_writes.specs.Grounds.{Ground, IsLatched, WorksOn, HasPlaces, IsWork, AreWorks, HaveOneHolder, settled_image, undo_records}
use Rattle.rdb_writes.specs.Steps.{spans_one_plan, is_written, ends, ended, forgetting, WritesPlanned, Reaches, WritesNext, TakesNewestBack}
use Rattle.rdb_writes.proofs.RecordLemmas.{OthersLack, settled_kept, settled_elsewhere, settled_own}
use Rattle.rdb_writes.proofs.WorkLemmas.{in_its_slot, others_lack, unlatched, works_kept}
use Rattle.rdb_writes.proofs.PlanLemmas.{named_left, named_last, longer_by_one, works_on_less}

and_true : (a b : Bool) → (a && b) ≡ true → (a ≡ true) × (b ≡ true)
and_true true b e = (refl, e)
and_true false b e = absurd cc

-- One connection's hand changes, and it works on cells of its classes alone before and after.
module _ (before after : Ground) (c : ConnId) (seat : Seat) (hand : Hand) (held : seat_of before.seats c ≡ Some seat) (one : HaveOneHolder before.seats) (works : AreWorks before) (classes : (n : ℕ) → after.class_of n ≡ before.class_of n) (records : after.seats ≡ with_hand before.seats c.slot hand) (own : (n : ℕ) → WorksOn hand n → IsLatched before seat n) where
  pub at : seat_in before.seats c.slot ≡ Some seat
  at = in_its_slot before.seats c seat held

  pub work : IsWork before seat
  work = works c.slot seat at

  -- the slots, with this one written
  pub seats_are : after.seats ≡ set before.seats c.slot (Some (record seat { hand = hand }))
  seats_are = records ∙ ap (λ (o : Option Seat). set before.seats c.slot (option_map (λ (s : Seat). record s { hand = hand }) o)) at

  pub at_now : seat_in after.seats c.slot ≡ Some (record seat { hand = hand })
  at_now =
      ap (λ (seats : Seats). seat_in seats c.slot) records
      ∙ changed_here before.seats c.slot (λ (s : Seat). record s { hand = hand })
      ∙ ap (option_map (λ (s : Seat). record s { hand = hand })) at

  pub others_stay : (i : ℕ) → i ≢ c.slot → seat_in after.seats i ≡ seat_in before.seats i
  others_stay i other =
      ap (λ (seats : Seats). seat_in seats i) records
      ∙ seat_in_other before.seats c.slot i (option_map (λ (s : Seat). record s { hand = hand }) (seat_in before.seats c.slot)) other

  pub lack_before : (n : ℕ) → IsLatched before seat n → OthersLack before.seats c.slot n
  lack_before n latched = others_lack before one works c.slot seat at n latched

  pub lack_now : (n : ℕ) → IsLatched before seat n → OthersLack after.seats c.slot n
  lack_now n latched i s other there = lack_before n latched i s other (sym (others_stay i other) ∙ there)

  -- a step on one cell of its classes that keeps what others settle
  pub kept : (m : ℕ) → IsLatched before seat m → KeepsSettled seat.hand.undo.pairs hand.undo.pairs before.image after.image m → SameImage (settled_image after) (settled_image before)
  kept m latched keeps n =
      ap (λ (seats : Seats). settled (undo_records seats) after.image n) seats_are
      ∙ settled_kept before.seats c.slot seat at (Some (record seat { hand = hand })) before.image after.image m (lack_before m latched) keeps n

  -- the cells of its classes, settled, where its undo record is empty
  pub own_settled : (n : ℕ) → IsLatched before seat n → hand.undo.pairs ≡ [] → settled_image after n ≡ after.image n
  own_settled n latched empty =
      settled_own after.seats c.slot (record seat { hand = hand }) at_now after.image n (lack_now n latched)
      ∙ ap (λ (ps : List Pair). taken_back ps after.image n) empty

  -- a cell of another class stays as it is settled, where it stays
  pub elsewhere_settled : (n : ℕ) → ¬ IsLatched before seat n → after.image n ≡ before.image n → settled_image after n ≡ settled_image before n
  elsewhere_settled n free same =
      ap (λ (seats : Seats). settled (undo_records seats) after.image n) seats_are
      ∙ settled_elsewhere before.seats c.slot seat at (Some (record seat { hand = hand })) before.image after.image n (unlatched before seat n work free) unlogged_now same
    where
      unlogged_now : names hand.undo.pairs n ≡ false
      unlogged_now = elim (true_or_false (names hand.undo.pairs n)) [
        | inl named ↦ absurd (free (own n (inl named)))
        | inr unnamed ↦ unnamed
      ]

  pub works_now : HasPlaces hand → AreWorks after
  works_now places = works_kept before after c.slot seat hand at records classes own places works

-- once a hand is emptied, or isn't
ended_works : (manager : Manager) (hand : Hand) (n : ℕ) → WorksOn (ended manager hand) n → WorksOn hand n
ended_works manager hand n = go (ends manager hand)
  where
    go : (b : Bool) → WorksOn (cond b (forgetting hand) hand) n → WorksOn hand n
    go true (inl named) = absurd cc
    go true (inr named) = inr named
    go false on = on

ended_plan : (manager : Manager) (hand : Hand) → (ended manager hand).plan ≡ hand.plan
ended_plan manager hand = go (ends manager hand)
  where
    go : (b : Bool) → (cond b (forgetting hand) hand).plan ≡ hand.plan
    go true = refl
    go false = refl

none_left : (manager : Manager) (hand : Hand) → ends manager hand ≡ true → length hand.plan.pairs ≡ 0
none_left manager hand e = eqb-true _ _ (and_true (is_written hand) (spans_one_plan manager) e).0

empty_list : {X : Type 0} (xs : List X) → length xs ≡ 0 → xs ≡ []
empty_list [] e = refl
empty_list (x ∷ xs) e = absurd (omega (arith, e))

ended_places : (manager : Manager) (hand : Hand) → HasPlaces hand → HasPlaces (ended manager hand)
ended_places manager hand places = go (ends manager hand) refl
  where
    go : (b : Bool) → ends manager hand ≡ b → HasPlaces (cond b (forgetting hand) hand)
    go true e =
        let none = none_left manager hand e in
        subst (λ (ps : List Pair). HasPlaces (record (forgetting hand) { plan = record hand.plan { pairs = ps } })) (sym (empty_list hand.plan.pairs none)) (omega arith)
    go false e = places

module _ (manager : Manager) (before after : Ground) (c : ConnId) (seat : Seat) (written : Hand) (next : Pair) (held : seat_of before.seats c ≡ Some seat) (one : HaveOneHolder before.seats) (works : AreWorks before) (planned_is : WritesPlanned before.image after.image seat.hand written next) (classes : (n : ℕ) → after.class_of n ≡ before.class_of n) (records : after.seats ≡ with_hand before.seats c.slot (ended manager written)) where
  next_latched : IsLatched before seat next.at.number
  next_latched =
      (works c.slot seat (in_its_slot before.seats c seat held)).latched next.at.number
      (inr (ap (λ (r : Record). names r.pairs next.at.number) planned_is.plan ∙ named_last written.plan.pairs next))

  own_alone : (n : ℕ) → WorksOn (ended manager written) n → IsLatched before seat n
  own_alone n on =
      (works c.slot seat (in_its_slot before.seats c seat held)).latched n
      (works_on_less before.image after.image seat.hand written next planned_is n (ended_works manager written n on))

  pub next_works : AreWorks after
  next_works = works_now before after c seat (ended manager written) held one works classes records own_alone (ended_places manager written planned_is.places)

  reaches_next : Reaches (ends manager written) before after seat (ended manager written)
  reaches_next = record {
    aimed = λ n. ap (λ (r : Record). planned r.pairs after.image n) (ended_plan manager written) ∙ planned_is.aimed n;
    settled = λ goes_on.
        kept before after c seat (ended manager written) held one works classes records own_alone next.at.number next_latched
        (subst (λ (b : Bool). KeepsSettled seat.hand.undo.pairs (cond b (forgetting written) written).undo.pairs before.image after.image next.at.number) (sym goes_on) planned_is.settled);
    own = λ is_end n latched.
        let empty : (ended manager written).undo.pairs ≡ [] = ap (λ (b : Bool). (cond b (forgetting written) written).undo.pairs) is_end in
        let none : written.plan.pairs ≡ [] = empty_list written.plan.pairs (none_left manager written is_end) in
        own_settled before after c seat (ended manager written) held one works classes records own_alone n latched empty
        ∙ ap (λ (ps : List Pair). planned ps after.image n) (sym none)
        ∙ planned_is.aimed n;
    others = λ n free.
        elsewhere_settled before after c seat (ended manager written) held one works classes records own_alone n free
        (planned_is.written.elsewhere n (λ same. free (subst (λ (m : ℕ). IsLatched before seat m) (sym same) next_latched)));
  }

  pub writes_next : (is_last : Bool) → (ended manager written ≡ record seat.hand { undo = (ended manager written).undo; plan = (ended manager written).plan }) → is_last ≡ is_written written → WritesNext manager before after c is_last
  writes_next is_last rest last = record {
    seat = seat;
    written = written;
    next = next;
    works = record { held = held; records = records; rest = rest; classes = classes };
    planned = planned_is;
    latched = next_latched;
    last = last;
    reaches = reaches_next;
  }

-- what the hand keeps of the one before
pub ended_rest : (manager : Manager) (hand before : Hand) → hand ≡ record before { undo = hand.undo; plan = hand.plan } → ended manager hand ≡ record before { undo = (ended manager hand).undo; plan = (ended manager hand).plan }
ended_rest manager hand before rest = go (ends manager hand)
  where
    go : (b : Bool) → cond b (forgetting hand) hand ≡ record before { undo = (cond b (forgetting hand) hand).undo; plan = (cond b (forgetting hand) hand).plan }
    go true = ap (λ (h : Hand). record h { undo = record hand.undo { pairs = [] } }) rest
    go false = rest

module _ (before after : Ground) (c : ConnId) (seat : Seat) (hand : Hand) (newest : Pair) (held : seat_of before.seats c ≡ Some seat) (one : HaveOneHolder before.seats) (works : AreWorks before) (shorter : seat.hand.undo ≡ record hand.undo { pairs = hand.undo.pairs ++ newest ∷ [] }) (plan : hand.plan ≡ record seat.hand.plan { pairs = [] }) (rest : hand ≡ record seat.hand { undo = hand.undo; plan = hand.plan }) (written : Writes before.image after.image newest.at.number newest.cell) (keeps : KeepsSettled seat.hand.undo.pairs hand.undo.pairs before.image after.image newest.at.number) (classes : (n : ℕ) → after.class_of n ≡ before.class_of n) (records : after.seats ≡ with_hand before.seats c.slot hand) where
  mine : IsWork before seat
  mine = works c.slot seat (in_its_slot before.seats c seat held)

  newest_latched : IsLatched before seat newest.at.number
  newest_latched = mine.latched newest.at.number (inl (ap (λ (r : Record). names r.pairs newest.at.number) shorter ∙ named_last hand.undo.pairs newest))

  own_left : (n : ℕ) → WorksOn hand n → IsLatched before seat n
  own_left n (inl logged) = mine.latched n (inl (ap (λ (r : Record). names r.pairs n) shorter ∙ named_left hand.undo.pairs newest n logged))
  own_left n (inr planned_still) = absurd (let no : names [] n ≡ true = ap (λ (r : Record). names r.pairs n) (sym plan) ∙ planned_still in cc)

  places_back : HasPlaces hand
  places_back =
      let was = mine.places in
      let room : seat.hand.undo.room ≡ hand.undo.room = ap (λ (r : Record). r.room) shorter in
      let longer : length seat.hand.undo.pairs ≡ length (hand.undo.pairs ++ newest ∷ []) = ap (λ (r : Record). length r.pairs) shorter in
      let fewer = longer_by_one hand.undo.pairs newest in
      subst (λ (r : Record). HasPlaces (record hand { plan = r })) (sym plan) (omega (arith, was, room, longer, fewer))

  pub back_works : AreWorks after
  back_works = works_now before after c seat hand held one works classes records own_left places_back

  pub takes_newest_back : TakesNewestBack before after c
  takes_newest_back = record {
    seat = seat;
    hand = hand;
    newest = newest;
    works = record { held = held; records = records; rest = rest; classes = classes };
    shorter = shorter;
    plan = plan;
    latched = newest_latched;
    written = written;
    settled = kept before after c seat hand held one works classes records own_left newest.at.number newest_latched keeps;
  }

-- the step on a plan, with the hand as it was lent
pub next_written : (manager : Manager) (before after : Ground) (c : ConnId) (hand written now : Hand) (is_last : Bool) →
    IsSomeAnd (seat_of before.seats c) (λ seat. hand ≡ seat.hand) →
    HaveOneHolder before.seats → AreWorks before →
    (next : Pair) × WritesPlanned before.image after.image hand written next →
    ((n : ℕ) → after.class_of n ≡ before.class_of n) →
    now ≡ ended manager written →
    after.seats ≡ with_hand before.seats c.slot now →
    is_last ≡ is_written written →
    WritesNext manager before after c is_last × AreWorks after
next_written manager before after c hand written now is_last lent one works step classes ends_so records last =
    let found = some_and_of (λ seat. hand ≡ seat.hand) (seat_of before.seats c) lent in
    let seat = found.0 in
    let next = step.0 in
    let is = subst (λ (h : Hand). WritesPlanned before.image after.image h written next) found.1.1 step.1 in
    let seats = records ∙ ap (with_hand before.seats c.slot) ends_so in (
      writes_next manager before after c seat written next found.1.0 one works is classes seats is_last (ended_rest manager written seat.hand is.rest) last,
      next_works manager before after c seat written next found.1.0 one works is classes seats,
    )

-- the step on an undo record, with the hand as it was lent
pub back_taken : (before after : Ground) (c : ConnId) (hand now : Hand) →
    IsSomeAnd (seat_of before.seats c) (λ seat. hand ≡ seat.hand) →
    HaveOneHolder before.seats → AreWorks before →
    TakesBack hand.undo now.undo before.image after.image →
    now.plan ≡ record hand.plan { pairs = [] } →
    now ≡ record hand { undo = now.undo; plan = now.plan } →
    ((n : ℕ) → after.class_of n ≡ before.class_of n) →
    after.seats ≡ with_hand before.seats c.slot now →
    TakesNewestBack before after c × AreWorks after
back_taken before after c hand now lent one works back plan rest classes records =
    let found = some_and_of (λ seat. hand ≡ seat.hand) (seat_of before.seats c) lent in
    let seat = found.0 in
    let same = found.1.1 in
    let back_seat = subst (λ (h : Hand). TakesBack h.undo now.undo before.image after.image) same back in
    let plan_seat : now.plan ≡ record seat.hand.plan { pairs = [] } = subst (λ (h : Hand). now.plan ≡ record h.plan { pairs = [] }) same plan in
    let rest_seat : now ≡ record seat.hand { undo = now.undo; plan = now.plan } = subst (λ (h : Hand). now ≡ record h { undo = now.undo; plan = now.plan }) same rest in (
      takes_newest_back before after c seat now back_seat.newest found.1.0 one works back_seat.shorter plan_seat rest_seat back_seat.written back_seat.settled classes records,
      back_works before after c seat now back_seat.newest found.1.0 one works back_seat.shorter plan_seat rest_seat back_seat.written back_seat.settled classes records,
    )
