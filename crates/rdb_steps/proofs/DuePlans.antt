-- A connection that has an operation in work on a class, and no plan, gets one.
use Rattle.std.proofs.Common.{◌≡◌, ◌≢◌, ◌<◌, ◌≤◌, ◌+◌, ◌*◌, ◌++◌, ◌∷◌, ◌||◌, ◌&&◌, ℕ, List, [], length, true, false, not, cond, Option, Some, None, IsSome, IsSomeAnd, IfNone, IfSome, Contains, is_some, option_map, refl, sym, ap, subst, ◌∙◌, arith, inl, inr}
use Rattle.std.proofs.lemmas.Bool.{or_right}
use Rattle.rdb_base.specs.declared.identity.ConnId.{ConnId}
use Rattle.rdb_base.specs.declared.identity.Kind.TheVariants as kind
use Rattle.rdb_base.specs.declared.identity.Manager.{Manager}
use Rattle.rdb_base.specs.declared.identity.Phase.{Phase}
use Rattle.rdb_base.specs.declared.identity.Phase.TheVariants as phase
use Rattle.rdb_base.specs.Operations.{class_of as class_named}
use Rattle.rdb_pages.specs.declared.cell.CellRef.{CellRef}
use Rattle.rdb_cells.specs.declared.pairs.Pair.{Pair}
use Rattle.rdb_cells.specs.Records.{IsRecord, Record, max_plan, names}
use Rattle.rdb_registry.specs.declared.hand.Hand.{Hand}
use Rattle.rdb_registry.specs.declared.hand.Work.{Work}
use Rattle.rdb_registry.specs.declared.seat.Seat.{Seat}
use Rattle.rdb_registry.specs.declared.seat.Transaction.{Transaction}
use Rattle.rdb_registry.specs.Registry.{Roll}
use Rattle.rdb_registry.specs.Seats.{HoldsLatch, IsLeastSnapshot, NoneOpen, Seats, openings, seat_in, seat_of, with_hand}
use Rattle.rdb_registry.proofs.SlotLemmas.{seat_in_other, some_and_of}
use Rattle.rdb_sight.specs.Versions.{Object, Version, Versions, chain_in, objects_in, with_chain_in}
use Rattle.rdb_space.specs.Memory.{class_of, image_of}
use Rattle.rdb_store.specs.Holds.{Holds, HoldsSome, Whatever}
use Rattle.rdb_store.specs.Shapes.{class_in}
use Rattle.rdb_store.specs.Stored.{HasHeader}
use Rattle.rdb_transactions.specs.Phases.{IsInPhase, IsWriting as IsWritingStill}
use Rattle.rdb_transactions.specs.Sound.{IsOrderly}
use Rattle.rdb_transactions.proofs.EditLemmas.{edited_hand, record_after, same_seat}
use Rattle.rdb_transactions.proofs.SoundLemmas.{orderly_of}
use Rattle.rdb_writes.proofs.WorkLemmas.{in_its_slot}
use Rattle.rdb_writes.specs.Grounds.{HaveOneHolder}
use Rattle.rdb_writes.specs.Steps.{spans_one_plan}
use Rattle.rdb_steps.specs.declared.state.State.{State}
use Rattle.rdb_steps.specs.Debt.{debt, operation_debt, phase_debt, repair_debt, work_debt}
use Rattle.rdb_steps.specs.Invariant.{IsKept}
use Rattle.rdb_steps.specs.Kept.{aims, is_dropping, is_rolling_back, takes_back}
use Rattle.rdb_steps.specs.Laid.{IsPlanOn, LeadsWithout}
use Rattle.rdb_steps.specs.LaidPlans.{MakesLaid}
use Rattle.rdb_steps.specs.Lists.{LeadsTo}
use Rattle.rdb_steps.specs.Making.{IsFloor, IsGarbageAt, with_plan}
use Rattle.rdb_steps.specs.Phases.{IsWriting, RestsIn}
use Rattle.rdb_steps.specs.Planning.{FallsWithVersion, IsDue, LaysIn, planning}
use Rattle.rdb_steps.specs.States.{IsFurnished, IsWhole, Keeps, cell_count, ground_in, ground_of}
use Rattle.rdb_steps.specs.Steps.{OnlySeat}
use Rattle.rdb_steps.proofs.ClassHolds.{between, has_cell, holds_aimed, holds_some, leads_rest, whatever_held}
use Rattle.rdb_steps.proofs.FollowLemmas.{Follows, kept_follows, whole_step}
use Rattle.rdb_steps.proofs.HandKept.{turned_by}
use Rattle.rdb_steps.proofs.KeptLemmas.{holders_turned}
use Rattle.rdb_steps.proofs.OwnChains.{longer_with}
use Rattle.rdb_steps.proofs.PlacesLemmas.{places_for_plan}
use Rattle.rdb_steps.proofs.PlanningLemmas.{garbage_kept}

-- the hand that was lent is that of the record
pub lent_is : (seats : Seats) (c : ConnId) (seat : Seat) (h : Hand) → seat_of seats c ≡ Some seat → IsSomeAnd (seat_of seats c) (λ x. h ≡ x.hand) → h ≡ seat.hand
lent_is seats c seat h held lent = subst (λ (o : Option Seat). IsSomeAnd o (λ x. h ≡ x.hand)) held lent

-- a hand is another in its slot: no other record changes
pub only_hand : (roll : Roll) (c : ConnId) (h : Hand) → OnlySeat roll (record roll { seats = with_hand roll.seats c.slot h }) c
only_hand roll c h = record {
  others = λ i ne. seat_in_other roll.seats c.slot i (option_map (λ (s : Seat). record s { hand = h }) (seat_in roll.seats c.slot)) ne;
  rest = refl;
}

-- the least open snapshot, if a transaction is open
pub floor_is : (seats : Seats) (floor : Option ℕ) → IfNone floor (NoneOpen (openings seats)) → IfSome floor (IsLeastSnapshot (openings seats)) → IsFloor seats floor
floor_is seats None none least = none
floor_is seats (Some n) none least = least

-- what is left of an operation in work
pub writing_debt : (m : Manager) (s : Seat) (versions pages : ℕ) → s.condemned ≡ None → s.hand.phase ≡ phase.Writing → debt m s versions pages ≡ work_debt s.hand.work s.hand versions pages
writing_debt m s versions pages live writing = λ i. cond (is_some (live i)) (repair_debt m s) (phase_debt m s (writing i) versions pages)

-- a plan is small beside the steps that a version may take
drop_less : (cells versions pages was : ℕ) → cells ≤ 1024 → cells + 1025 * (versions + 1) + pages < was + 1025 * (versions + 1 + 1) + pages
drop_less cells versions pages was few = omega (arith, few)

module _ {P : Type 0} (s : State P) (c : ConnId) (class : ℕ) (whole : IsWhole s) (seat : Seat) (held : seat_of s.transactions.registry.seats c ≡ Some seat) (due : IsDue class seat) (settled aimed : Versions) (kept : Keeps s settled aimed) where
  pub due_at : seat_in s.transactions.registry.seats c.slot ≡ Some seat
  due_at = in_its_slot s.transactions.registry.seats c seat held

  furnished : IsFurnished s.schema s.transactions.manager (cell_count s.schema s.memory) seat
  furnished = whole.furnished c.slot seat due_at

  pub due_writing : IsWriting s.transactions.manager (length s.schema.classes) seat
  due_writing = subst (λ (p : Phase). RestsIn s.transactions.manager (length s.schema.classes) seat p) due.phase (kept.rests c.slot seat due_at)

  pub due_work : (w : Work) × ((seat.hand.work ≡ Some w) × (class_named w.op ≡ class))
  due_work = some_and_of (λ (w : Work). class_named w.op ≡ class) seat.hand.work due.work

  pub due_unput : due_work.0.puts ≡ None
  due_unput = due_writing.unplanned due_work.0 due.live due_work.1.0 due.plan

  pub due_opened : (t : Transaction) × ((seat.transaction ≡ Some t) × (t.kind ≡ kind.ReadWrite))
  due_opened = some_and_of (λ (t : Transaction). t.kind ≡ kind.ReadWrite) seat.transaction due_writing.writer.0

  pub within : class < length s.schema.classes
  within = subst (λ (k : ℕ). k < length s.schema.classes) due_work.1.1 (furnished.work due_work.0 due_work.1.0).class

  pub due_latch : HoldsLatch seat class
  due_latch = subst (λ (k : ℕ). HoldsLatch seat k) due_work.1.1 (due_writing.latch due_work.0 due_work.1.0)

  takes_none : takes_back s.transactions.manager seat ≡ false
  takes_none = λ i. is_some (due.live i) || (is_rolling_back (due.phase i) && not (spans_one_plan s.transactions.manager))

  speaks : aims s.transactions.manager seat ≡ true
  speaks = or_right (is_dropping seat.hand) (not (takes_back s.transactions.manager seat)) (ap not takes_none)

  pub due_holds : HoldsSome (class_in s.store class) (image_of s.memory) (class_of s.memory)
  due_holds = holds_some s.schema s.transactions.manager s.memory s.transactions.registry settled aimed c.slot seat whole.lawful kept.one_holder kept.agrees due_at due.plan (inl speaks) s.store whole.store class within due_latch

  pub due_aimed : Holds (class_in s.store class) (image_of s.memory) (class_of s.memory) (objects_in aimed class)
  due_aimed = holds_aimed s.schema s.transactions.manager s.memory s.transactions.registry settled aimed c.slot seat whole.lawful kept.one_holder kept.agrees due_at due.plan (inl speaks) s.store whole.store class within due_latch

  pub due_whatever : (Is : List Object → Type 0) → Is (objects_in aimed class) → Whatever (class_in s.store class) (image_of s.memory) (class_of s.memory) Is
  due_whatever = whatever_held s.schema s.transactions.manager s.memory s.transactions.registry settled aimed c.slot seat whole.lawful kept.one_holder kept.agrees due_at due.plan (inl speaks) s.store whole.store class within due_latch

  -- a plan that leads to another chain has a cell
  pub due_cell : (pairs : List Pair) (id : ℕ) (chain : List Version) → LeadsTo s.schema (ground_of s) pairs class id (chain_in aimed class id) chain → chain ≢ chain_in aimed class id → ¬ (pairs ≡ [])
  due_cell = has_cell s.schema s.transactions.manager s.memory s.transactions.registry settled aimed c.slot seat whole.lawful kept.one_holder kept.agrees due_at due.plan (inl speaks) s.store whole.store class within due_latch

  pub due_room : seat.hand.plan.room ≡ max_plan
  due_room = furnished.plan

  -- a plan is laid in its hand, and maybe its operation in work is another
  pub makes_laid : (plan : Record) (work : Option Work) (id : ℕ) (chain : List Version) → IsRecord seat.hand.undo → IsPlanOn class (image_of s.memory) (class_of s.memory) plan →
      LeadsTo s.schema (ground_of s) plan.pairs class id (chain_in aimed class id) chain →
      MakesLaid s.schema (ground_of s) (ground_in s.memory (record s.transactions.registry { seats = with_hand s.transactions.registry.seats c.slot (with_plan plan work seat.hand) })) c seat (with_plan plan work seat.hand)
      class id (chain_in aimed class id) chain
  makes_laid plan work id chain once on leads = record {
    cells = record { image = λ n. refl; classes = λ n. refl };
    records = refl;
    only = on.only;
    places =
        places_for_plan s.schema s.transactions.manager s.memory seat due_opened.0 class plan work whole.cells furnished due_opened.1.0 due_opened.1.1 once
        (λ spans. due_writing.undo due.live spans due.plan)
        (λ n named. let latched = (kept.agrees.works c.slot seat due_at).latched n (inl named) in subst (λ (o : Option ℕ). IsSome o) (sym latched.1) refl) on;
    leads = leads;
    one_holder =
        holders_turned s.transactions.registry.seats (with_hand s.transactions.registry.seats c.slot (with_plan plan work seat.hand)) c.slot seat (record seat { hand = with_plan plan work seat.hand })
        (turned_by s.transactions.registry.seats (with_hand s.transactions.registry.seats c.slot (with_plan plan work seat.hand)) c seat (λ (x : Seat). record x { hand = with_plan plan work seat.hand }) due_at refl refl refl (λ k e. e))
        kept.one_holder;
  }

  -- what is so beside the cells
  pub whole_planned : (h : Hand) (plan : Record) → h ≡ record seat.hand { plan = plan } → plan.room ≡ max_plan →
      IsWhole (record s { transactions = record s.transactions { registry = record s.transactions.registry { seats = with_hand s.transactions.registry.seats c.slot h } } })
  whole_planned h plan is room =
      whole_step s s.memory (record s.transactions.registry { seats = with_hand s.transactions.registry.seats c.slot h }) c seat (λ (x : Seat). record x { hand = h }) whole
      (record { at = 0; elsewhere = λ n ne. refl; classes = λ n. refl; owners = refl }) held refl
      (subst (λ (x : Hand). Follows s.schema s.transactions.manager (cell_count s.schema s.memory) (length s.transactions.journal.entries) seat (record seat { hand = x })) (sym is)
      (kept_follows s.schema s.transactions.manager (cell_count s.schema s.memory) (length s.transactions.journal.entries) seat (record seat.hand { plan = plan }) seat.hand seat.latches orderly furnished
      (room ∙ sym furnished.plan) refl
      (subst (λ (p : Phase). IsInPhase p (record seat { hand = record seat.hand { plan = plan } })) (sym due.phase) (record { transaction = still.transaction; cause = still.cause }))
      furnished.own))
    where
      orderly : IsOrderly (length s.transactions.journal.entries) seat
      orderly = orderly_of [] s.transactions c seat whole.sound held

      still : IsWritingStill seat
      still = subst (λ (p : Phase). IsInPhase p seat) due.phase orderly.phase

  -- the drop of a garbage version
  module _ (header : ℕ) (floor : Option ℕ) (id : ℕ) (newer older : List Version) (g : IsGarbageAt floor aimed class id header newer older) where
    pub garbage_there : Whatever (class_in s.store class) (image_of s.memory) (class_of s.memory) (λ objects. HasHeader objects header)
    garbage_there = due_whatever (λ objects. HasHeader objects header)
        (record { version = g.version; has = record { id = id; within = subst (λ (vs : List Version). Contains vs g.version) (sym g.split) (between newer g.version older) }; there = g.there })

    leads_on : (pairs : List Pair) → LeadsWithout (class_in s.store class) (image_of s.memory) (class_of s.memory) pairs header → LeadsTo s.schema (ground_of s) pairs class id (chain_in aimed class id) (newer ++ older)
    leads_on pairs leads =
        leads_rest s.schema s.transactions.manager s.memory s.transactions.registry settled aimed c.slot seat whole.lawful kept.one_holder kept.agrees due_at due.plan (inl speaks) s.store whole.store class within due_latch
        pairs header id (newer ++ older) leads
        (record { version = g.version; there = g.there; without = record { newer = newer; older = older; before = g.split; after = refl } })

    pub garbage_some : (pairs : List Pair) → LeadsWithout (class_in s.store class) (image_of s.memory) (class_of s.memory) pairs header → ¬ (pairs ≡ [])
    garbage_some pairs leads =
        has_cell s.schema s.transactions.manager s.memory s.transactions.registry settled aimed c.slot seat whole.lawful kept.one_holder kept.agrees due_at due.plan (inl speaks) s.store whole.store class within due_latch
        pairs id (newer ++ older) (leads_on pairs leads) (λ same. longer_with newer g.version older (same ∙ g.split))

    pub garbage_planned : (h : Hand) (plan : Record) → h ≡ record seat.hand { plan = plan } → IsRecord seat.hand.undo → IsPlanOn class (image_of s.memory) (class_of s.memory) plan →
        LeadsWithout (class_in s.store class) (image_of s.memory) (class_of s.memory) plan.pairs header →
        IsKept s.schema s.transactions.manager s.counters.serials s.counters.ids.items (ground_in s.memory (record s.transactions.registry { seats = with_hand s.transactions.registry.seats c.slot h }))
        settled (with_chain_in aimed class id (newer ++ older))
    garbage_planned h plan is once on leads =
        subst (λ (x : Hand). IsKept s.schema s.transactions.manager s.counters.serials s.counters.ids.items (ground_in s.memory (record s.transactions.registry { seats = with_hand s.transactions.registry.seats c.slot x })) settled (with_chain_in aimed class id (newer ++ older)))
        (sym (is ∙ (λ i. record seat.hand { plan = plan; work = due_work.1.0 i })))
        (garbage_kept s.schema s.transactions.manager s.counters.serials s.counters.ids.items (ground_of s)
        (ground_in s.memory (record s.transactions.registry { seats = with_hand s.transactions.registry.seats c.slot (with_plan plan (Some due_work.0) seat.hand) })) c seat settled aimed whole.lawful kept held due.phase due.live due.plan
        due_work.0 due_work.1.0 due_opened.0 due_opened.1.0 class id plan newer older g.version g.commit within due_work.1.1 due_unput g.split g.done
        (makes_laid plan (Some due_work.0) id (newer ++ older) once on (leads_on plan.pairs leads)))

  -- the plan of a drop brings the end nearer, as the class has a version less
  pub drop_falls : (h : Hand) (plan : Record) → h ≡ record seat.hand { plan = plan } → IsRecord plan → plan.room ≡ max_plan → FallsWithVersion s.transactions.manager seat (record seat { hand = h })
  drop_falls h plan is once room =
      subst (λ (x : Hand). FallsWithVersion s.transactions.manager seat (record seat { hand = x })) (sym is) (λ versions pages.
      let was : debt s.transactions.manager seat (versions + 1) pages ≡ operation_debt None seat.hand (versions + 1) pages =
      writing_debt s.transactions.manager seat (versions + 1) pages due.live due.phase
      ∙ ap (λ (o : Option Work). work_debt o seat.hand (versions + 1) pages) due_work.1.0 ∙ ap (λ (p : Option CellRef). operation_debt p seat.hand (versions + 1) pages) due_unput in
      let now : debt s.transactions.manager (record seat { hand = record seat.hand { plan = plan } }) versions pages ≡ operation_debt None (record seat.hand { plan = plan }) versions pages =
      writing_debt s.transactions.manager (record seat { hand = record seat.hand { plan = plan } }) versions pages due.live due.phase
      ∙ ap (λ (o : Option Work). work_debt o (record seat.hand { plan = plan }) versions pages) due_work.1.0 ∙ ap (λ (p : Option CellRef). operation_debt p (record seat.hand { plan = plan }) versions pages) due_unput in
      subst (λ (n : ℕ). debt s.transactions.manager (record seat { hand = record seat.hand { plan = plan } }) versions pages < n) (sym was)
      (subst (λ (n : ℕ). n < operation_debt None seat.hand (versions + 1) pages) (sym now)
      (drop_less (length plan.pairs) versions pages (length seat.hand.plan.pairs) (subst (λ (n : ℕ). length plan.pairs ≤ n) room once.within))))

  -- the record of the connection then
  pub falls_of : (h : Hand) (Falls : Seat → Seat → Type 0) → Falls seat (record seat { hand = h }) →
      (was now : Seat) → seat_of s.transactions.registry.seats c ≡ Some was → seat_of (with_hand s.transactions.registry.seats c.slot h) c ≡ Some now → Falls was now
  falls_of h Falls falls was now held_was there =
      let same = same_seat s.transactions.registry.seats c seat was held held_was in
      let same_now = same_seat (with_hand s.transactions.registry.seats c.slot h) c (record seat { hand = h }) now (record_after s.transactions.registry.seats c (λ (x : Seat). record x { hand = h }) seat (λ x. refl) held) there in
      subst (λ (x : Seat). Falls x now) same (subst (λ (x : Seat). Falls seat x) same_now falls)

-- a plan that has a cell is laid in a hand, and all else stays
pub lays_in : {P : Type 0} (s : State P) (c : ConnId) (was h : Hand) (plan : Record) → IsSomeAnd (seat_of s.transactions.registry.seats c) (λ x. was ≡ x.hand) → h ≡ planning plan was → ¬ (plan.pairs ≡ []) →
    LaysIn s (record s { transactions = record s.transactions { registry = record s.transactions.registry { seats = with_hand s.transactions.registry.seats c.slot h } } }) c
lays_in s c was h plan lent is some = record {
  made = plan;
  some = some;
  is =
      ap (λ (r : Roll). record s { transactions = record s.transactions { registry = r } })
      (ap (λ (x : Hand). record s.transactions.registry { seats = with_hand s.transactions.registry.seats c.slot x }) is ∙ edited_hand s.transactions.registry c (planning plan) was lent);
}
