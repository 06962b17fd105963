-- A connection whose transaction goes back, and that has nothing in hand but own writes, takes a latch and gets the plan of a drop.
use Rattle.std.proofs.Common.{◌≡◌, ◌≢◌, ◌⊎◌, ◌<◌, ◌≤◌, ◌+◌, ◌-◌, ◌*◌, ◌==◌, ◌++◌, ◌∷◌, ◌||◌, ◌&&◌, ℕ, List, [], length, Bool, true, false, not, cond, count_by, find, slice_get, Option, Some, None, IsSome, IsSomeAnd, IfNone, Contains, is_some, is_none, option_and_then, option_map, refl, sym, ap, subst, ◌∙◌, arith, inl, inr}
use Rattle.std.proofs.lemmas.Bool.{cases_lt, false≢true}
use Rattle.std.proofs.lemmas.List.{get_or_past}
use Rattle.std.proofs.lemmas.List.Sums.{count_by-le-length}
use Rattle.rdb_base.specs.declared.identity.ConnId.{ConnId}
use Rattle.rdb_base.specs.declared.identity.Kind.TheVariants as kind
use Rattle.rdb_base.specs.declared.identity.Manager.{Manager}
use Rattle.rdb_base.specs.declared.identity.Phase.{Phase}
use Rattle.rdb_base.specs.declared.identity.Phase.TheVariants as phase
use Rattle.rdb_base.specs.declared.journal.Cause.{Cause}
use Rattle.rdb_pages.specs.declared.cell.CellRef.{CellRef}
use Rattle.rdb_cells.proofs.SettledLemmas.{true_or_false}
use Rattle.rdb_cells.specs.declared.pairs.Pair.{Pair}
use Rattle.rdb_cells.specs.Records.{IsRecord, Record, max_plan, names}
use Rattle.rdb_registry.specs.declared.hand.Hand.{Hand}
use Rattle.rdb_registry.specs.declared.hand.Work.{Work}
use Rattle.rdb_registry.specs.declared.own_writes.OwnWrite.{OwnWrite}
use Rattle.rdb_registry.specs.declared.seat.Condemned.{Condemned}
use Rattle.rdb_registry.specs.declared.seat.Seat.{Seat}
use Rattle.rdb_registry.specs.declared.seat.Transaction.{Transaction}
use Rattle.rdb_registry.specs.OwnWrites.{AreOrdered, header_of, is_of}
use Rattle.rdb_registry.specs.Registry.{IsRoll, Roll}
use Rattle.rdb_registry.specs.Seats.{HoldsLatch, NoneHolds, NoOtherHolds, Seats, add_latch, changed, seat_in, seat_of, with_hand, with_latch, with_latches}
use Rattle.rdb_registry.proofs.SlotLemmas.{seat_in_other, some_and_of}
use Rattle.rdb_sight.specs.Versions.{Object, Version, Versions, chain_in, chain_of, objects_in, own_version}
use Rattle.rdb_space.specs.Memory.{class_of, image_of}
use Rattle.rdb_store.specs.Chains.{IsWithoutHeader}
use Rattle.rdb_store.specs.Holds.{HoldsSome, Whatever}
use Rattle.rdb_store.specs.Shapes.{class_in}
use Rattle.rdb_store.specs.Stored.{HasHeader, ref_of}
use Rattle.rdb_transactions.specs.Phases.{IsInPhase}
use Rattle.rdb_transactions.specs.Records.{edited}
use Rattle.rdb_transactions.specs.Sound.{IsOrderly}
use Rattle.rdb_transactions.proofs.EditLemmas.{alike, edited_hand, record_after, same_seat, then_edited}
use Rattle.rdb_transactions.proofs.SoundLemmas.{orderly_of}
use Rattle.rdb_writes.proofs.WorkLemmas.{in_its_slot}
use Rattle.rdb_writes.specs.Changes.{ChangesLatches}
use Rattle.rdb_writes.specs.Grounds.{HasPlaces, HaveOneHolder}
use Rattle.rdb_writes.specs.Steps.{is_written, spans_one_plan}
use Rattle.rdb_steps.specs.declared.state.State.{State}
use Rattle.rdb_steps.specs.Debt.{debt, phase_debt, repair_debt, settled_own, version_steps}
use Rattle.rdb_steps.specs.Invariant.{IsKept}
use Rattle.rdb_steps.specs.Kept.{Agrees, is_dropping, is_marked, takes_back, tx_of}
use Rattle.rdb_steps.specs.Laid.{IsPlanOn, LeadsWithout}
use Rattle.rdb_steps.specs.LaidPlans.{MakesLaid}
use Rattle.rdb_steps.specs.Lists.{LeadsTo}
use Rattle.rdb_steps.specs.Making.{with_plan, without_own}
use Rattle.rdb_steps.specs.Planned.{all_but}
use Rattle.rdb_steps.specs.Planning.{IsToDrop, LaysLatched, planning}
use Rattle.rdb_steps.specs.States.{IsFurnished, IsWhole, Keeps, cell_count, ground_in, ground_of}
use Rattle.rdb_steps.specs.Steps.{OnlySeat}
use Rattle.rdb_steps.specs.Written.{FallsDebt}
use Rattle.rdb_steps.proofs.ClassHolds.{between, has_cell, holds_some, leads_rest, whatever_held}
use Rattle.rdb_steps.proofs.DroppingLemmas.{own_drop_kept, takes_class, takes_free}
use Rattle.rdb_steps.proofs.FollowLemmas.{Follows, kept_follows, whole_step}
use Rattle.rdb_steps.proofs.HandKept.{turned_by}
use Rattle.rdb_steps.proofs.KeptLemmas.{holders_turned}
use Rattle.rdb_steps.proofs.LatchLemmas.{latches_taken}
use Rattle.rdb_steps.proofs.LeadingLemmas.{is_of_it}
use Rattle.rdb_steps.proofs.OwnChains.{left_without, longer_with}
use Rattle.rdb_steps.proofs.PlacesLemmas.{places_few, quiet_if}
use Rattle.rdb_steps.proofs.PlanningLemmas.{unwritten_if}
use Rattle.rdb_steps.proofs.RestingLemmas.{same_at_rest}

pub first_and_rest : {A : Type 0} (xs : List A) (x : A) → slice_get xs 0 ≡ Some x → (rest : List A) × (xs ≡ x ∷ rest)
first_and_rest [] x first = absurd (let no : None ≡ Some x = first in cc)
first_and_rest (y ∷ ys) x first = (ys, (let both : Some y ≡ Some x = first in let same : y ≡ x = cc in ap (λ z. z ∷ ys) same))

map_some : (o : Option Version) (r : CellRef) → Some r ≡ option_map ref_of o → (v : Version) × ((o ≡ Some v) × (ref_of v ≡ r))
map_some None r e = absurd (let no : Some r ≡ None = e in cc)
map_some (Some v) r e = (v, (refl, (let both : Some r ≡ Some (ref_of v) = e in let same : ref_of v ≡ r = cc in same)))

no_version : (settled : Versions) (class id : ℕ) → length settled ≤ class → chain_in settled class id ≡ []
no_version settled class id past = ap (λ (os : List Object). chain_of os id) (get_or_past settled class [] past)

-- the plan of a drop is small beside the steps that its version may take
repair_less : (cells own : ℕ) → cells ≤ 1024 → 0 < own → cells + (1027 * own - 1027) + 2 < 1027 * own + 1
repair_less cells own few some = omega (arith, few, some)

-- what is left of a repair, by its parts
abbrev repair_by : Bool → Bool → ℕ → Bool → ℕ → ℕ → ℕ → ℕ
repair_by marked dropping undo written latches own plan =
    cond marked (own + 1 + cond (latches == 0) 0 1) (cond dropping (plan + (own - version_steps) + 2) (cond (not (undo == 0)) (undo + own + 2) (cond (not written || not (latches == 0)) (own + 2) (own + 1))))

module _ {P : Type 0} (s : State P) (c : ConnId) (whole : IsWhole s) (seat : Seat) (held : seat_of s.transactions.registry.seats c ≡ Some seat) (due : IsToDrop seat) (settled aimed : Versions) (kept : Keeps s settled aimed)
    (own : OwnWrite) (first : slice_get seat.hand.own.items 0 ≡ Some own) where
  at : seat_in s.transactions.registry.seats c.slot ≡ Some seat
  at = in_its_slot s.transactions.registry.seats c seat held

  furnished : IsFurnished s.schema s.transactions.manager (cell_count s.schema s.memory) seat
  furnished = whole.furnished c.slot seat at

  opened : (t : Transaction) × ((seat.transaction ≡ Some t) × (t.kind ≡ kind.ReadWrite))
  opened = some_and_of (λ (t : Transaction). t.kind ≡ kind.ReadWrite) seat.transaction due.writer.0

  unmarked : is_marked seat ≡ false
  unmarked = due.writer.1

  rest : (ws : List OwnWrite) × (seat.hand.own.items ≡ own ∷ ws)
  rest = first_and_rest seat.hand.own.items own first

  pub spans : spans_one_plan s.transactions.manager ≡ true
  spans = elim (true_or_false (spans_one_plan s.transactions.manager)) [
    | inl e ↦ e
    | inr alone ↦
        let none : length seat.hand.own.items ≡ 0 = ap length ((kept.own c.slot seat at).none_logged alone unmarked due.undo) in
        let some = due.own in
        absurd (omega (arith, none, some))
  ]

  header_here : header_of seat.hand.own.items (own.class, own.id) ≡ Some own.header
  header_here =
      ap (λ (o : List OwnWrite). header_of o (own.class, own.id)) rest.1
      ∙ ap (λ b. option_map (λ (x : OwnWrite). x.header) (cond b (Some own) (find (is_of (own.class, own.id)) rest.0))) (is_of_it (own.class, own.id) own refl refl)

  owned : header_of seat.hand.own.items (own.class, own.id) ≡ option_map ref_of (own_version (tx_of seat opened.0) (chain_in settled own.class own.id))
  owned =
      (kept.own c.slot seat at).are_settled (ap (λ b. b || (is_marked seat || (takes_back s.transactions.manager seat && (length seat.hand.undo.pairs == 0)))) spans) opened.0 opened.1.0 own.class own.id

  version : (v : Version) × ((own_version (tx_of seat opened.0) (chain_in settled own.class own.id) ≡ Some v) × (ref_of v ≡ own.header))
  version = map_some (own_version (tx_of seat opened.0) (chain_in settled own.class own.id)) own.header (sym header_here ∙ owned)

  pub own_within : own.class < length s.schema.classes
  own_within = elim (cases_lt own.class (length s.schema.classes)) [
    | inl within ↦ within
    | inr past ↦
        let count = kept.agrees.stands.count in
        let none : Some version.0 ≡ None = sym version.1.0 ∙ ap (own_version (tx_of seat opened.0)) (no_version settled own.class own.id (omega (arith, past, count))) in
        absurd (let no : Some version.0 ≡ None = none in cc)
  ]

  -- once the latch is taken that nobody held
  module _ (free : NoneHolds s.transactions.registry.seats own.class) (sound : IsRoll (edited s.transactions.registry c.slot (add_latch own.class))) where
    takes : ChangesLatches (ground_of s) (ground_in s.memory (edited s.transactions.registry c.slot (add_latch own.class))) c.slot seat (with_latch seat.latches own.class)
    takes = record {
      cells = record { image = λ n. refl; classes = λ n. refl };
      held = at;
      records = alike s.transactions.registry.seats c.slot seat (add_latch own.class) (with_latches (with_latch seat.latches own.class)) at refl;
      latched = λ n on. elim on [
        | inl logged ↦ absurd (false≢true (ap (λ (ps : List Pair). names ps n) (sym due.undo) ∙ logged))
        | inr planned ↦ absurd (false≢true (ap (λ (ps : List Pair). names ps n) (sym due.plan) ∙ planned))
      ];
    }

    free_others : NoOtherHolds s.transactions.registry.seats c.slot own.class
    free_others other x ne there = free other x there

    held_middle : seat_of (changed s.transactions.registry.seats c.slot (add_latch own.class)) c ≡ Some (add_latch own.class seat)
    held_middle = record_after s.transactions.registry.seats c (add_latch own.class) seat (λ x. refl) held

    at_middle : seat_in (changed s.transactions.registry.seats c.slot (add_latch own.class)) c.slot ≡ Some (add_latch own.class seat)
    at_middle = in_its_slot (changed s.transactions.registry.seats c.slot (add_latch own.class)) c (add_latch own.class seat) held_middle

    one_middle : HaveOneHolder (changed s.transactions.registry.seats c.slot (add_latch own.class))
    one_middle = sound.one_holder

    agrees_middle : Agrees s.schema s.transactions.manager (ground_in s.memory (edited s.transactions.registry c.slot (add_latch own.class))) settled aimed
    agrees_middle =
        latches_taken s.schema s.transactions.manager (ground_of s) (ground_in s.memory (edited s.transactions.registry c.slot (add_latch own.class))) c.slot seat (with_latch seat.latches own.class) whole.lawful kept.agrees.works takes due.plan
        (takes_free (ground_of s) c seat own.class at due.latches free_others) settled aimed kept.agrees

    latch : HoldsLatch (add_latch own.class seat) own.class
    latch = takes_class seat.latches own.class

    same_here : objects_in aimed own.class ≡ objects_in settled own.class
    same_here =
        same_at_rest s.schema s.transactions.manager (ground_in s.memory (edited s.transactions.registry c.slot (add_latch own.class))) settled aimed c.slot (add_latch own.class seat) whole.lawful one_middle agrees_middle at_middle
        due.plan due.undo own.class latch

    without : IsWithoutHeader own.header.number (chain_in aimed own.class own.id) (all_but (tx_of seat opened.0) (chain_in aimed own.class own.id))
    without =
        subst (λ (n : ℕ). IsWithoutHeader n (chain_in aimed own.class own.id) (all_but (tx_of seat opened.0) (chain_in aimed own.class own.id))) (ap (λ (r : CellRef). r.number) version.1.1)
        (left_without (tx_of seat opened.0) (chain_in aimed own.class own.id) version.0 (kept.stamped_aimed.once own.class own.id)
        (ap (λ (os : List Object). own_version (tx_of seat opened.0) (chain_of os own.id)) same_here ∙ version.1.0))

    pub own_holds : HoldsSome (class_in s.store own.class) (image_of s.memory) (class_of s.memory)
    own_holds =
        holds_some s.schema s.transactions.manager s.memory (edited s.transactions.registry c.slot (add_latch own.class)) settled aimed c.slot (add_latch own.class seat) whole.lawful one_middle agrees_middle at_middle
        due.plan (inr due.undo) s.store whole.store own.class own_within latch

    pub own_there : Whatever (class_in s.store own.class) (image_of s.memory) (class_of s.memory) (λ objects. HasHeader objects own.header.number)
    own_there =
        whatever_held s.schema s.transactions.manager s.memory (edited s.transactions.registry c.slot (add_latch own.class)) settled aimed c.slot (add_latch own.class seat) whole.lawful one_middle agrees_middle at_middle
        due.plan (inr due.undo) s.store whole.store own.class own_within latch (λ objects. HasHeader objects own.header.number)
        (record {
          version = without.version;
          has = record { id = own.id; within = subst (λ (vs : List Version). Contains vs without.version) (sym without.without.before) (between without.without.newer without.version without.without.older) };
          there = without.there;
        })

    leads_on : (pairs : List Pair) → LeadsWithout (class_in s.store own.class) (image_of s.memory) (class_of s.memory) pairs own.header.number →
        LeadsTo s.schema (ground_in s.memory (edited s.transactions.registry c.slot (add_latch own.class))) pairs own.class own.id (chain_in aimed own.class own.id) (all_but (tx_of seat opened.0) (chain_in aimed own.class own.id))
    leads_on pairs leads =
        leads_rest s.schema s.transactions.manager s.memory (edited s.transactions.registry c.slot (add_latch own.class)) settled aimed c.slot (add_latch own.class seat) whole.lawful one_middle agrees_middle at_middle
        due.plan (inr due.undo) s.store whole.store own.class own_within latch pairs own.header.number own.id (all_but (tx_of seat opened.0) (chain_in aimed own.class own.id)) leads without

    differs : all_but (tx_of seat opened.0) (chain_in aimed own.class own.id) ≢ chain_in aimed own.class own.id
    differs same = longer_with without.without.newer without.version without.without.older (sym without.without.after ∙ same ∙ without.without.before)

    pub own_some : (pairs : List Pair) → LeadsWithout (class_in s.store own.class) (image_of s.memory) (class_of s.memory) pairs own.header.number → ¬ (pairs ≡ [])
    own_some pairs leads =
        has_cell s.schema s.transactions.manager s.memory (edited s.transactions.registry c.slot (add_latch own.class)) settled aimed c.slot (add_latch own.class seat) whole.lawful one_middle agrees_middle at_middle
        due.plan (inr due.undo) s.store whole.store own.class own_within latch pairs own.id (all_but (tx_of seat opened.0) (chain_in aimed own.class own.id)) (leads_on pairs leads) differs

    makes : (plan : Record) → IsPlanOn own.class (image_of s.memory) (class_of s.memory) plan → LeadsWithout (class_in s.store own.class) (image_of s.memory) (class_of s.memory) plan.pairs own.header.number →
        MakesLaid s.schema (ground_in s.memory (edited s.transactions.registry c.slot (add_latch own.class)))
        (ground_in s.memory (record s.transactions.registry { seats = with_hand (changed s.transactions.registry.seats c.slot (add_latch own.class)) c.slot (with_plan plan None seat.hand) })) c (add_latch own.class seat) (with_plan plan None seat.hand)
        own.class own.id (chain_in aimed own.class own.id) (all_but (tx_of seat opened.0) (chain_in aimed own.class own.id))
    makes plan on leads = record {
      cells = record { image = λ n. refl; classes = λ n. refl };
      records = refl;
      only = on.only;
      places =
          places_few (length seat.hand.undo.pairs) (count_by (λ (p : Pair). not (names seat.hand.undo.pairs p.at.number)) plan.pairs) (length plan.pairs) plan.room seat.hand.undo.room
          (ap length due.undo) (count_by-le-length (λ (p : Pair). not (names seat.hand.undo.pairs p.at.number)) plan.pairs) on.once.within on.room (furnished.undo (quiet_if s.transactions.manager seat spans));
      leads = leads_on plan.pairs leads;
      one_holder =
          holders_turned (changed s.transactions.registry.seats c.slot (add_latch own.class)) (with_hand (changed s.transactions.registry.seats c.slot (add_latch own.class)) c.slot (with_plan plan None seat.hand)) c.slot
          (add_latch own.class seat) (record (add_latch own.class seat) { hand = with_plan plan None seat.hand })
          (turned_by (changed s.transactions.registry.seats c.slot (add_latch own.class)) (with_hand (changed s.transactions.registry.seats c.slot (add_latch own.class)) c.slot (with_plan plan None seat.hand)) c
          (add_latch own.class seat) (λ (x : Seat). record x { hand = with_plan plan None seat.hand }) at_middle refl refl refl (λ k e. e))
          one_middle;
    }

    pub own_planned : (h : Hand) (plan : Record) → h ≡ record seat.hand { plan = plan } → AreOrdered seat.hand.own.items → IsPlanOn own.class (image_of s.memory) (class_of s.memory) plan →
        LeadsWithout (class_in s.store own.class) (image_of s.memory) (class_of s.memory) plan.pairs own.header.number → (t : Transaction) → seat.transaction ≡ Some t →
        IsKept s.schema s.transactions.manager s.counters.serials s.counters.ids.items
        (ground_in s.memory (record s.transactions.registry { seats = with_hand (changed s.transactions.registry.seats c.slot (add_latch own.class)) c.slot h })) settled (without_own aimed own.class own.id (tx_of seat t))
    own_planned h plan is ordered on leads t open_now =
        subst (λ (u : Transaction). IsKept s.schema s.transactions.manager s.counters.serials s.counters.ids.items
        (ground_in s.memory (record s.transactions.registry { seats = with_hand (changed s.transactions.registry.seats c.slot (add_latch own.class)) c.slot h })) settled (without_own aimed own.class own.id (tx_of seat u)))
        (let both : Some opened.0 ≡ Some t = sym opened.1.0 ∙ open_now in let same : opened.0 ≡ t = cc in same)
        (subst (λ (x : Hand). IsKept s.schema s.transactions.manager s.counters.serials s.counters.ids.items
        (ground_in s.memory (record s.transactions.registry { seats = with_hand (changed s.transactions.registry.seats c.slot (add_latch own.class)) c.slot x })) settled (without_own aimed own.class own.id (tx_of seat opened.0)))
        (sym (is ∙ (λ i. record seat.hand { plan = plan; work = due.work i })))
        (own_drop_kept s.schema s.transactions.manager s.counters.serials s.counters.ids.items (ground_of s) (ground_in s.memory (edited s.transactions.registry c.slot (add_latch own.class)))
        (ground_in s.memory (record s.transactions.registry { seats = with_hand (changed s.transactions.registry.seats c.slot (add_latch own.class)) c.slot (with_plan plan None seat.hand) })) c seat settled aimed whole.lawful kept held spans unmarked
        opened.0 opened.1.0 opened.1.1 due.plan due.undo due.latches due.rolls own.class own.id own rest.0 rest.1 (subst (λ (ws : List OwnWrite). AreOrdered ws) rest.1 ordered) refl refl own_within free_others takes one_middle held_middle
        plan (makes plan on leads)))

  -- it stays in its phase
  drop_phase : (h : Hand) (latches : ℕ) (p : Phase) → IsInPhase p seat → (seat.condemned ≡ None → p ≡ phase.RollingBack) → h.work ≡ seat.hand.work → h.cause ≡ seat.hand.cause → IsInPhase p (record seat { hand = h; latches = latches })
  drop_phase h latches phase.Idle q rolls work cause = absurd (let none : Some opened.0 ≡ None = sym opened.1.0 ∙ q.transaction in cc)
  drop_phase h latches (phase.Running kind.ReadOnly) q rolls work cause =
      let reads = subst (λ (o : Option Transaction). IsSomeAnd o (λ u. (u.kind ≡ kind.ReadOnly) × (u.mark ≡ None))) opened.1.0 q.transaction in
      absurd (let both : kind.ReadOnly ≡ kind.ReadWrite = sym reads.0 ∙ opened.1.1 in cc)
  drop_phase h latches (phase.Running kind.ReadWrite) q rolls work cause = record {
    work = work ∙ q.work;
    plan = λ live. absurd (let no_way : phase.Running kind.ReadWrite ≡ phase.RollingBack = rolls live in cc);
    transaction = q.transaction;
    cause = cause ∙ q.cause;
  }
  drop_phase h latches phase.Writing q rolls work cause = record { transaction = q.transaction; cause = cause ∙ q.cause }
  drop_phase h latches phase.RollingBack q rolls work cause = record { work = work ∙ q.work; transaction = q.transaction; cause = subst (λ (o : Option Cause). IsSome o) (sym cause) q.cause }
  drop_phase h latches phase.Stamping q rolls work cause =
      let marked = subst (λ (o : Option Transaction). IsSomeAnd o (λ u. (u.kind ≡ kind.ReadWrite) × IsSome u.mark)) opened.1.0 q.transaction in
      absurd (false≢true (sym (ap (λ (o : Option Transaction). is_some (option_and_then (λ (u : Transaction). u.mark) o)) (sym opened.1.0) ∙ unmarked) ∙ marked.1))
  drop_phase h latches phase.Condemned q rolls work cause = absurd q
  drop_phase h latches phase.Absent q rolls work cause = absurd q

  pub whole_dropping : (now : Roll) (h : Hand) (plan : Record) → now ≡ record s.transactions.registry { seats = with_hand (changed s.transactions.registry.seats c.slot (add_latch own.class)) c.slot h } →
      h ≡ record seat.hand { plan = plan } → plan.room ≡ max_plan → IsWhole (record s { transactions = record s.transactions { registry = now } })
  whole_dropping now h plan is_now is room =
      whole_step s s.memory now c seat (λ (x : Seat). record (add_latch own.class x) { hand = h }) whole
      (record { at = 0; elsewhere = λ n ne. refl; classes = λ n. refl; owners = refl }) held
      (then_edited s.transactions.registry (edited s.transactions.registry c.slot (add_latch own.class)) now c.slot (add_latch own.class) (λ (x : Seat). record x { hand = h }) refl is_now)
      (subst (λ (x : Hand). Follows s.schema s.transactions.manager (cell_count s.schema s.memory) (length s.transactions.journal.entries) seat (record seat { hand = x; latches = with_latch seat.latches own.class })) (sym is)
      (kept_follows s.schema s.transactions.manager (cell_count s.schema s.memory) (length s.transactions.journal.entries) seat (record seat.hand { plan = plan }) seat.hand (with_latch seat.latches own.class) orderly furnished
      (room ∙ sym furnished.plan) refl
      (drop_phase (record seat.hand { plan = plan }) (with_latch seat.latches own.class) seat.hand.phase orderly.phase due.rolls refl refl)
      furnished.own))
    where
      orderly : IsOrderly (length s.transactions.journal.entries) seat
      orderly = orderly_of [] s.transactions c seat whole.sound held

  -- the plan of the drop brings the end nearer
  in_repair : (x : Seat) (o : Option Condemned) → x.condemned ≡ o → (o ≡ None → x.hand.phase ≡ phase.RollingBack) → (versions pages : ℕ) → debt s.transactions.manager x versions pages ≡ repair_debt s.transactions.manager x
  in_repair x None is rolls versions pages = λ i. cond (is_some (is i)) (repair_debt s.transactions.manager x) (phase_debt s.transactions.manager x (rolls refl i) versions pages)
  in_repair x (Some by) is rolls versions pages = λ i. cond (is_some (is i)) (repair_debt s.transactions.manager x) (phase_debt s.transactions.manager x x.hand.phase versions pages)

  pub drop_nearer : (h : Hand) (plan : Record) → h ≡ record seat.hand { plan = plan } → ¬ (plan.pairs ≡ []) → IsRecord plan → plan.room ≡ max_plan →
      FallsDebt s.transactions.manager seat (record (add_latch own.class seat) { hand = h })
  drop_nearer h plan is some once room =
      subst (λ (x : Hand). FallsDebt s.transactions.manager seat (record (add_latch own.class seat) { hand = x })) (sym is) (λ versions pages.
      let was = in_repair seat seat.condemned refl (λ live. due.rolls live) versions pages in
      let now = in_repair (record (add_latch own.class seat) { hand = record seat.hand { plan = plan } }) seat.condemned refl (λ live. due.rolls live) versions pages in
      subst (λ (n : ℕ). debt s.transactions.manager (record (add_latch own.class seat) { hand = record seat.hand { plan = plan } }) versions pages < n) (sym (was ∙ repair_was))
      (subst (λ (n : ℕ). n < version_steps * length seat.hand.own.items + 1) (sym (now ∙ repair_now)) (repair_less (length plan.pairs) (length seat.hand.own.items) (subst (λ (n : ℕ). length plan.pairs ≤ n) room once.within) due.own)))
    where
      settled_is : (x : Seat) → settled_own s.transactions.manager x ≡ length x.hand.own.items
      settled_is x = λ i. cond (spans i || is_marked x) (length x.hand.own.items) 0

      repair_was : repair_debt s.transactions.manager seat ≡ version_steps * length seat.hand.own.items + 1
      repair_was = λ i. repair_by (unmarked i) (not (length (due.plan i) == 0) && is_none (due.work i)) (length (due.undo i)) (length (due.plan i) == 0) (due.latches i) (version_steps * settled_is seat i) (length (due.plan i))

      repair_now : repair_debt s.transactions.manager (record (add_latch own.class seat) { hand = record seat.hand { plan = plan } }) ≡ length plan.pairs + (version_steps * length seat.hand.own.items - version_steps) + 2
      repair_now = λ i. repair_by (unmarked i) (not (unwritten_if plan.pairs some i) && is_none (due.work i)) (length seat.hand.undo.pairs) (length plan.pairs == 0) (with_latch seat.latches own.class)
          (version_steps * settled_is (record (add_latch own.class seat) { hand = record seat.hand { plan = plan } }) i) (length plan.pairs)

  -- the record of the connection then
  pub nearer_of : (h : Hand) → FallsDebt s.transactions.manager seat (record (add_latch own.class seat) { hand = h }) →
      (was now : Seat) → seat_of s.transactions.registry.seats c ≡ Some was → seat_of (with_hand (changed s.transactions.registry.seats c.slot (add_latch own.class)) c.slot h) c ≡ Some now → FallsDebt s.transactions.manager was now
  nearer_of h falls was now held_was there =
      let same = same_seat s.transactions.registry.seats c seat was held held_was in
      let middle : seat_of (changed s.transactions.registry.seats c.slot (add_latch own.class)) c ≡ Some (add_latch own.class seat) = record_after s.transactions.registry.seats c (add_latch own.class) seat (λ x. refl) held in
      let then_now : seat_of (with_hand (changed s.transactions.registry.seats c.slot (add_latch own.class)) c.slot h) c ≡ Some (record (add_latch own.class seat) { hand = h }) =
      record_after (changed s.transactions.registry.seats c.slot (add_latch own.class)) c (λ (x : Seat). record x { hand = h }) (add_latch own.class seat) (λ x. refl) middle in
      let same_now = same_seat (with_hand (changed s.transactions.registry.seats c.slot (add_latch own.class)) c.slot h) c (record (add_latch own.class seat) { hand = h }) now then_now there in
      subst (λ (x : Seat). FallsDebt s.transactions.manager x now) same (subst (λ (x : Seat). FallsDebt s.transactions.manager seat x) same_now falls)

-- the latch, and then the hand, are others in their slot: no other record changes
pub only_latched : (roll : Roll) (c : ConnId) (class : ℕ) (h : Hand) → OnlySeat roll (record roll { seats = with_hand (changed roll.seats c.slot (add_latch class)) c.slot h }) c
only_latched roll c class h = record {
  others = λ i ne.
      seat_in_other (changed roll.seats c.slot (add_latch class)) c.slot i (option_map (λ (s : Seat). record s { hand = h }) (seat_in (changed roll.seats c.slot (add_latch class)) c.slot)) ne
      ∙ seat_in_other roll.seats c.slot i (option_map (add_latch class) (seat_in roll.seats c.slot)) ne;
  rest = refl;
}

-- a plan that has a cell is laid in a hand, after a latch is taken, and all else stays
pub lays_latched : {P : Type 0} (s : State P) (c : ConnId) (class : ℕ) (was h : Hand) (plan : Record) → IsSomeAnd (seat_of (changed s.transactions.registry.seats c.slot (add_latch class)) c) (λ x. was ≡ x.hand) → h ≡ planning plan was → ¬ (plan.pairs ≡ []) →
    LaysLatched s (record s { transactions = record s.transactions { registry = record s.transactions.registry { seats = with_hand (changed s.transactions.registry.seats c.slot (add_latch class)) c.slot h } } }) c class
lays_latched s c class was h plan lent is some = record {
  made = plan;
  some = some;
  is =
      ap (λ (r : Roll). record s { transactions = record s.transactions { registry = r } })
      (ap (λ (x : Hand). record s.transactions.registry { seats = with_hand (changed s.transactions.registry.seats c.slot (add_latch class)) c.slot x }) is
      ∙ edited_hand (edited s.transactions.registry c.slot (add_latch class)) c (planning plan) was lent);
}
