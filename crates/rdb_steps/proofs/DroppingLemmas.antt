-- The plan of an own version's drop keeps what is kept.
use Rattle.std.proofs.Common.{◌≡◌, ◌≢◌, ◌⊎◌, ◌<◌, ◌≤◌, ◌||◌, ◌&&◌, ◌==◌, ◌^◌, ◌∷◌, ◌++◌, ℕ, List, [], length, Bool, true, false, not, cond, find, Option, Some, None, Contains, AllPairs, IsSome, IsSomeAnd, is_some, is_none, option_map, option_and_then, slice_index, slice_index_or, refl, sym, ap, subst, ◌∙◌, arith, inl, inr, zero, suc, max}
use Rattle.std.specs.Int.{bit_at}
use Rattle.std.proofs.lemmas.Nat.Bits.{bit_at-zero, bit_at_or, bit_at-lt, bit_at-pow_same, bit_at-pow_other}
use Rattle.std.proofs.Permutation.{which}
use Rattle.std.proofs.lemmas.Bool.{false≢true, ne_eqb, and_right, or_left, or_right}
use Rattle.std.proofs.lemmas.List.{nil_from_length}
use Rattle.std.proofs.lemmas.List.Elements.{Contains-append_cases}
use Rattle.rdb_base.specs.declared.identity.ConnId.{ConnId}
use Rattle.rdb_base.specs.declared.identity.Kind.TheVariants as kind
use Rattle.rdb_base.specs.declared.identity.Manager.{Manager}
use Rattle.rdb_base.specs.declared.identity.Phase.{Phase}
use Rattle.rdb_base.specs.declared.identity.Phase.TheVariants as phase
use Rattle.rdb_base.specs.declared.identity.Stamp.TheVariants as stamp
use Rattle.rdb_base.specs.declared.identity.TxId.{TxId}
use Rattle.rdb_base.specs.declared.operation.Op.{Op}
use Rattle.rdb_base.specs.Operations.{class_of as class_named}
use Rattle.rdb_pages.specs.declared.cell.CellRef.{CellRef}
use Rattle.rdb_schema.specs.declared.schema.Schema.{Schema}
use Rattle.rdb_cells.specs.declared.pairs.Pair.{Pair}
use Rattle.rdb_cells.specs.Records.{Record, names, planned}
use Rattle.rdb_cells.proofs.SettledLemmas.{true_or_false}
use Rattle.rdb_registry.specs.declared.hand.Hand.{Hand}
use Rattle.rdb_registry.specs.declared.hand.Work.{Work}
use Rattle.rdb_registry.specs.declared.own_writes.OwnWrite.{OwnWrite}
use Rattle.rdb_registry.specs.declared.seat.Seat.{Seat}
use Rattle.rdb_registry.specs.declared.seat.Transaction.{Transaction}
use Rattle.rdb_registry.specs.OwnWrites.{AreOrdered, header_of, object_of, is_of}
use Rattle.rdb_registry.specs.Seats.{Seats, seat_in, seat_of, HoldsLatch, NoOtherHolds, with_hand, with_latches, with_latch, add_latch}
use Rattle.rdb_registry.proofs.RecordLaws.{changed_here}
use Rattle.rdb_registry.proofs.SlotLemmas.{seat_in_other}
use Rattle.rdb_sight.specs.Versions.{Version, Object, Versions, IsAscending, objects_in, chain_in, chain_of, with_chain, with_chain_in, own_version}
use Rattle.rdb_store.specs.Stored.{ref_of}
use Rattle.rdb_store.proofs.ChainMaps.{chain_same, rises_from}
use Rattle.rdb_writes.specs.Changes.{SameCells, ChangesHand, ChangesLatches}
use Rattle.rdb_writes.specs.Grounds.{Ground, HaveOneHolder, HasPlaces}
use Rattle.rdb_writes.specs.Steps.{spans_one_plan, is_written}
use Rattle.rdb_writes.proofs.WorkLemmas.{in_its_slot}
use Rattle.rdb_steps.specs.Invariant.{IsKept}
use Rattle.rdb_steps.specs.Kept.{IsLawful, HoldsClass, Agrees, OwnAre, aims, is_dropping, is_marked, owns_settled, takes_back, is_rolling_back, tx_of}
use Rattle.rdb_steps.specs.Lists.{LaysPlan, LeadsTo, TakesFree}
use Rattle.rdb_steps.specs.LaidPlans.{MakesLaid}
use Rattle.rdb_steps.specs.Making.{with_plan, with_put, without_own}
use Rattle.rdb_steps.specs.Phases.{Rests, RestsIn, IsWriting, IsBetween, IsRollingBack}
use Rattle.rdb_steps.specs.Planned.{PlanLeads, all_but, object_named, IsWithin}
use Rattle.rdb_steps.specs.Stamped.{IsOpen, AreOfTwo}
use Rattle.rdb_steps.proofs.LatchLemmas.{latches_taken}
use Rattle.rdb_steps.proofs.LeadingLemmas.{is_of_it, put_leads, garbage_leads, drop_leads}
use Rattle.rdb_steps.proofs.ListLemmas.{holds_same}
use Rattle.rdb_steps.proofs.MakingLemmas.{OneChanges, MakesChain, own_open, plan_kept}
use Rattle.rdb_steps.proofs.OwnChains.{once_put, once_left, once_without, within_left, within_without, longer_with, none_left}
use Rattle.rdb_steps.proofs.PhaseLemmas.{takes_none_back, aims_spoken}
use Rattle.rdb_steps.proofs.PlanLemmas.{plan_lists}
use Rattle.rdb_steps.proofs.RestingLemmas.{same_at_rest, stands_now, ascends, owned_at_rest}
use Rattle.rdb_steps.proofs.PlanningLemmas.{leads_elsewhere, unwritten_if, hand_changes}

-- latches, where a connection that holds none takes one that nobody else holds
only_class : (latches class k : ℕ) → latches ≡ 0 → bit_at (with_latch latches class) k ≡ 1 → k ≡ class
only_class latches class k none held = elim (which k class) [
  | inl same ↦ same
  | inr ne ↦
      let both : bit_at (with_latch latches class) k ≡ max (bit_at latches k) (bit_at (2 ^ class) k) = bit_at_or latches (2 ^ class) k in
      let other : bit_at (2 ^ class) k ≡ 0 = bit_at-pow_other class k ne in
      let before : bit_at latches k ≡ 0 = ap (λ (n : ℕ). bit_at n k) none ∙ bit_at-zero k in
      absurd (omega (arith, both, other, before, held))
]

pub takes_class : (latches class : ℕ) → bit_at (with_latch latches class) class ≡ 1
takes_class latches class =
    let both : bit_at (with_latch latches class) class ≡ max (bit_at latches class) (bit_at (2 ^ class) class) = bit_at_or latches (2 ^ class) class in
    let one : bit_at (2 ^ class) class ≡ 1 = bit_at-pow_same class in
    let few = bit_at-lt latches class in
    omega (arith, both, one, few)

pub takes_free : (before : Ground) (c : ConnId) (seat : Seat) (class : ℕ) → seat_in before.seats c.slot ≡ Some seat → seat.latches ≡ 0 → NoOtherHolds before.seats c.slot class → TakesFree before seat (with_latch seat.latches class)
takes_free before c seat class at none free = record {
  keeps = λ k held.
      let zero_bit : bit_at seat.latches k ≡ 0 = ap (λ (n : ℕ). bit_at n k) none ∙ bit_at-zero k in
      absurd (omega (arith, held, zero_bit));
  free = λ k held not_before i s there. elim (which i c.slot) [
    | inl same ↦
        let both : Some s ≡ Some seat = sym there ∙ ap (seat_in before.seats) same ∙ at in
        let is : s ≡ seat = cc in
        ap (λ (x : Seat). bit_at x.latches k) is ∙ ap (λ (n : ℕ). bit_at n k) none ∙ bit_at-zero k
    | inr other ↦ subst (λ (k : ℕ). bit_at s.latches k ≡ 0) (sym (only_class seat.latches class k none held)) (free i s other there)
  ];
}

-- latches are others in their slot
latch_changes : (before after : Ground) (slot : ℕ) (seat : Seat) (latches : ℕ) → ChangesLatches before after slot seat latches → OneChanges before.seats after.seats slot seat (with_latches latches seat)
latch_changes before after slot seat latches changes = record {
  at = changes.held;
  at_now =
      ap (λ (seats : Seats). seat_in seats slot) changes.records
      ∙ changed_here before.seats slot (with_latches latches)
      ∙ ap (option_map (with_latches latches)) changes.held;
  others = λ i other.
      ap (λ (seats : Seats). seat_in seats i) changes.records
      ∙ seat_in_other before.seats slot i (option_map (with_latches latches) (seat_in before.seats slot)) other;
  conn = refl;
  transaction = refl;
}

then_changes : (before middle after : Seats) (slot : ℕ) (a b c : Seat) → OneChanges before middle slot a b → OneChanges middle after slot b c → OneChanges before after slot a c
then_changes before middle after slot a b c first second = record {
  at = first.at;
  at_now = second.at_now;
  others = λ i ne. second.others i ne ∙ first.others i ne;
  conn = second.conn ∙ first.conn;
  transaction = second.transaction ∙ first.transaction;
}

-- a connection under MVCC that has neither plan nor pair nor latch drops the first version that its transaction wrote
module _ (schema : Schema) (manager : Manager) (serials : ℕ) (ids : List ℕ) (before middle after : Ground) (c : ConnId) (seat : Seat) (settled aimed : Versions)
    (lawful : IsLawful schema) (kept : IsKept schema manager serials ids before settled aimed)
    (held : seat_of before.seats c ≡ Some seat) (spans : spans_one_plan manager ≡ true) (unmarked : is_marked seat ≡ false) (t : Transaction) (opened : seat.transaction ≡ Some t) (writes : t.kind ≡ kind.ReadWrite)
    (no_plan : seat.hand.plan.pairs ≡ []) (empty : seat.hand.undo.pairs ≡ []) (no_latch : seat.latches ≡ 0)
    (rolls : seat.condemned ≡ None → seat.hand.phase ≡ phase.RollingBack)
    (class id : ℕ) (w : OwnWrite) (ws : List OwnWrite) (own_is : seat.hand.own.items ≡ w ∷ ws) (ordered : AreOrdered (w ∷ ws)) (of_class : w.class ≡ class) (of_id : w.id ≡ id)
    (within : class < length schema.classes) (free : NoOtherHolds before.seats c.slot class)
    (takes : ChangesLatches before middle c.slot seat (with_latch seat.latches class)) (one_middle : HaveOneHolder middle.seats) (held_middle : seat_of middle.seats c ≡ Some (add_latch class seat))
    (plan : Record) (makes : MakesLaid schema middle after c (add_latch class seat) (with_plan plan None seat.hand) class id (chain_in aimed class id) (all_but (tx_of seat t) (chain_in aimed class id))) where
  at : seat_in before.seats c.slot ≡ Some seat
  at = in_its_slot before.seats c seat held

  agrees_middle : Agrees schema manager middle settled aimed
  agrees_middle = latches_taken schema manager before middle c.slot seat (with_latch seat.latches class) lawful kept.agrees.works takes no_plan (takes_free before c seat class at no_latch free) settled aimed kept.agrees

  at_middle : seat_in middle.seats c.slot ≡ Some (add_latch class seat)
  at_middle = (latch_changes before middle c.slot seat (with_latch seat.latches class) takes).at_now

  same_here : (k : ℕ) → HoldsLatch (add_latch class seat) k → objects_in aimed k ≡ objects_in settled k
  same_here k held_now = same_at_rest schema manager middle settled aimed c.slot (add_latch class seat) lawful one_middle agrees_middle at_middle no_plan empty k held_now

  owned_here : (k j : ℕ) → IsWithin manager (add_latch class seat) k → header_of seat.hand.own.items (k, j) ≡ option_map ref_of (own_version (tx_of seat t) (chain_in aimed k j))
  owned_here =
      owned_at_rest manager seat (add_latch class seat) settled aimed t (kept.own c.slot seat at) opened no_plan (λ spans_too. same_here)
      (λ alone. absurd (false≢true (sym alone ∙ spans)))

  latch : HoldsLatch (add_latch class seat) class
  latch = takes_class seat.latches class

  ascending : IsAscending (objects_in aimed class)
  ascending = ascends schema manager middle settled aimed c.slot (add_latch class seat) lawful one_middle agrees_middle at_middle no_plan (inr empty) class within latch

  -- the version is there, so the chain is another without it
  header_is : header_of seat.hand.own.items (class, id) ≡ Some w.header
  header_is =
      ap (λ (o : List OwnWrite). header_of o (class, id)) own_is
      ∙ ap (λ b. option_map (λ (x : OwnWrite). x.header) (cond b (Some w) (find (is_of (class, id)) ws))) (is_of_it (class, id) w of_class of_id)

  differs : all_but (tx_of seat t) (chain_in aimed class id) ≢ chain_in aimed class id
  differs same =
      let gone : option_map ref_of (own_version (tx_of seat t) (chain_in aimed class id)) ≡ None = ap (option_map ref_of) (sym (ap (own_version (tx_of seat t)) same) ∙ none_left (tx_of seat t) (chain_in aimed class id)) in
      let both : Some w.header ≡ None = sym header_is ∙ owned_here class id (λ s. latch) ∙ gone in
      absurd (let no_header : Some w.header ≡ None = both in cc)

  some_cell : ¬ (plan.pairs ≡ [])
  some_cell =
      leads_elsewhere schema lawful middle plan.pairs class id (chain_in aimed class id) (all_but (tx_of seat t) (chain_in aimed class id)) (objects_in aimed class) within makes.leads
      (stands_now schema manager middle settled aimed c.slot (add_latch class seat) lawful one_middle agrees_middle at_middle no_plan (inr empty) class within latch)
      ascending refl differs

  dropping : is_dropping (with_plan plan None seat.hand) ≡ true
  dropping = ap (λ b. not b && true) (unwritten_if plan.pairs some_cell)

  lays : LaysPlan schema manager middle after c (add_latch class seat) (with_plan plan None seat.hand) class id (chain_in aimed class id) (all_but (tx_of seat t) (chain_in aimed class id))
  lays = record {
    changes = record {
      cells = makes.cells;
      held = held_middle;
      records = makes.records;
      latched = λ n on. elim on [
        | inl logged ↦ absurd (let none : names [] n ≡ true = ap (λ (ps : List Pair). names ps n) (sym empty) ∙ logged in cc)
        | inr planned_there ↦ (class, makes.only n planned_there, latch)
      ];
      places = makes.places;
    };
    undo = refl;
    had_none = no_plan;
    stands = inr empty;
    aims = or_left (is_dropping (with_plan plan None seat.hand)) (not (takes_back manager seat)) dropping;
    latch = latch;
    only = makes.only;
    leads = makes.leads;
  }

  rests_in : (p : Phase) → RestsIn manager (length schema.classes) seat p → (seat.condemned ≡ None → p ≡ phase.RollingBack) → RestsIn manager (length schema.classes) (record (add_latch class seat) { hand = with_plan plan None seat.hand }) p
  rests_in phase.Idle r p_rolls = absurd (let none : Some t ≡ None = sym opened ∙ r.transaction in cc)
  rests_in (phase.Running kind.ReadOnly) r p_rolls =
      absurd (let reads : kind.ReadOnly ≡ kind.ReadWrite = sym (subst (λ (o : Option Transaction). IsSomeAnd o (λ u. u.kind ≡ kind.ReadOnly)) opened r.reader) ∙ writes in cc)
  rests_in (phase.Running kind.ReadWrite) r p_rolls = record {
    writer = r.writer;
    work = refl;
    cause = r.cause;
    plan = λ e. absurd (let no_way : phase.Running kind.ReadWrite ≡ phase.RollingBack = p_rolls e in cc);
    undo = λ e. absurd (let no_way : phase.Running kind.ReadWrite ≡ phase.RollingBack = p_rolls e in cc);
    latches = λ e. absurd (let no_way : phase.Running kind.ReadWrite ≡ phase.RollingBack = p_rolls e in cc);
  }
  rests_in phase.Writing r p_rolls = record {
    writer = r.writer;
    cause = r.cause;
    work = λ e. absurd (let no_way : phase.Writing ≡ phase.RollingBack = p_rolls e in cc);
    latch = λ x is. absurd (let none : None ≡ Some x = is in cc);
    unplanned = λ x e is none. absurd (let no_way : phase.Writing ≡ phase.RollingBack = p_rolls e in cc);
    one = λ e. absurd (let no_way : phase.Writing ≡ phase.RollingBack = p_rolls e in cc);
    undo = λ e. absurd (let no_way : phase.Writing ≡ phase.RollingBack = p_rolls e in cc);
    all = λ e. absurd (let no_way : phase.Writing ≡ phase.RollingBack = p_rolls e in cc);
  }
  rests_in phase.RollingBack r p_rolls = record {
    writer = r.writer;
    work = refl;
    cause = r.cause;
    free = λ e spans_too none. absurd (false≢true (sym none ∙ dropping));
    plan = λ alone. absurd (false≢true (sym alone ∙ spans));
    all = λ alone. absurd (false≢true (sym alone ∙ spans));
  }
  rests_in phase.Stamping r p_rolls = absurd (false≢true (sym unmarked ∙ r.writer.1))
  rests_in phase.Condemned r p_rolls = absurd r
  rests_in phase.Absent r p_rolls = absurd r

  pub own_drop_kept : IsKept schema manager serials ids after settled (without_own aimed class id (tx_of seat t))
  own_drop_kept =
      plan_kept schema manager serials serials ids ids before after c.slot seat (record (add_latch class seat) { hand = with_plan plan None seat.hand }) settled aimed class id (all_but (tx_of seat t) (chain_in aimed class id)) kept (omega arith) (λ k. omega arith)
      (then_changes before.seats middle.seats after.seats c.slot seat (add_latch class seat) (record (add_latch class seat) { hand = with_plan plan None seat.hand })
      (latch_changes before middle c.slot seat (with_latch seat.latches class) takes) (hand_changes middle after c (add_latch class seat) (with_plan plan None seat.hand) lays.changes))
      (record {
        one_holder = makes.one_holder;
        open_one = t;
        opened = opened;
        writes = writes;
        latch = latch;
        within = within;
        ascending = ascending;
        lists = plan_lists schema manager middle after c (add_latch class seat) (with_plan plan None seat.hand) class id (chain_in aimed class id) (all_but (tx_of seat t) (chain_in aimed class id)) lawful one_middle agrees_middle.works lays within settled aimed agrees_middle refl;
        own_same = refl;
        undo_same = refl;
        settled_same = refl;
        unwritten = unwritten_if plan.pairs some_cell;
        leads =
            drop_leads manager seat (record (add_latch class seat) { hand = with_plan plan None seat.hand }) settled aimed class id (all_but (tx_of seat t) (chain_in aimed class id)) t opened refl refl
            (let count = kept.agrees.rest.count in omega (arith, count, within)) ascending owned_here (λ spans_too. same_here) plan w ws refl own_is ordered of_class of_id latch refl;
        drops = λ alone. absurd (false≢true (sym alone ∙ spans));
        rests = rests_in seat.hand.phase (kept.rests c.slot seat at) rolls;
        once = once_left (tx_of seat t) (chain_in aimed class id) (kept.stamped_aimed.once class id);
        open_ones = λ v tx there by. kept.stamped_aimed.open_ones class id v tx (within_left (tx_of seat t) (chain_in aimed class id) v there) by;
        serial_drawn = λ v there. kept.drawn_aimed.each_serial class v (record { id = id; within = within_left (tx_of seat t) (chain_in aimed class id) v there });
        id_drawn = λ some. kept.drawn_aimed.each_id class id (λ none. some (ap (all_but (tx_of seat t)) none));
      })
