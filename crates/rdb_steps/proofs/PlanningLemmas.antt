-- A plan that is made keeps what is kept: that of an operation, that of a garbage version's drop, and that of an own version's drop.
use Rattle.std.proofs.Common.{◌≡◌, ◌≢◌, ◌⊎◌, ◌<◌, ◌≤◌, ◌||◌, ◌&&◌, ◌==◌, ◌^◌, ◌∷◌, ◌++◌, ℕ, List, [], length, Bool, true, false, not, cond, find, Option, Some, None, Contains, AllPairs, IsSome, IsSomeAnd, is_some, is_none, option_map, option_and_then, slice_index, slice_index_or, refl, sym, ap, subst, ◌∙◌, arith, inl, inr, zero, suc, max}
use Rattle.std.specs.Int.{bit_at}
use Rattle.std.proofs.lemmas.Nat.Bits.{bit_at-zero, bit_at_or, bit_at-lt, bit_at-pow_same, bit_at-pow_other}
use Rattle.std.proofs.Permutation.{which}
use Rattle.std.proofs.lemmas.Bool.{false≢true, ne_eqb, and_right, or_left, or_right}
use Rattle.std.proofs.lemmas.List.{nil_from_length}
use Rattle.std.proofs.lemmas.List.Elements.{Contains-append_cases}
use Rattle.rdb_base.specs.declared.identity.ConnId.{ConnId}
use Rattle.rdb_base.specs.declared.identity.Kind.TheVariants as kind
use Rattle.rdb_base.specs.declared.identity.Manager.{Manager}
use Rattle.rdb_base.specs.declared.identity.Phase.{Phase}
use Rattle.rdb_base.specs.declared.identity.Phase.TheVariants as phase
use Rattle.rdb_base.specs.declared.identity.Stamp.TheVariants as stamp
use Rattle.rdb_base.specs.declared.identity.TxId.{TxId}
use Rattle.rdb_base.specs.declared.operation.Op.{Op}
use Rattle.rdb_base.specs.Operations.{class_of as class_named}
use Rattle.rdb_pages.specs.declared.cell.CellRef.{CellRef}
use Rattle.rdb_schema.specs.declared.schema.Schema.{Schema}
use Rattle.rdb_cells.specs.declared.pairs.Pair.{Pair}
use Rattle.rdb_cells.specs.Records.{Record, names, planned}
use Rattle.rdb_cells.proofs.SettledLemmas.{true_or_false}
use Rattle.rdb_registry.specs.declared.hand.Hand.{Hand}
use Rattle.rdb_registry.specs.declared.hand.Work.{Work}
use Rattle.rdb_registry.specs.declared.own_writes.OwnWrite.{OwnWrite}
use Rattle.rdb_registry.specs.declared.seat.Seat.{Seat}
use Rattle.rdb_registry.specs.declared.seat.Transaction.{Transaction}
use Rattle.rdb_registry.specs.OwnWrites.{AreOrdered, header_of, object_of, is_of}
use Rattle.rdb_registry.specs.Seats.{Seats, seat_in, seat_of, HoldsLatch, NoOtherHolds, with_hand, with_latches, with_latch, add_latch}
use Rattle.rdb_registry.proofs.RecordLaws.{changed_here}
use Rattle.rdb_registry.proofs.SlotLemmas.{seat_in_other}
use Rattle.rdb_sight.specs.Versions.{Version, Object, Versions, IsAscending, objects_in, chain_in, chain_of, with_chain, with_chain_in, own_version}
use Rattle.rdb_store.specs.Stored.{ref_of}
use Rattle.rdb_store.proofs.ChainMaps.{chain_same, rises_from}
use Rattle.rdb_writes.specs.Changes.{SameCells, ChangesHand, ChangesLatches}
use Rattle.rdb_writes.specs.Grounds.{Ground, HaveOneHolder, HasPlaces}
use Rattle.rdb_writes.specs.Steps.{spans_one_plan, is_written}
use Rattle.rdb_writes.proofs.WorkLemmas.{in_its_slot}
use Rattle.rdb_steps.specs.Invariant.{IsKept}
use Rattle.rdb_steps.specs.Kept.{IsLawful, HoldsClass, Agrees, OwnAre, aims, is_dropping, is_marked, owns_settled, takes_back, is_rolling_back, tx_of}
use Rattle.rdb_steps.specs.Lists.{LaysPlan, LeadsTo, TakesFree}
use Rattle.rdb_steps.specs.LaidPlans.{MakesLaid}
use Rattle.rdb_steps.specs.Making.{with_plan, with_put, without_own}
use Rattle.rdb_steps.specs.Phases.{Rests, RestsIn, IsWriting, IsBetween, IsRollingBack}
use Rattle.rdb_steps.specs.Planned.{PlanLeads, all_but, object_named, IsWithin}
use Rattle.rdb_steps.specs.Stamped.{IsOpen, AreOfTwo}
use Rattle.rdb_steps.proofs.LatchLemmas.{latches_taken}
use Rattle.rdb_steps.proofs.LeadingLemmas.{is_of_it, put_leads, garbage_leads, drop_leads}
use Rattle.rdb_steps.proofs.ListLemmas.{holds_same}
use Rattle.rdb_steps.proofs.MakingLemmas.{OneChanges, MakesChain, own_open, plan_kept}
use Rattle.rdb_steps.proofs.OwnChains.{once_put, once_left, once_without, within_left, within_without, longer_with, none_left}
use Rattle.rdb_steps.proofs.PhaseLemmas.{takes_none_back, aims_spoken}
use Rattle.rdb_steps.proofs.PlanLemmas.{plan_lists}
use Rattle.rdb_steps.proofs.RestingLemmas.{same_at_rest, stands_now, ascends, owned_at_rest}

-- a plan that leads elsewhere has a cell
pub leads_elsewhere : (schema : Schema) → IsLawful schema → (g : Ground) (pairs : List Pair) (class id : ℕ) (was chain : List Version) (objects : List Object) → class < length schema.classes →
    LeadsTo schema g pairs class id was chain → HoldsClass schema g g.image class objects → IsAscending objects → chain_of objects id ≡ was → chain ≢ was → ¬ (pairs ≡ [])
leads_elsewhere schema lawful g pairs class id was chain objects within leads holds ascending is differs none =
    let then_holds : HoldsClass schema g g.image class (with_chain objects id chain) =
    holds_same schema lawful g g (planned pairs g.image) g.image class (with_chain objects id chain) within (λ n. refl)
    (λ n of. sym (ap (λ (ps : List Pair). planned ps g.image n) none)) (leads objects holds is) in
    let same : with_chain objects id chain ≡ objects = (lawful class within).one g.image g.class_of (with_chain objects id chain) objects then_holds holds in
    differs (sym (chain_same objects id chain (rises_from objects ascending)) ∙ ap (λ (os : List Object). chain_of os id) same ∙ is)

pub unwritten_if : (pairs : List Pair) → ¬ (pairs ≡ []) → (length pairs == 0) ≡ false
unwritten_if pairs some = ne_eqb (length pairs) 0 (λ e. some (nil_from_length pairs e))

-- a hand is another in its slot
pub hand_changes : (before after : Ground) (c : ConnId) (seat : Seat) (hand : Hand) → ChangesHand before after c seat hand → OneChanges before.seats after.seats c.slot seat (record seat { hand = hand })
hand_changes before after c seat hand changes = let at = in_its_slot before.seats c seat changes.held in record {
  at = at;
  at_now =
      ap (λ (seats : Seats). seat_in seats c.slot) changes.records
      ∙ changed_here before.seats c.slot (λ (s : Seat). record s { hand = hand })
      ∙ ap (option_map (λ (s : Seat). record s { hand = hand })) at;
  others = λ i other.
      ap (λ (seats : Seats). seat_in seats i) changes.records
      ∙ seat_in_other before.seats c.slot i (option_map (λ (s : Seat). record s { hand = hand }) (seat_in before.seats c.slot)) other;
  conn = refl;
  transaction = refl;
}

-- the open transaction of a writer
writer_open : (seat : Seat) (t : Transaction) → seat.transaction ≡ Some t → IsSomeAnd seat.transaction (λ u. u.kind ≡ kind.ReadWrite) → t.kind ≡ kind.ReadWrite
writer_open seat t opened writes = subst (λ (o : Option Transaction). IsSomeAnd o (λ u. u.kind ≡ kind.ReadWrite)) opened writes

first_within : (v : Version) (vs : List Version) → Contains (v ∷ vs) v
first_within v vs = (zero, omega arith, refl)

only_one : (v w : Version) → Contains (v ∷ []) w → v ≡ w
only_one v w there = go there.0 there.1 there.2
  where
    go : (k : ℕ) → k < length (v ∷ []) → slice_index_or (v ∷ []) k w ≡ w → v ≡ w
    go zero lt is = is
    go (suc k) lt is = absurd (omega (arith, lt))

has_one : (newer : List Version) (v : Version) (older : List Version) → newer ++ v ∷ older ≢ []
has_one [] v older e = cc
has_one (w ∷ newer) v older e = cc

-- and the chain is another one
pub record IsLaid (schema : Schema) (before after : Ground) (c : ConnId) (seat : Seat) (hand : Hand) (class id : ℕ) (was chain : List Version) : Type 0 where
  pub cells : SameCells before after
  pub records : after.seats ≡ with_hand before.seats c.slot hand
  pub only : (n : ℕ) → names hand.plan.pairs n ≡ true → before.class_of n ≡ Some class
  pub places : HasPlaces hand
  pub leads : LeadsTo schema before hand.plan.pairs class id was chain
  pub one_holder : HaveOneHolder after.seats
  pub differs : chain ≢ was

is_laid : (schema : Schema) (before after : Ground) (c : ConnId) (seat : Seat) (hand : Hand) (class id : ℕ) (was chain : List Version) → MakesLaid schema before after c seat hand class id was chain → chain ≢ was → IsLaid schema before after c seat hand class id was chain
is_laid schema before after c seat hand class id was chain makes differs = record {
  cells = makes.cells;
  records = makes.records;
  only = makes.only;
  places = makes.places;
  leads = makes.leads;
  one_holder = makes.one_holder;
  differs = differs;
}

-- a connection that writes and wasn't condemned, has an operation in work and no plan
module _ (schema : Schema) (manager : Manager) (serials : ℕ) (ids : List ℕ) (before after : Ground) (c : ConnId) (seat : Seat) (settled aimed : Versions)
    (lawful : IsLawful schema) (kept : IsKept schema manager serials ids before settled aimed)
    (held : seat_of before.seats c ≡ Some seat) (phase_is : seat.hand.phase ≡ phase.Writing) (live : seat.condemned ≡ None) (no_plan : seat.hand.plan.pairs ≡ [])
    (was : Work) (in_work : seat.hand.work ≡ Some was) (t : Transaction) (opened : seat.transaction ≡ Some t) where
  at : seat_in before.seats c.slot ≡ Some seat
  at = in_its_slot before.seats c seat held

  writing : IsWriting manager (length schema.classes) seat
  writing = subst (λ (p : Phase). RestsIn manager (length schema.classes) seat p) phase_is (kept.rests c.slot seat at)

  takes_none : takes_back manager seat ≡ false
  takes_none = λ i. is_some (live i) || (is_rolling_back (phase_is i) && not (spans_one_plan manager))

  speaks : aims manager seat ≡ true
  speaks = or_right (is_dropping seat.hand) (not (takes_back manager seat)) (ap not takes_none)

  same_here : spans_one_plan manager ≡ true → (k : ℕ) → HoldsLatch seat k → objects_in aimed k ≡ objects_in settled k
  same_here spans k held = same_at_rest schema manager before settled aimed c.slot seat lawful kept.one_holder kept.agrees at no_plan (writing.undo live spans no_plan) k held

  owned_here : (now : Seat) → now.latches ≡ seat.latches → (k j : ℕ) → IsWithin manager now k → header_of seat.hand.own.items (k, j) ≡ option_map ref_of (own_version (tx_of seat t) (chain_in aimed k j))
  owned_here now latches k j inside =
      owned_at_rest manager seat seat settled aimed t (kept.own c.slot seat at) opened no_plan same_here
      (λ alone. (writing.writer.1, takes_none)) k j
      (λ spans. subst (λ (n : ℕ). bit_at n k ≡ 1) latches (inside spans))

  ascending : (class : ℕ) → class < length schema.classes → HoldsLatch seat class → IsAscending (objects_in aimed class)
  ascending class within held = ascends schema manager before settled aimed c.slot seat lawful kept.one_holder kept.agrees at no_plan (inl speaks) class within held

  latch_here : (class : ℕ) → class_named was.op ≡ class → HoldsLatch seat class
  latch_here class of_class = subst (λ (k : ℕ). HoldsLatch seat k) of_class (writing.latch was in_work)

  -- a hand with a plan, and with the operation as it is then
  module _ (class id : ℕ) (chain : List Version) (plan : Record) (work : Work)
      (within : class < length schema.classes) (same_class : class_named work.op ≡ class_named was.op) (of_class : class_named was.op ≡ class)
      (laid : IsLaid schema before after c seat (with_plan plan (Some work) seat.hand) class id (chain_in aimed class id) chain) where
    latch : HoldsLatch seat class
    latch = latch_here class of_class

    lays : LaysPlan schema manager before after c seat (with_plan plan (Some work) seat.hand) class id (chain_in aimed class id) chain
    lays = record {
      changes = record {
        cells = laid.cells;
        held = held;
        records = laid.records;
        latched = λ n on. elim on [
          | inl logged ↦ (kept.agrees.works c.slot seat at).latched n (inl logged)
          | inr planned_there ↦ (class, laid.only n planned_there, latch)
        ];
        places = laid.places;
      };
      undo = refl;
      had_none = no_plan;
      stands = inl speaks;
      aims = or_right (is_dropping (with_plan plan (Some work) seat.hand)) (not (takes_back manager seat)) (ap not takes_none);
      latch = latch;
      only = laid.only;
      leads = laid.leads;
    }

    some_cell : ¬ (plan.pairs ≡ [])
    some_cell =
        leads_elsewhere schema lawful before plan.pairs class id (chain_in aimed class id) chain (objects_in aimed class) within laid.leads
        (stands_now schema manager before settled aimed c.slot seat lawful kept.one_holder kept.agrees at no_plan (inl speaks) class within latch)
        (ascending class within latch) refl laid.differs

    rests_now : Rests manager (length schema.classes) (record seat { hand = with_plan plan (Some work) seat.hand })
    rests_now = subst (λ (p : Phase). RestsIn manager (length schema.classes) (record seat { hand = with_plan plan (Some work) seat.hand }) p) (sym phase_is) (record {
      writer = writing.writer;
      cause = writing.cause;
      work = λ e. refl;
      latch = λ w is.
          let same : w ≡ work = let both : Some w ≡ Some work = sym is in cc in
          subst (λ (k : ℕ). HoldsLatch seat k) (sym (ap (λ (x : Work). class_named x.op) same ∙ same_class ∙ of_class)) latch;
      unplanned = λ w e is empty. absurd (some_cell empty);
      one = writing.one;
      undo = λ e spans empty. absurd (some_cell empty);
      all = writing.all;
    })

    pub written_on : (serials_now : ℕ) (ids_now : List ℕ) → serials ≤ serials_now → ((k : ℕ) → slice_index ids k ≤ slice_index ids_now k)
        → PlanLeads manager (record seat { hand = with_plan plan (Some work) seat.hand }) settled (with_chain_in aimed class id chain)
        → AllPairs AreOfTwo chain
        → ((v : Version) (tx : TxId) → Contains chain v → v.stamp ≡ stamp.By tx → IsOpen before.seats tx)
        → ((v : Version) → Contains chain v → v.serial ≤ serials_now)
        → (chain ≢ [] → id ≤ slice_index ids_now class)
        → IsKept schema manager serials_now ids_now after settled (with_chain_in aimed class id chain)
    written_on serials_now ids_now more_serials more_ids leads once opens serial_drawn id_drawn =
        plan_kept schema manager serials serials_now ids ids_now before after c.slot seat (record seat { hand = with_plan plan (Some work) seat.hand }) settled aimed class id chain kept more_serials more_ids
        (hand_changes before after c seat (with_plan plan (Some work) seat.hand) lays.changes)
        (record {
          one_holder = laid.one_holder;
          open_one = t;
          opened = opened;
          writes = writer_open seat t opened writing.writer.0;
          latch = latch;
          within = within;
          ascending = ascending class within latch;
          lists = plan_lists schema manager before after c seat (with_plan plan (Some work) seat.hand) class id (chain_in aimed class id) chain lawful kept.one_holder kept.agrees.works lays within settled aimed kept.agrees refl;
          own_same = refl;
          undo_same = refl;
          settled_same = refl;
          unwritten = unwritten_if plan.pairs some_cell;
          leads = leads;
          drops = λ alone. and_right (not (length plan.pairs == 0)) false refl;
          rests = rests_now;
          once = once;
          open_ones = opens;
          serial_drawn = serial_drawn;
          id_drawn = id_drawn;
        })

  -- whose versions of a chain are open, and which serials were drawn, before the plan
  open_before : (class id : ℕ) (v : Version) (tx : TxId) → Contains (chain_in aimed class id) v → v.stamp ≡ stamp.By tx → IsOpen before.seats tx
  open_before class id = kept.stamped_aimed.open_ones class id

  drawn_before : (class id : ℕ) (v : Version) → Contains (chain_in aimed class id) v → v.serial ≤ serials
  drawn_before class id v there = kept.drawn_aimed.each_serial class v (record { id = id; within = there })

  in_aimed : (class : ℕ) → class < length schema.classes → class < length aimed
  in_aimed class within = let count = kept.agrees.rest.count in omega (arith, count, within)

  -- the plan of the operation: a version comes first in its object's chain
  pub put_kept : (serials_now : ℕ) (ids_now : List ℕ) (class id : ℕ) (plan : Record) (op : Op) (header : CellRef) (v : Version) → class < length schema.classes → class_named op ≡ class_named was.op → class_named was.op ≡ class
      → (object_named op).1 ≡ id
      → MakesLaid schema before after c seat (with_plan plan (Some (record { op = op; bytes = was.bytes; puts = Some header })) seat.hand) class id (chain_in aimed class id) (v ∷ all_but (tx_of seat t) (chain_in aimed class id))
      → v.header ≡ header.number → v.stamp ≡ stamp.By (tx_of seat t) → serials < v.serial → v.serial ≤ serials_now
      → ((k : ℕ) → slice_index ids k ≤ slice_index ids_now k) → id ≤ slice_index ids_now class
      → IsKept schema manager serials_now ids_now after settled (with_put aimed class id (tx_of seat t) v)
  put_kept serials_now ids_now class id plan op header v within same_class of_class of_id makes there by fresh drawn more_ids id_drawn =
      written_on class id (v ∷ all_but (tx_of seat t) (chain_in aimed class id)) plan (record { op = op; bytes = was.bytes; puts = Some header }) within same_class of_class
      (is_laid schema before after c seat (with_plan plan (Some (record { op = op; bytes = was.bytes; puts = Some header })) seat.hand) class id (chain_in aimed class id) (v ∷ all_but (tx_of seat t) (chain_in aimed class id)) makes
      (λ same. let old = drawn_before class id v (subst (λ (vs : List Version). Contains vs v) same (first_within v (all_but (tx_of seat t) (chain_in aimed class id)))) in absurd (omega (arith, old, fresh))))
      serials_now ids_now (omega (arith, fresh, drawn)) more_ids
      (put_leads manager seat (record seat { hand = with_plan plan (Some (record { op = op; bytes = was.bytes; puts = Some header })) seat.hand }) settled aimed class id (v ∷ all_but (tx_of seat t) (chain_in aimed class id)) t
      opened refl refl (in_aimed class within) (ascending class within (latch_here class of_class)) (owned_here (record seat { hand = with_plan plan (Some (record { op = op; bytes = was.bytes; puts = Some header })) seat.hand }) refl) same_here
      plan op was.bytes header v refl (same_class ∙ of_class) of_id there by refl)
      (once_put (tx_of seat t) v (chain_in aimed class id) by (kept.stamped_aimed.once class id))
      (λ w tx within_chain by_tx. elim (Contains-append_cases (v ∷ []) (all_but (tx_of seat t) (chain_in aimed class id)) w within_chain) [
        | inl first ↦
            let is : v ≡ w = only_one v w first in
            let txs : stamp.By tx ≡ stamp.By (tx_of seat t) = sym by_tx ∙ ap (λ (x : Version). x.stamp) (sym is) ∙ by in
            let same : tx ≡ tx_of seat t = cc in
            subst (λ (x : TxId). IsOpen before.seats x) (sym same) (own_open before.seats c seat t held opened)
        | inr rest ↦ open_before class id w tx (within_left (tx_of seat t) (chain_in aimed class id) w rest) by_tx
      ])
      (λ w within_chain. elim (Contains-append_cases (v ∷ []) (all_but (tx_of seat t) (chain_in aimed class id)) w within_chain) [
        | inl first ↦ let is : w.serial ≡ v.serial = sym (ap (λ (x : Version). x.serial) (only_one v w first)) in omega (arith, is, drawn)
        | inr rest ↦ let old = drawn_before class id w (within_left (tx_of seat t) (chain_in aimed class id) w rest) in omega (arith, old, fresh, drawn)
      ])
      (λ some. id_drawn)

  -- the plan of a garbage version's drop
  pub garbage_kept : (class id : ℕ) (plan : Record) (newer older : List Version) (v : Version) (commit : ℕ) → class < length schema.classes → class_named was.op ≡ class → was.puts ≡ None
      → chain_in aimed class id ≡ newer ++ v ∷ older → v.stamp ≡ stamp.Done commit
      → MakesLaid schema before after c seat (with_plan plan (Some was) seat.hand) class id (chain_in aimed class id) (newer ++ older)
      → IsKept schema manager serials ids after settled (with_chain_in aimed class id (newer ++ older))
  garbage_kept class id plan newer older v commit within of_class unput split done makes =
      written_on class id (newer ++ older) plan was within refl of_class
      (is_laid schema before after c seat (with_plan plan (Some was) seat.hand) class id (chain_in aimed class id) (newer ++ older) makes
      (λ same. longer_with newer v older (same ∙ split)))
      serials ids (omega arith) (λ k. omega arith)
      (garbage_leads manager seat (record seat { hand = with_plan plan (Some was) seat.hand }) settled aimed class id (newer ++ older) t
      opened refl refl (in_aimed class within) (ascending class within (latch_here class of_class)) (owned_here (record seat { hand = with_plan plan (Some was) seat.hand }) refl) same_here
      plan was.op was.bytes newer older v commit (λ i. with_plan plan (Some (record { op = was.op; bytes = was.bytes; puts = unput i })) seat.hand) (latch_here class of_class) done split refl)
      (once_without newer v older (subst (λ (vs : List Version). AllPairs AreOfTwo vs) split (kept.stamped_aimed.once class id)))
      (λ w tx within_chain by. open_before class id w tx (still_there w within_chain) by)
      (λ w within_chain. drawn_before class id w (still_there w within_chain))
      (λ some. kept.drawn_aimed.each_id class id (λ none. has_one newer v older (sym split ∙ none)))
    where
      still_there : (w : Version) → Contains (newer ++ older) w → Contains (chain_in aimed class id) w
      still_there w there = subst (λ (vs : List Version). Contains vs w) (sym split) (within_without newer v older w there)
