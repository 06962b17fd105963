-- What is so of a World's state, and what is left to do, as a condemned connection's record is repaired.
use Rattle.std.proofs.Common.{◌≡◌, ◌≤◌, ◌+◌, ℕ, [], length, cond, true, false, None, Option, Some, IsSome, IsSomeAnd, is_some, refl, sym, ap, subst, ◌∙◌, arith, inl, inr}
use Rattle.rdb_base.specs.declared.identity.ConnId.{ConnId}
use Rattle.rdb_base.specs.declared.identity.Manager.{Manager}
use Rattle.rdb_base.specs.declared.identity.Phase.{Phase}
use Rattle.rdb_base.specs.declared.identity.Phase.TheVariants as phase
use Rattle.rdb_cells.specs.Records.{Record}
use Rattle.rdb_cells.proofs.SettledLemmas.{true_or_false}
use Rattle.rdb_registry.specs.declared.hand.Hand.{Hand}
use Rattle.rdb_registry.specs.declared.hand.Work.{Work}
use Rattle.rdb_registry.specs.declared.seat.Seat.{Seat}
use Rattle.rdb_registry.specs.Registry.{Roll, IsRoll}
use Rattle.rdb_registry.specs.Seats.{Seats, changed, seat_of, with_latches}
use Rattle.rdb_space.specs.Memory.{RegionCells}
use Rattle.rdb_transactions.specs.declared.transactions.Transactions.{Transactions}
use Rattle.rdb_transactions.specs.Hands.{given_up}
use Rattle.rdb_transactions.specs.Phases.{IsInPhase, IsStamping}
use Rattle.rdb_transactions.specs.Records.{edited, on_hand}
use Rattle.rdb_transactions.specs.Sound.{IsOrderly}
use Rattle.rdb_transactions.proofs.EditLemmas.{has_from, has_seat, of_held, record_after, same_seat, seat_edited}
use Rattle.rdb_transactions.proofs.SoundLemmas.{claimed_by_seat, orderly_of}
use Rattle.rdb_writes.specs.Grounds.{AreWorks}
use Rattle.rdb_writes.specs.Steps.{TakesNewestBack}
use Rattle.rdb_writes.proofs.WorkLemmas.{in_its_slot}
use Rattle.rdb_steps.specs.declared.state.State.{State}
use Rattle.rdb_steps.specs.Invariant.{IsKept}
use Rattle.rdb_steps.specs.Kept.{is_dropping, is_marked}
use Rattle.rdb_steps.specs.Lists.{the_settled}
use Rattle.rdb_steps.specs.Repairs.{HoldsUnfinished, Repairs, TakesBackNewest, in_work, left, repaired, set_free}
use Rattle.rdb_steps.specs.States.{IsWhole, ground_in}
use Rattle.rdb_steps.specs.Steps.{KeepsAs, WritesOne, aimed_by_taking_back}
use Rattle.rdb_steps.specs.Written.{FallsDebt}
use Rattle.rdb_steps.proofs.DebtFalls.{left_latches, left_own, release_falls, repair_falls, repaired_is}
use Rattle.rdb_steps.proofs.FreeLemmas.{record_freed, state_freed}
use Rattle.rdb_steps.proofs.RepairLemmas.{kept_repaired, one_longer, registry_is}
use Rattle.rdb_steps.proofs.RepairWhole.{whole_repaired}
use Rattle.rdb_steps.proofs.StateStamps.{marked_stamps}
use Rattle.rdb_steps.proofs.WholeLemmas.{classes_stay}

module _ {P : Type 0} (s : State P) (t : Transactions) (c : ConnId) (whole : IsWhole s) (condemned_one : IsSomeAnd (seat_of s.transactions.registry.seats c) (λ seat. IsSome seat.condemned))
    (logged_one : IsSomeAnd (seat_of s.transactions.registry.seats c) (λ seat. seat.hand.undo.pairs ≡ []))
    (frees : IsSomeAnd (seat_of s.transactions.registry.seats c) (λ seat. Repairs s.transactions t c seat set_free)) where
  found : (seat : Seat) × ((seat_of s.transactions.registry.seats c ≡ Some seat) × Repairs s.transactions t c seat set_free)
  found = of_held s.transactions.registry.seats c (λ seat. Repairs s.transactions t c seat set_free) frees

  of_found : (Q : Seat → Type 0) → IsSomeAnd (seat_of s.transactions.registry.seats c) Q → Q found.0
  of_found Q h = subst (λ (o : Option Seat). IsSomeAnd o Q) found.1.0 h

  orderly : IsOrderly (length s.transactions.journal.entries) found.0
  orderly = orderly_of [] s.transactions c found.0 whole.sound found.1.0

  condemned : IsSome found.0.condemned
  condemned = of_found (λ seat. IsSome seat.condemned) condemned_one

  -- what is so of a state stays so as a record is released
  pub whole_freed : IsWhole (record s { transactions = t })
  whole_freed =
      whole_repaired s s.memory t c found.0 set_free whole refl whole.cells found.1.1 condemned 0 found.0.hand.undo (record found.0.hand.plan { pairs = [] }) found.0.hand.own refl refl refl refl (λ none. (refl, refl, refl)) orderly
      (whole.furnished c.slot found.0 (in_its_slot s.transactions.registry.seats c found.0 found.1.0))

  -- a marked one has no plan
  idle : is_marked found.0 ≡ true → found.0.hand.plan.pairs ≡ []
  idle marked = (let q : IsStamping found.0 = subst (λ (p : Phase). IsInPhase p found.0) (marked_stamps found.0 found.0.hand.phase orderly.phase marked) orderly.phase in q.plan)

  there : seat_of t.registry.seats c ≡ Some (set_free found.0)
  there = seat_edited s.transactions.registry t.registry c set_free found.0 (λ x. refl) found.1.1.registry found.1.0

  -- and less is left to do
  pub nearer_freed : IsSomeAnd (seat_of s.transactions.registry.seats c) HoldsUnfinished → (a b : Seat) → seat_of s.transactions.registry.seats c ≡ Some a → seat_of t.registry.seats c ≡ Some b → FallsDebt s.transactions.manager a b
  nearer_freed holds a b at_a at_b =
      subst (λ (x : Seat). FallsDebt s.transactions.manager x b) (same_seat s.transactions.registry.seats c found.0 a found.1.0 at_a)
      (subst (λ (x : Seat). FallsDebt s.transactions.manager found.0 x) (same_seat t.registry.seats c (set_free found.0) b there at_b)
      (release_falls s.transactions.manager found.0 condemned (of_found (λ seat. seat.hand.undo.pairs ≡ []) logged_one) idle (of_found HoldsUnfinished holds)))

-- so it is where the latches are given up last
module _ {P : Type 0} (s : State P) (t : Transactions) (last : Roll) (c : ConnId) (whole : IsWhole s) (roll : IsRoll s.transactions.registry)
    (condemned_one : IsSomeAnd (seat_of s.transactions.registry.seats c) (λ seat. IsSome seat.condemned)) (logged_one : IsSomeAnd (seat_of s.transactions.registry.seats c) (λ seat. seat.hand.undo.pairs ≡ []))
    (gives : IsSomeAnd (seat_of s.transactions.registry.seats c) (λ seat. Repairs s.transactions t c seat (on_hand given_up))) (leaves : last ≡ record t.registry { seats = changed t.registry.seats c.slot (with_latches 0) }) where
  pub becomes_free : IsSomeAnd (seat_of s.transactions.registry.seats c) (λ seat. Repairs s.transactions (record t { registry = last }) c seat set_free)
  becomes_free =
      subst (λ (r : Roll). IsSomeAnd (seat_of s.transactions.registry.seats c) (λ seat. Repairs s.transactions (record t { registry = r }) c seat set_free)) (sym leaves) (record_freed s.transactions t c gives)

  pub keeps_free : KeepsAs s (record s { transactions = record t { registry = last } }) the_settled (aimed_by_taking_back (seat_of s.transactions.registry.seats c))
  keeps_free settled aimed kept =
      subst (λ (r : Roll). IsKept s.schema t.manager s.counters.serials s.counters.ids.items (ground_in s.memory r) settled (aimed_by_taking_back (seat_of s.transactions.registry.seats c) settled aimed)) (sym leaves)
      (state_freed s.transactions t c gives s.schema s.counters.serials s.counters.ids.items s.memory whole.lawful roll condemned_one logged_one settled aimed kept)

-- the place of the write in work is claimed
pub work_claimed : {P : Type 0} (s : State P) (c : ConnId) → IsWhole s → (seat : Seat) → seat_of s.transactions.registry.seats c ≡ Some seat → in_work seat ≤ s.transactions.claims.writes
work_claimed s c whole seat held = let claimed = (claimed_by_seat [] s.transactions c seat whole.sound held).writes in omega (arith, claimed)

pub freed_claimed : {P : Type 0} (s : State P) (c : ConnId) (Q : Seat → Type 0) → IsWhole s → IsSomeAnd (seat_of s.transactions.registry.seats c) Q →
    IsSomeAnd (seat_of s.transactions.registry.seats c) (λ seat. in_work seat ≤ s.transactions.claims.writes)
freed_claimed s c Q whole holds =
    let found = of_held s.transactions.registry.seats c Q holds in
    has_from s.transactions.registry.seats c (λ seat. in_work seat ≤ s.transactions.claims.writes) found.0 found.1.0 (work_claimed s c whole found.0 found.1.0)

module _ {P : Type 0} (s : State P) (memory_now : RegionCells) (mid : Roll) (c : ConnId) (whole : IsWhole s) (roll : IsRoll s.transactions.registry) (b : TakesNewestBack (ground_in s.memory s.transactions.registry) (ground_in memory_now mid) c)
    (works : AreWorks (ground_in memory_now mid)) (condemned_one : IsSomeAnd (seat_of s.transactions.registry.seats c) (λ seat. IsSome seat.condemned)) where
  condemned_back : IsSome b.seat.condemned
  condemned_back = subst (λ (o : Option Seat). IsSomeAnd o (λ seat. IsSome seat.condemned)) b.works.held condemned_one

  seat_mid : seat_of mid.seats c ≡ Some (record b.seat { hand = b.hand })
  seat_mid = ap (λ (seats : Seats). seat_of seats c) b.works.records ∙ record_after s.transactions.registry.seats c (λ (x : Seat). record x { hand = b.hand }) b.seat (λ x. refl) b.works.held

  same_work : b.hand.work ≡ b.seat.hand.work
  same_work = ap (λ (x : Hand). x.work) b.works.rest

  -- what the giving up asks
  pub back_claimed : IsSomeAnd (seat_of mid.seats c) (λ seat. in_work seat ≤ s.transactions.claims.writes)
  back_claimed =
      has_from mid.seats c (λ seat. in_work seat ≤ s.transactions.claims.writes) (record b.seat { hand = b.hand }) seat_mid
      (subst (λ (w : Option Work). cond (is_some w) 1 0 ≤ s.transactions.claims.writes) (sym same_work) (work_claimed s c whole b.seat b.works.held))

  pub back_one : memory_now.owners ≡ s.memory.owners → WritesOne s.memory memory_now
  back_one owners = record { at = b.newest.at.number; elsewhere = λ n ne. b.written.elsewhere n ne; classes = λ n. b.works.classes n; owners = owners }

  less_one : length b.hand.undo.pairs + 1 ≡ length b.seat.hand.undo.pairs
  less_one = one_longer b.seat.hand.undo b.hand.undo b.newest b.shorter

  some_logged : b.seat.hand.undo.pairs ≡ [] → ⊥
  some_logged none = let fewer = less_one in let no : length b.seat.hand.undo.pairs ≡ 0 = ap length none in omega (arith, fewer, no)

  orderly_back : IsOrderly (length s.transactions.journal.entries) b.seat
  orderly_back = orderly_of [] s.transactions c b.seat whole.sound b.works.held

  unmarked : is_marked b.seat ≡ false
  unmarked = elim (true_or_false (is_marked b.seat)) [
    | inl marked ↦ absurd (let q : IsStamping b.seat = subst (λ (p : Phase). IsInPhase p b.seat) (marked_stamps b.seat b.seat.hand.phase orderly_back.phase marked) orderly_back.phase in some_logged q.undo)
    | inr not_marked ↦ not_marked
  ]

  module _ (t : Transactions) (last : Roll) (alone : mid ≡ record s.transactions.registry { seats = mid.seats })
      (gives : IsSomeAnd (seat_of mid.seats c) (λ seat. Repairs (record s.transactions { registry = mid }) t c seat (on_hand given_up))) (leaves : last ≡ edited t.registry c.slot (left s.transactions.manager)) where
    given : Repairs (record s.transactions { registry = mid }) t c (record b.seat { hand = b.hand }) (on_hand given_up)
    given = has_seat mid.seats c (λ seat. Repairs (record s.transactions { registry = mid }) t c seat (on_hand given_up)) (record b.seat { hand = b.hand }) gives seat_mid

    last_is : last ≡ edited s.transactions.registry c.slot (repaired s.transactions.manager b.hand.undo)
    last_is = registry_is s.schema s.transactions.manager s.memory memory_now s.transactions.registry mid c whole.lawful roll b works condemned_back t.registry last alone given.registry leaves

    repairs : Repairs s.transactions (record t { registry = last }) c b.seat (repaired s.transactions.manager b.hand.undo)
    repairs = record {
      held = b.works.held;
      registry = last_is;
      writes = ap (λ (w : Option Work). t.claims.writes + cond (is_some w) 1 0) (sym same_work) ∙ given.writes;
      rest = ap (λ (x : Transactions). record x { registry = last }) given.rest;
    }

    pub becomes_repaired : TakesBackNewest s.transactions.manager s.memory memory_now s.transactions (record t { registry = last }) c
    becomes_repaired = record { seat = b.seat; newest = b.newest; undo = b.hand.undo; shorter = b.shorter; cell = b.written; repairs = repairs }

    pub keeps_repaired : KeepsAs s (record s { memory = memory_now; transactions = record t { registry = last } }) the_settled (aimed_by_taking_back (seat_of s.transactions.registry.seats c))
    keeps_repaired settled aimed kept =
        subst (λ (m : Manager). IsKept s.schema m s.counters.serials s.counters.ids.items (ground_in memory_now last) settled (aimed_by_taking_back (seat_of s.transactions.registry.seats c) settled aimed))
        (sym (ap (λ (x : Transactions). x.manager) given.rest))
        (subst (λ (r : Roll). IsKept s.schema s.transactions.manager s.counters.serials s.counters.ids.items (ground_in memory_now r) settled (aimed_by_taking_back (seat_of s.transactions.registry.seats c) settled aimed)) (sym last_is)
        (kept_repaired s.schema s.transactions.manager s.memory memory_now s.transactions.registry mid c whole.lawful roll b works condemned_back s.counters.serials s.counters.ids.items settled aimed kept))

    pub whole_back : memory_now.owners ≡ s.memory.owners → IsWhole (record s { memory = memory_now; transactions = record t { registry = last } })
    whole_back owners =
        whole_repaired s memory_now (record t { registry = last }) c b.seat (repaired s.transactions.manager b.hand.undo) whole (ap length owners) (classes_stay s.schema s.memory memory_now whole.cells (back_one owners)) repairs condemned_back
        (left_latches s.transactions.manager b.seat b.hand.undo) b.hand.undo (record b.seat.hand.plan { pairs = [] }) (left_own s.transactions.manager b.seat b.hand.undo) (repaired_is s.transactions.manager b.seat b.hand.undo)
        (sym (ap (λ (r : Record). r.room) b.shorter)) refl refl (λ none. absurd (some_logged none)) orderly_back
        (whole.furnished c.slot b.seat (in_its_slot s.transactions.registry.seats c b.seat b.works.held))

    there_back : seat_of last.seats c ≡ Some (repaired s.transactions.manager b.hand.undo b.seat)
    there_back = seat_edited s.transactions.registry last c (repaired s.transactions.manager b.hand.undo) b.seat (λ x. refl) last_is b.works.held

    pub nearer_back : IsSomeAnd (seat_of s.transactions.registry.seats c) (λ seat. is_dropping seat.hand ≡ false) → (x y : Seat) → seat_of s.transactions.registry.seats c ≡ Some x → seat_of last.seats c ≡ Some y → FallsDebt s.transactions.manager x y
    nearer_back quiet x y at_x at_y =
        subst (λ (z : Seat). FallsDebt s.transactions.manager z y) (same_seat s.transactions.registry.seats c b.seat x b.works.held at_x)
        (subst (λ (z : Seat). FallsDebt s.transactions.manager b.seat z) (same_seat last.seats c (repaired s.transactions.manager b.hand.undo b.seat) y there_back at_y)
        (repair_falls s.transactions.manager b.seat b.hand.undo condemned_back unmarked (has_seat s.transactions.registry.seats c (λ seat. is_dropping seat.hand ≡ false) b.seat quiet b.works.held) less_one))
