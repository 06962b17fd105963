-- What a record's phase says of its latches, its plan and its undo record.
use Rattle.std.proofs.Common.{◌≡◌, ◌&&◌, ◌||◌, ◌==◌, ℕ, List, [], ◌∷◌, length, Bool, true, false, not, Option, Some, None, is_some, is_none, option_map, refl, sym, ap, ◌∙◌, arith, eqb-true, inl, inr}
use Rattle.std.proofs.lemmas.Bool.{false≢true}
use Rattle.std.proofs.lemmas.Nat.Bits.{bit_at-zero}
use Rattle.std.specs.Int.{bit_at}
use Rattle.rdb_base.specs.declared.identity.Kind.TheVariants as kind
use Rattle.rdb_base.specs.declared.identity.Manager.{Manager}
use Rattle.rdb_base.specs.declared.identity.Phase.{Phase}
use Rattle.rdb_base.specs.declared.identity.Phase.TheVariants as phase
use Rattle.rdb_cells.specs.declared.pairs.Pair.{Pair}
use Rattle.rdb_cells.proofs.SettledLemmas.{true_or_false}
use Rattle.rdb_registry.specs.declared.hand.Hand.{Hand}
use Rattle.rdb_registry.specs.declared.own_writes.OwnWrite.{OwnWrite}
use Rattle.rdb_registry.specs.declared.seat.Condemned.{Condemned}
use Rattle.rdb_registry.specs.declared.seat.Seat.{Seat}
use Rattle.rdb_registry.specs.declared.seat.Transaction.{Transaction}
use Rattle.rdb_registry.specs.OwnWrites.{header_of}
use Rattle.rdb_registry.specs.Seats.{HoldsLatch}
use Rattle.rdb_registry.proofs.SlotLemmas.{some_and_of}
use Rattle.rdb_sight.specs.Versions.{Versions, chain_in, own_version}
use Rattle.rdb_store.specs.Stored.{ref_of}
use Rattle.rdb_writes.specs.Steps.{spans_one_plan, is_written}
use Rattle.rdb_steps.specs.Invariant.{DropsNone}
use Rattle.rdb_steps.specs.Kept.{OwnAre, Owns, HasNoVersion, aims, is_marked, is_rolling_back, takes_back, tx_of}
use Rattle.rdb_steps.specs.Phases.{Rests, RestsIn, IsWriter}
use Rattle.rdb_steps.specs.Planned.{PlanIsGood}
use Rattle.rdb_steps.proofs.OwnVersions.{no_header}

-- a list without elements
pub no_pairs : (ps : List Pair) → (length ps == 0) ≡ true → ps ≡ []
no_pairs [] e = refl
no_pairs (p ∷ ps) e = absurd (let none = eqb-true (length (p ∷ ps)) 0 e in omega (arith, none))

pub plan_written : (hand : Hand) → hand.plan.pairs ≡ [] → is_written hand ≡ true
plan_written hand none = ap (λ (ps : List Pair). length ps == 0) none

pub no_latch : (seat : Seat) (class : ℕ) → seat.latches ≡ 0 → ¬ HoldsLatch seat class
no_latch seat class none held = let zero_bit : bit_at seat.latches class ≡ 0 = ap (λ (latches : ℕ). bit_at latches class) none ∙ bit_at-zero class in omega (arith, zero_bit, held)

-- without a plan there is nothing to lead anywhere
pub good_without_plan : (manager : Manager) (seat : Seat) (settled aimed : Versions) → seat.hand.plan.pairs ≡ [] → PlanIsGood manager seat settled aimed
good_without_plan manager seat settled aimed none speaks unwritten = absurd (false≢true (sym unwritten ∙ plan_written seat.hand none))

-- nor is anything dropped
pub drops_none : (manager : Manager) (seat : Seat) → seat.hand.plan.pairs ≡ [] → DropsNone manager seat
drops_none manager seat none single = ap (λ (b : Bool). not b && is_none seat.hand.work) (plan_written seat.hand none)

pub or_first : (a b : Bool) → a ≡ true → (a || b) ≡ true
or_first true b e = refl
or_first false b e = absurd (false≢true e)

pub or_second : (a b : Bool) → b ≡ true → (a || b) ≡ true
or_second true b e = refl
or_second false b e = e

-- a record has an open transaction that may write
pub record HasWriter (seat : Seat) : Type 0 where
  pub transaction : Transaction
  pub open_one : seat.transaction ≡ Some transaction
  pub writes : transaction.kind ≡ kind.ReadWrite

pub writer_of : (seat : Seat) (mark : Bool) → IsWriter seat mark → HasWriter seat
writer_of seat mark writer =
    let there = some_and_of (λ (t : Transaction). t.kind ≡ kind.ReadWrite) seat.transaction writer.0 in
    record { transaction = there.0; open_one = there.1.0; writes = there.1.1 }

module _ (manager : Manager) (classes : ℕ) (seat : Seat) where
  -- who holds a latch has one
  latched_in : (p : Phase) → RestsIn manager classes seat p → (class : ℕ) → HoldsLatch seat class → HasWriter seat
  latched_in phase.Idle r class held = absurd (no_latch seat class r.rest.latches held)
  latched_in (phase.Running kind.ReadOnly) r class held = absurd (no_latch seat class r.rest.latches held)
  latched_in (phase.Running kind.ReadWrite) r class held = writer_of seat false r.writer
  latched_in phase.Writing r class held = writer_of seat false r.writer
  latched_in phase.RollingBack r class held = writer_of seat false r.writer
  latched_in phase.Stamping r class held = writer_of seat true r.writer
  latched_in phase.Condemned r class held = absurd r
  latched_in phase.Absent r class held = absurd r

  pub latched_writer : Rests manager classes seat → (class : ℕ) → HoldsLatch seat class → HasWriter seat
  latched_writer rests class held = latched_in seat.hand.phase rests class held

  -- a record without an open transaction has no latch
  pub unlatched_without : Rests manager classes seat → seat.transaction ≡ None → (class : ℕ) → ¬ HoldsLatch seat class
  unlatched_without rests closed class held =
      let writer = latched_writer rests class held in
      let no : None ≡ Some writer.transaction = sym closed ∙ writer.open_one in
      cc

  -- under MVCC a live record without a plan has nothing to take back
  empty_in : (p : Phase) → RestsIn manager classes seat p → spans_one_plan manager ≡ true → seat.condemned ≡ None → seat.hand.plan.pairs ≡ [] → seat.hand.undo.pairs ≡ []
  empty_in phase.Idle r spans live none = r.rest.undo
  empty_in (phase.Running kind.ReadOnly) r spans live none = r.rest.undo
  empty_in (phase.Running kind.ReadWrite) r spans live none = r.undo live spans
  empty_in phase.Writing r spans live none = r.undo live spans none
  empty_in phase.RollingBack r spans live none =
      (r.free live spans (ap (λ (b : Bool). not b && is_none seat.hand.work) (plan_written seat.hand none))).undo
  empty_in phase.Stamping r spans live none = r.undo
  empty_in phase.Condemned r spans live none = absurd r
  empty_in phase.Absent r spans live none = absurd r

  pub empty_without_plan : Rests manager classes seat → spans_one_plan manager ≡ true → seat.condemned ≡ None → seat.hand.plan.pairs ≡ [] → seat.hand.undo.pairs ≡ []
  empty_without_plan rests spans live none = empty_in seat.hand.phase rests spans live none

-- who aims without a plan takes nothing back, and so is live
takes_none : (w n t : Bool) → w ≡ true → ((not w && n) || not t) ≡ true → t ≡ false
takes_none true n true is_w e = absurd (false≢true e)
takes_none true n false is_w e = refl
takes_none false n t is_w e = absurd (false≢true is_w)

live_if : (o : Option Condemned) (b : Bool) → (is_some o || b) ≡ false → o ≡ None
live_if None b e = refl
live_if (Some x) b e = absurd (false≢true (sym e))

pub live_aimer : (manager : Manager) (seat : Seat) → seat.hand.plan.pairs ≡ [] → aims manager seat ≡ true → seat.condemned ≡ None
live_aimer manager seat none speaks =
    live_if seat.condemned (is_rolling_back seat.hand.phase && not (spans_one_plan manager))
    (takes_none (is_written seat.hand) (is_none seat.hand.work) (takes_back manager seat) (plan_written seat.hand none) speaks)

-- a record that has written nothing, and no version is of its transaction
pub owns_nothing : (seat : Seat) (versions : Versions) → seat.hand.own.items ≡ [] → HasNoVersion seat versions → Owns seat versions
owns_nothing seat versions empty none t open_one class id =
    let nothing : header_of seat.hand.own.items (class, id) ≡ None = ap (λ (ws : List OwnWrite). header_of ws (class, id)) empty in
    nothing ∙ sym (ap (option_map ref_of) (none t open_one class id))

none_owned : (seat : Seat) (versions : Versions) → seat.hand.own.items ≡ [] → Owns seat versions → HasNoVersion seat versions
none_owned seat versions empty owns t open_one class id =
    let nothing : header_of seat.hand.own.items (class, id) ≡ None = ap (λ (ws : List OwnWrite). header_of ws (class, id)) empty in
    no_header (own_version (tx_of seat t) (chain_in versions class id)) (sym nothing ∙ owns t open_one class id)

-- of a record without own writes no version is settled
pub none_settled : (manager : Manager) (seat : Seat) (settled aimed : Versions) → OwnAre manager seat settled aimed → seat.hand.own.items ≡ [] → HasNoVersion seat settled
none_settled manager seat settled aimed own empty = elim (true_or_false (spans_one_plan manager)) [
  | inl spans ↦
      none_owned seat settled empty
      (own.are_settled (or_first (spans_one_plan manager) (is_marked seat || (takes_back manager seat && (length seat.hand.undo.pairs == 0))) spans))
  | inr single ↦ elim (true_or_false (is_marked seat)) [
    | inl marked ↦
        none_owned seat settled empty
        (own.are_settled
        (or_second (spans_one_plan manager) (is_marked seat || (takes_back manager seat && (length seat.hand.undo.pairs == 0)))
        (or_first (is_marked seat) (takes_back manager seat && (length seat.hand.undo.pairs == 0)) marked)))
    | inr unmarked ↦ own.none_settled single unmarked
  ]
]
