-- What the steps that make plans, and that take operations into work, do to a World's state.
use Rattle.std.specs.Prelude.{◌≡◌, ◌≢◌, ◌+◌, ◌<◌, ◌++◌, ℕ, List, [], length, slice_get, slice_index, slice_set, Option, Some, None, false, IsSomeAnd, option_map}
use Rattle.rdb_base.specs.declared.identity.ConnId.{ConnId}
use Rattle.rdb_base.specs.declared.identity.Manager.{Manager}
use Rattle.rdb_base.specs.declared.identity.Phase.TheVariants as phase
use Rattle.rdb_base.specs.declared.operation.Op.{Op}
use Rattle.rdb_base.specs.declared.operation.Op.TheVariants as op
use Rattle.rdb_base.specs.Operations.{class_of as class_named}
use Rattle.rdb_pages.specs.declared.cell.CellRef.{CellRef}
use Rattle.rdb_cells.specs.Records.{Record}
use Rattle.rdb_registry.specs.declared.hand.Hand.{Hand}
use Rattle.rdb_registry.specs.declared.hand.Work.{Work}
use Rattle.rdb_registry.specs.declared.own_writes.OwnWrite.{OwnWrite}
use Rattle.rdb_registry.specs.declared.seat.Seat.{Seat}
use Rattle.rdb_registry.specs.declared.seat.Transaction.{Transaction}
use Rattle.rdb_registry.specs.Registry.{Roll, spent_by, with_spent}
use Rattle.rdb_registry.specs.Seats.{seat_of, add_latch}
use Rattle.rdb_sight.specs.Versions.{Version, Versions, chain_in, with_chain_in}
use Rattle.rdb_transactions.specs.Records.{edited, on_hand}
use Rattle.rdb_transactions.specs.Sound.{Has}
use Rattle.rdb_steps.specs.declared.state.State.{State}
use Rattle.rdb_steps.specs.Debt.{debt}
use Rattle.rdb_steps.specs.Kept.{tx_of}
use Rattle.rdb_steps.specs.Making.{IsGarbageAt, with_id, with_put, without_own, version_put}
use Rattle.rdb_steps.specs.Phases.{IsWriter}
use Rattle.rdb_steps.specs.Planned.{id_named}
use Rattle.rdb_steps.specs.States.{Keeps}
use Rattle.rdb_steps.specs.Steps.{seat_at}

-- the state with another registry
abbrev pub with_registry : {P : Type 0} → State P → Roll → State P
with_registry s roll = record s { transactions = record s.transactions { registry = roll } }

-- the registry with another hand of a connection
abbrev pub with_hand_of : Roll → ConnId → (Hand → Hand) → Roll
with_hand_of roll c change = edited roll c.slot (on_hand change)

-- a connection that wasn't condemned has an operation in work, on this class, and no plan
pub record IsDue (class : ℕ) (seat : Seat) : Type 0 where
  pub live : seat.condemned ≡ None
  pub phase : seat.hand.phase ≡ phase.Writing
  pub plan : seat.hand.plan.pairs ≡ []
  pub work : IsSomeAnd seat.hand.work (λ work. class_named work.op ≡ class)

-- A writer that isn't marked has written objects, and has nothing else in hand: it rolls back, or was condemned.
pub record IsToDrop (seat : Seat) : Type 0 where
  pub rolls : seat.condemned ≡ None → seat.hand.phase ≡ phase.RollingBack
  pub writer : IsWriter seat false
  pub work : seat.hand.work ≡ None
  pub plan : seat.hand.plan.pairs ≡ []
  pub undo : seat.hand.undo.pairs ≡ []
  pub latches : seat.latches ≡ 0
  pub own : 0 < length seat.hand.own.items

-- of the first object that a connection's open transaction wrote, this is so
abbrev pub FirstWrite : {P : Type 0} → State P → ConnId → (Seat → OwnWrite → Type 0) → Type 0
FirstWrite s c P = Has s.transactions c (λ seat. IsSomeAnd (slice_get seat.hand.own.items 0) (P seat))

-- the hand with a plan
abbrev pub planning : Record → Hand → Hand
planning plan hand = record hand { plan = plan }

-- A plan that has a cell is laid in a connection's hand, and nothing else changes.
pub record LaysIn {P : Type 0} (before after : State P) (c : ConnId) : Type 0 where
  pub made : Record
  pub some : made.pairs ≢ []
  pub is : after ≡ with_registry before (with_hand_of before.transactions.registry c (planning made))

-- a version of a class with this header is garbage, among those that are aimed at
abbrev pub IsToGo : {P : Type 0} → State P → ℕ → ℕ → Type 0
IsToGo s class header =
    (settled : Versions) × (aimed : Versions) × Keeps s settled aimed
    × (floor : Option ℕ) × (id : ℕ) × (newer : List Version) × (older : List Version) × IsGarbageAt floor aimed class id header newer older

-- whatever versions are settled and aimed at before: the garbage version with this header is aimed at no more, and the settled ones stay
abbrev pub KeepsWithout : {P : Type 0} → State P → State P → ℕ → ℕ → Type 0
KeepsWithout before after class header =
    (settled aimed : Versions) (floor : Option ℕ) (id : ℕ) (newer older : List Version) → Keeps before settled aimed
    → IsGarbageAt floor aimed class id header newer older → Keeps after settled (with_chain_in aimed class id (newer ++ older))

-- how many steps are left of a record's work falls as its class has a version less, however many that leaves it, and whatever pages
-- without an owner there are
abbrev pub FallsWithVersion : Manager → Seat → Seat → Type 0
FallsWithVersion manager seat now = (versions pages : ℕ) → debt manager now versions pages < debt manager seat (versions + 1) pages

-- so it is of the record of a connection
abbrev pub ComesNearerWithVersion : {P : Type 0} → State P → State P → ConnId → Type 0
ComesNearerWithVersion before after c =
    (seat now : Seat) → seat_at before c ≡ Some seat → seat_at after c ≡ Some now → FallsWithVersion before.transactions.manager seat now

-- A connection has the latch of a class, too, and a plan that has a cell is laid in its hand; nothing else changes.
pub record LaysLatched {P : Type 0} (before after : State P) (c : ConnId) (class : ℕ) : Type 0 where
  pub made : Record
  pub some : made.pairs ≢ []
  pub is : after ≡ with_registry before (with_hand_of (edited before.transactions.registry c.slot (add_latch class)) c (planning made))

-- whatever versions are settled and aimed at before: the version that a connection's open transaction wrote of the first of its objects is
-- aimed at no more, and the settled ones stay
abbrev pub KeepsWithoutFirst : {P : Type 0} → State P → State P → ConnId → Type 0
KeepsWithoutFirst before after c =
    (settled aimed : Versions) → Keeps before settled aimed → FirstWrite before c (λ seat own. (t : Transaction) → seat.transaction ≡ Some t
    → Keeps after settled (without_own aimed own.class own.id (tx_of seat t)))

-- the id of the object that an operation writes: the next one of its class where it makes an object
abbrev pub id_to_write : List ℕ → Op → ℕ
id_to_write ids (op.New class row made) = slice_index ids class + 1
id_to_write ids other = id_named other

-- the ids that are drawn of each class once an operation's plan is made
abbrev pub ids_after : List ℕ → Op → List ℕ
ids_after ids (op.New class row made) = slice_set ids class (slice_index ids class + 1)
ids_after ids _ = ids

-- an operation in work, once its plan is made that puts a version: it has the id of its object, and the version's header
abbrev pub put_by : ℕ → CellRef → Work → Work
put_by id header work = record work { op = with_id work.op id; puts = Some header }

-- the hand with the own plan of its operation in work
abbrev pub putting : Record → ℕ → CellRef → Hand → Hand
putting plan id header hand = record hand { plan = plan; work = option_map (put_by id header) hand.work }

-- the registry as a slot has spent a claim in a class
abbrev pub spending : Roll → ℕ → ℕ → ℕ → Roll
spending roll slot class need = record roll { spent = with_spent roll.spent slot class (spent_by roll.spent slot class + need) }

-- The own plan of a connection's operation in work is made, which puts a version: a serial is drawn, and an id where the operation makes an
-- object; the claim is spent; and the plan, which has a cell, is laid in the connection's hand. Nothing else changes.
pub record MakesOwnPlan {P : Type 0} (before after : State P) (c : ConnId) (op : Op) (class need : ℕ) (header : CellRef) : Type 0 where
  pub made : Record
  pub some : made.pairs ≢ []
  pub transactions :
      after.transactions
      ≡ record before.transactions {
        registry = with_hand_of (spending before.transactions.registry c.slot class need) c
            (putting made (id_to_write before.counters.ids.items op) header);
      }
  pub serials : after.counters.serials ≡ before.counters.serials + 1
  pub ids : after.counters.ids.items ≡ ids_after before.counters.ids.items op
  pub schema : after.schema ≡ before.schema
  pub memory : after.memory ≡ before.memory
  pub store : after.store ≡ before.store

-- the object that an operation puts or deletes has a version
abbrev pub HasObject : Versions → Op → Type 0
HasObject versions (op.Put class id row) = chain_in versions class id ≢ []
HasObject versions (op.Del class id) = chain_in versions class id ≢ []
HasObject versions _ = Unit {0}

-- of the operation that a connection has in work, this is so
abbrev pub WorksAt : {P : Type 0} → State P → ConnId → (Seat → Work → Type 0) → Type 0
WorksAt s c P = Has s.transactions c (λ seat. IsSomeAnd seat.hand.work (P seat))

-- the versions aimed at, once a connection's operation has its own plan, which puts a version at this header: it comes first in its
-- object's chain, and the one that the transaction had there goes
abbrev pub aimed_at_put : {P : Type 0} → State P → Seat → Transaction → Op → CellRef → Versions → Versions
aimed_at_put s seat t op header aimed = with_put aimed (class_named op) (id_to_write s.counters.ids.items op) (tx_of seat t)
    (version_put header.number (s.counters.serials + 1) (tx_of seat t) (with_id op (id_to_write s.counters.ids.items op)))

-- whatever versions are settled and aimed at before: an operation's version comes first in its object's chain, where the object that it
-- puts or deletes has one, and the settled ones stay
abbrev pub KeepsWithPut : {P : Type 0} → State P → State P → ConnId → CellRef → Type 0
KeepsWithPut before after c header =
    (settled aimed : Versions) → Keeps before settled aimed → WorksAt before c (λ seat work. HasObject aimed work.op
    → (t : Transaction) → seat.transaction ≡ Some t → Keeps after settled (aimed_at_put before seat t work.op header aimed))
