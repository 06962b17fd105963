-- What each step that touches a cell, or a record's plan, does to a World's state, and what it leaves of the two lists of versions.
use Rattle.std.specs.Prelude.{◌≡◌, ◌≢◌, ◌+◌, ◌-◌, ◌==◌, ◌&&◌, ◌∷◌, ◌++◌, ℕ, List, [], length, map, slice_get, drop, Bool, Option, Some, None, is_some, option_and_then, if◌then◌else◌}
use Rattle.rdb_base.specs.declared.identity.ConnId.{ConnId}
use Rattle.rdb_base.specs.declared.identity.Kind.TheVariants as kind
use Rattle.rdb_base.specs.declared.identity.Manager.{Manager}
use Rattle.rdb_base.specs.declared.identity.Phase.TheVariants as phase
use Rattle.rdb_base.specs.declared.identity.Stamp.TheVariants as stamp
use Rattle.rdb_base.specs.declared.identity.TxId.{TxId}
use Rattle.rdb_base.specs.declared.operation.Op.{Op}
use Rattle.rdb_base.specs.declared.operation.Op.TheVariants as op
use Rattle.rdb_base.specs.declared.operation.Reply.{Reply}
use Rattle.rdb_base.specs.declared.operation.Reply.TheVariants as reply
use Rattle.rdb_base.specs.Room.{Reserved}
use Rattle.rdb_pages.specs.declared.cell.CellRef.{CellRef}
use Rattle.rdb_registry.specs.declared.hand.Hand.{Hand}
use Rattle.rdb_registry.specs.declared.hand.Work.{Work}
use Rattle.rdb_registry.specs.declared.own_writes.OwnWrite.{OwnWrite}
use Rattle.rdb_registry.specs.declared.seat.Seat.{Seat}
use Rattle.rdb_registry.specs.declared.seat.Transaction.{Transaction}
use Rattle.rdb_registry.specs.OwnWrites.{header_of}
use Rattle.rdb_registry.specs.Registry.{Roll}
use Rattle.rdb_registry.specs.Seats.{Seats, seat_in, seat_of, changed, with_hand, with_latches}
use Rattle.rdb_sight.specs.Sight.{is_own}
use Rattle.rdb_sight.specs.Versions.{Version, Versions, chain_in, with_chain_in}
use Rattle.rdb_space.specs.Memory.{RegionCells, image_of, class_of}
use Rattle.rdb_writes.specs.Steps.{spans_one_plan}
use Rattle.rdb_steps.specs.declared.state.State.{State}
use Rattle.rdb_steps.specs.Kept.{tx_of}
use Rattle.rdb_steps.specs.Lists.{taken_over}
use Rattle.rdb_steps.specs.Planned.{object_named}
use Rattle.rdb_steps.specs.States.{Keeps}

-- whatever versions are settled and aimed at before, afterwards these are
abbrev pub KeepsAs : {P : Type 0} → State P → State P → (Versions → Versions → Versions) → (Versions → Versions → Versions) → Type 0
KeepsAs before after settled_now aimed_now = (settled aimed : Versions) → Keeps before settled aimed →
    Keeps after (settled_now settled aimed) (aimed_now settled aimed)

-- the record of a connection, if it is held
abbrev pub seat_at : {P : Type 0} → State P → ConnId → Option Seat
seat_at s c = seat_of s.transactions.registry.seats c

-- no cell but one is written, and no page changes its owner
pub record WritesOne (before after : RegionCells) : Type 0 where
  pub at : ℕ
  pub elsewhere : (n : ℕ) → n ≢ at → image_of after n ≡ image_of before n
  pub classes : (n : ℕ) → class_of after n ≡ class_of before n
  pub owners : after.owners ≡ before.owners

-- no record changes but that of a connection, nor what stands beside the records
pub record OnlySeat (before after : Roll) (c : ConnId) : Type 0 where
  pub others : (slot : ℕ) → slot ≢ c.slot → seat_in after.seats slot ≡ seat_in before.seats slot
  pub rest : after ≡ record before { seats = after.seats }

-- A connection's record changes, and maybe the memory: all other records, the journal and what is claimed of it, and the counters stay.
pub record OnlyRecord {P : Type 0} (before after : State P) (c : ConnId) : Type 0 where
  pub seats : OnlySeat before.transactions.registry after.transactions.registry c
  pub rest : after
      ≡ record before { memory = after.memory; transactions = record before.transactions { registry = after.transactions.registry } }

-- the next cell of its plan is the last one
abbrev pub is_at_last : Hand → Bool
is_at_last hand = length hand.plan.pairs == 1

-- what is settled once a connection has written the next cell of its plan: with the last one, where its undo record spans the plan, what
-- it aimed at
abbrev pub settled_by_writing : Manager → Option Seat → Versions → Versions → Versions
settled_by_writing manager None settled aimed = settled
settled_by_writing manager (Some seat) settled aimed =
    if is_at_last seat.hand && spans_one_plan manager then taken_over seat settled aimed else settled

-- what is aimed at once a connection has taken back: it is no longer spoken of
abbrev pub aimed_by_taking_back : Option Seat → Versions → Versions → Versions
aimed_by_taking_back None settled aimed = aimed
aimed_by_taking_back (Some seat) settled aimed = taken_over seat aimed settled

-- the reply to a write that is done
abbrev pub reply_to : Op → Reply
reply_to (op.New class row id) = reply.Made id
reply_to _ = reply.Done

-- the reply that a connection gets with the next cell of its plan: where this is its operation's own plan, and its last cell
abbrev pub reply_next : Hand → Option Reply
reply_next hand = if is_at_last hand then option_and_then (λ work. if is_some work.puts then Some (reply_to work.op) else None) hand.work
    else None

-- An operation ends whose version is written: it stands in the story with its reply, and its version among the own writes.
pub record Finishes (before after : Hand) (work : Work) (version : CellRef) : Type 0 where
  pub own_here : header_of after.own.items (object_named work.op) ≡ Some version
  pub own_others : (object : ℕ × ℕ) → object ≢ object_named work.op → header_of after.own.items object ≡ header_of before.own.items object
  pub own_room : after.own.room + length after.own.items ≡ before.own.room + length before.own.items
  pub rest : after ≡ record before {
    phase = phase.Running kind.ReadWrite;
    work = None;
    done = record { items = before.done.items ++ (work.op, reply_to work.op) ∷ []; room = before.done.room - 1 };
    own = after.own;
  }

-- the header of the version that the plan at hand puts
abbrev pub version_at : Hand → Option CellRef
version_at hand = option_and_then (λ work. work.puts) hand.work

-- the records, with the latches of that in one slot given up, where an undo record spans one plan
abbrev pub released : Manager → Seats → ℕ → Seats
released manager seats slot = if spans_one_plan manager then changed seats slot (with_latches 0) else seats

-- A connection's operation ends whose version is written: its latch is given up, where it had it for this plan.
pub record EndsWork (manager : Manager) (before after : Roll) (c : ConnId) (result : Reply) : Type 0 where
  pub seat : Seat
  pub work : Work
  pub version : CellRef
  pub hand : Hand
  pub held : seat_of before.seats c ≡ Some seat
  pub had : seat.hand.work ≡ Some work
  pub puts : work.puts ≡ Some version
  pub told : result ≡ reply_to work.op
  pub finishes : Finishes seat.hand hand work version
  pub records : after ≡ record before { seats = released manager (with_hand before.seats c.slot hand) c.slot }

-- the own writes without the first; its place becomes room
abbrev pub without_first : Reserved OwnWrite → Reserved OwnWrite
without_first own = record { items = drop 1 own.items; room = own.room + 1 }

-- the hand without its first own write
abbrev pub forgetting_first : Hand → Hand
forgetting_first hand = record hand { own = without_first hand.own }

-- The first own write of a connection is forgotten, and its latches are given up.
pub record ForgetsFirst (before after : Roll) (c : ConnId) : Type 0 where
  pub seat : Seat
  pub first : OwnWrite
  pub hand : Hand
  pub held : seat_of before.seats c ≡ Some seat
  pub there : slice_get seat.hand.own.items 0 ≡ Some first
  pub rest : hand ≡ record seat.hand { own = hand.own }
  pub left : hand.own ≡ without_first seat.hand.own
  pub gone : (object : ℕ × ℕ) → header_of hand.own.items object ≡ header_of (drop 1 seat.hand.own.items) object
  pub others : (object : ℕ × ℕ) → object ≢ (first.class, first.id) → header_of hand.own.items object ≡ header_of seat.hand.own.items object
  pub records : after ≡ record before { seats = changed (with_hand before.seats c.slot hand) c.slot (with_latches 0) }

-- the hand without own writes, where nothing is left to take back
abbrev pub forgetting_own : Hand → Hand
forgetting_own hand =
    if length hand.undo.pairs == 0 then record hand { own = record { items = []; room = hand.own.room + length hand.own.items } } else hand

-- a version, stamped as done by a commit where it is a transaction's
abbrev pub done_version : TxId → ℕ → Version → Version
done_version tx commit v = if is_own (Some tx) v.stamp then record v { stamp = stamp.Done commit } else v

-- a chain in which a transaction's version is stamped as done by a commit
abbrev pub done_by : TxId → ℕ → List Version → List Version
done_by tx commit chain = map (done_version tx commit) chain

-- the versions, where the first object that a record's transaction wrote is stamped with its mark
abbrev pub first_stamped : Option Seat → Versions → Versions → Versions
first_stamped None settled versions = versions
first_stamped (Some seat) settled versions = by_own seat.transaction (slice_get seat.hand.own.items 0) where
  stamped : Transaction → OwnWrite → Option ℕ → Versions
  stamped t own None = versions
  stamped t own (Some commit) = with_chain_in versions own.class own.id (done_by (tx_of seat t) commit (chain_in settled own.class own.id))

  by_own : Option Transaction → Option OwnWrite → Versions
  by_own (Some t) (Some own) = stamped t own t.mark
  by_own _ _ = versions
