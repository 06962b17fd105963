-- The records of connections by slot, and what is read off them.
use Rattle.std.specs.Prelude.{◌≡◌, ◌≢◌, ◌≤◌, ◌-◌, ◌+◌, ◌^◌, ◌==◌, ◌&&◌, ℕ, Bool, true, false, List, map, position, slice_get, slice_set, Option, Some, None, IsSome, IsSomeAnd, is_none, option_and_then, find, bit_or, min, if◌then◌else◌}
use Rattle.std.specs.Option.{option_map, option_map_or}
use Rattle.std.specs.Int.{bit_at}
use Rattle.rdb_base.specs.declared.identity.ConnId.{ConnId}
use Rattle.rdb_base.specs.declared.identity.TxId.{TxId}
use Rattle.rdb_base.specs.declared.identity.Kind.{Kind}
use Rattle.rdb_base.specs.declared.identity.Kind.TheVariants as kind
use Rattle.rdb_registry.specs.declared.hand.Hand.{Hand}
use Rattle.rdb_registry.specs.declared.seat.Seat.{Seat}
use Rattle.rdb_registry.specs.declared.seat.Transaction.{Transaction}
use Rattle.rdb_registry.specs.declared.seat.Condemned.{Condemned}
use Rattle.rdb_registry.specs.declared.seat.Condemnation.{Condemnation}
use Rattle.rdb_registry.specs.Hands.{IsReady}

-- the records by slot: none where the slot is free
abbrev pub Seats : Type 0
Seats = List (Option Seat)

-- how many slots there are
abbrev pub slot_count : ℕ
slot_count = 32

-- the record in a slot, if the slot is held
abbrev pub seat_in : Seats → ℕ → Option Seat
seat_in seats slot = option_and_then (λ seat. seat) (slice_get seats slot)

-- the record, if it is that of a connection
abbrev pub if_conn : ConnId → Seat → Option Seat
if_conn c seat = if (seat.conn.slot == c.slot) && (seat.conn.serial == c.serial) then Some seat else None

-- the record of a connection, if it is held
abbrev pub seat_of : Seats → ConnId → Option Seat
seat_of seats c = option_and_then (if_conn c) (seat_in seats c.slot)

-- a connection is held
abbrev pub IsHeld : Seats → ConnId → Type 0
IsHeld seats c = IsSome (seat_of seats c)

-- a property of each record and its slot
abbrev pub EachSeat : (ℕ → Seat → Type 0) → Seats → Type 0
EachSeat P seats = (slot : ℕ) (seat : Seat) → seat_in seats slot ≡ Some seat → P slot seat

-- the records with that in one slot changed, and all others as they were
abbrev pub changed : Seats → ℕ → (Seat → Seat) → Seats
changed seats slot change = slice_set seats slot (option_map change (seat_in seats slot))

-- the records with another hand in one slot
abbrev pub with_hand : Seats → ℕ → Hand → Seats
with_hand seats slot hand = changed seats slot (λ seat. record seat { hand = hand })

-- no slot below this one is free, and this one is
abbrev pub IsLowestFree : Seats → ℕ → Type 0
IsLowestFree seats slot = position is_none seats ≡ Some slot

-- every slot is held
abbrev pub AllHeld : Seats → Type 0
AllHeld seats = position is_none seats ≡ None

-- A record as it is made: its connection has begun nothing, holds nothing and wasn't condemned, and has room for an undo record
-- and a plan.
pub record IsNew (c : ConnId) (seat : Seat) : Type 0 where
  pub conn : seat.conn ≡ c
  pub begun : seat.begun ≡ 0
  pub transaction : seat.transaction ≡ None
  pub latches : seat.latches ≡ 0
  pub condemned : seat.condemned ≡ None
  pub hand : IsReady seat.hand

-- the open transaction of a record, if there is a record and it has one
abbrev pub transaction_in : Option Seat → Option Transaction
transaction_in seat = option_and_then (λ s. s.transaction) seat

-- the kind and the snapshot of an open transaction
pub record Opening : Type 0 where
  pub kind : Kind
  pub snapshot : ℕ

abbrev pub opening_of : Transaction → Opening
opening_of t = record { kind = t.kind; snapshot = t.snapshot }

-- the kinds and snapshots of the open transactions, by slot
abbrev pub opening_in : Option Seat → Option Opening
opening_in seat = option_map opening_of (transaction_in seat)

abbrev pub openings : Seats → List (Option Opening)
openings seats = map opening_in seats

-- a transaction may write
abbrev pub may_write : Kind → Bool
may_write kind.ReadWrite = true
may_write kind.ReadOnly = false

-- a transaction is open that may write
abbrev pub is_writer : Option Opening → Bool
is_writer opening = option_map_or (λ o. may_write o.kind) opening false

-- no transaction is open
abbrev pub NoneOpen : List (Option Opening) → Type 0
NoneOpen opened = (slot : ℕ) (o : Opening) → slice_get opened slot ≢ Some (Some o)

-- some open transaction has this snapshot, and each has at least this one
pub record IsLeastSnapshot (opened : List (Option Opening)) (snapshot : ℕ) : Type 0 where
  pub one : (slot : ℕ) × ((o : Opening) × (slice_get opened slot ≡ Some (Some o)) × (o.snapshot ≡ snapshot))
  pub least : (slot : ℕ) (o : Opening) → slice_get opened slot ≡ Some (Some o) → snapshot ≤ o.snapshot

-- a record is there with an open transaction that isn't marked
abbrev pub HasUnmarked : Option Seat → Type 0
HasUnmarked seat = IsSomeAnd (transaction_in seat) (λ t. t.mark ≡ None)

-- the lesser of a snapshot, if there is one, and that of an opening, if there is one
abbrev pub lower : Option ℕ → Option Opening → Option ℕ
lower least None = least
lower None (Some o) = Some o.snapshot
lower (Some least) (Some o) = Some (min least o.snapshot)

-- the commit of a transaction's mark, if it is marked
abbrev pub mark_if : ℕ → Transaction → Option ℕ
mark_if number t = if t.number == number then t.mark else None

abbrev pub mark_of : Seats → TxId → Option ℕ
mark_of seats tx = option_and_then (mark_if tx.number) (transaction_in (seat_of seats tx.conn))

-- the transaction that begins as one of a number
abbrev pub beginning : ℕ → Kind → ℕ → ℕ → Transaction
beginning number kind begun snapshot = record { number = number; kind = kind; begun = begun; snapshot = snapshot; mark = None }

-- the record with a transaction that begins
abbrev pub with_begun : Kind → ℕ → ℕ → Seat → Seat
with_begun kind begun snapshot seat =
    record seat { begun = seat.begun + 1; transaction = Some (beginning (seat.begun + 1) kind begun snapshot) }

-- the transaction with its mark
abbrev pub marked : ℕ → Transaction → Transaction
marked commit t = record t { mark = Some commit }

-- the record with the mark of its open transaction
abbrev pub with_mark : ℕ → Seat → Seat
with_mark commit seat = record seat { transaction = option_map (marked commit) seat.transaction }

-- the record without an open transaction
abbrev pub without_transaction : Seat → Seat
without_transaction seat = record seat { transaction = None }

-- a connection holds the latch of a class
abbrev pub HoldsLatch : Seat → ℕ → Type 0
HoldsLatch seat class = bit_at seat.latches class ≡ 1

-- no connection in another slot holds the latch of a class
abbrev pub NoOtherHolds : Seats → ℕ → ℕ → Type 0
NoOtherHolds seats slot class = (other : ℕ) (seat : Seat) → other ≢ slot → seat_in seats other ≡ Some seat → bit_at seat.latches class ≡ 0

-- no connection holds the latch of a class
abbrev pub NoneHolds : Seats → ℕ → Type 0
NoneHolds seats class = (slot : ℕ) (seat : Seat) → seat_in seats slot ≡ Some seat → bit_at seat.latches class ≡ 0

-- a connection that is held has the latch of a class
abbrev pub IsHolder : Seats → ℕ → ConnId → Type 0
IsHolder seats class c = IsSomeAnd (seat_of seats c) (λ seat. HoldsLatch seat class)

-- the latches with that of a class besides
abbrev pub with_latch : ℕ → ℕ → ℕ
with_latch latches class = bit_or latches (2 ^ class)

-- the latches of so many classes, from the first on
abbrev pub all_latches : ℕ → ℕ
all_latches classes = 2 ^ classes - 1

-- the record with other latches
abbrev pub with_latches : ℕ → Seat → Seat
with_latches latches seat = record seat { latches = latches }

-- the record with the latch of a class besides
abbrev pub add_latch : ℕ → Seat → Seat
add_latch class seat = with_latches (with_latch seat.latches class) seat

-- the entry is of this connection
abbrev pub is_of : ConnId → Condemnation → Bool
is_of c entry = (entry.conn.slot == c.slot) && (entry.conn.serial == c.serial)

-- by whom a connection was condemned, and when, by the first entry of the list that is of it
abbrev pub condemned_in : List Condemnation → ConnId → Option Condemned
condemned_in list c = option_map (λ entry. entry.condemned) (find (is_of c) list)

-- the record as condemned
abbrev pub with_condemned : Condemned → Seat → Seat
with_condemned condemned seat = record seat { condemned = Some condemned }
