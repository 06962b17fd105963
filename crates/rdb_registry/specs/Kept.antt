-- What a registry keeps: its slots, and the numbers beside them.
use Rattle.std.specs.Prelude.{◌≡◌, ◌≤◌, ℕ, Bool, false, List, length, map, position, count_by, slice_get, Option, Some, None, MatchOption, is_some, is_none, if◌then◌else◌}
use Rattle.std.specs.Option.{option_map_or}
use Rattle.rdb_base.specs.Room.{Reserved}
use Rattle.rdb_registry.specs.declared.seat.Seat.{Seat}
use Rattle.rdb_registry.specs.declared.seat.Slot.{Slot}
use Rattle.rdb_registry.specs.declared.seat.Condemnation.{Condemnation}
use Rattle.rdb_registry.specs.declared.transactions.Openings.{Openings}
use Rattle.rdb_registry.specs.Seats.{Seats, slot_count, EachSeat, Opening, openings, is_writer, NoneOpen, IsLeastSnapshot, HoldsLatch, condemned_in}
use Rattle.rdb_registry.specs.Registry.{max_classes}

-- the record of a slot, if it is held
abbrev pub record_of : Slot → Option Seat
record_of slot = if slot.is_held then Some slot.seat else None

abbrev pub seats_of : List Slot → Seats
seats_of all = map record_of all

-- the kept numbers are those of the open transactions
pub record AreOpenings (opened : List (Option Opening)) (kept : Openings) : Type 0 where
  pub lowest : kept.lowest ≡ position is_some opened
  pub writer : kept.writer ≡ position is_writer opened
  pub least : MatchOption kept.least (NoneOpen opened) (IsLeastSnapshot opened)

-- a connection is there that may yet be condemned
abbrev pub is_live : Option Seat → Bool
is_live seat = option_map_or (λ s. is_none s.condemned) seat false

-- what is kept of the record in a slot: whoever holds a latch took it last
pub record IsSlot (takers : List ℕ) (list : List Condemnation) (serials slot : ℕ) (seat : Seat) : Type 0 where
  pub place : seat.conn.slot ≡ slot
  pub serial : seat.conn.serial ≤ serials
  pub condemned : seat.condemned ≡ condemned_in list seat.conn
  pub latches : (class : ℕ) → HoldsLatch seat class → slice_get takers class ≡ Some slot

-- The slots and what stands beside them agree, and there is room to condemn each connection that wasn't.
pub record IsKept
    (all : List Slot) (takers : List ℕ) (kept : Openings) (condemned : Reserved Condemnation) (table : List (List ℕ)) (serials : ℕ)
    : Type 0 where
  pub count : length all ≡ slot_count
  pub classes : length takers ≤ max_classes
  pub seated : EachSeat (IsSlot takers condemned.items serials) (seats_of all)
  pub openings : AreOpenings (openings (seats_of all)) kept
  pub room : count_by is_live (seats_of all) ≤ condemned.room
  pub drawn : (place : ℕ) (entry : Condemnation) → slice_get condemned.items place ≡ Some entry → entry.conn.serial ≤ serials
  pub spent : length table ≡ slot_count
  pub rows : (slot : ℕ) (row : List ℕ) → slice_get table slot ≡ Some row → length row ≡ length takers
