-- What is kept of all connections.
use Rattle.std.specs.Prelude.{◌≡◌, ◌<◌, ◌≤◌, ◌+◌, ℕ, List, length, slice_get, slice_set, slice_index, slice_index_or, [], Some}
use Rattle.rdb_base.specs.declared.identity.ConnId.{ConnId}
use Rattle.rdb_registry.specs.declared.seat.Seat.{Seat}
use Rattle.rdb_registry.specs.declared.seat.Condemnation.{Condemnation}
use Rattle.rdb_registry.specs.Seats.{Seats, slot_count, seat_in, EachSeat, IsNew, IsLowestFree, HoldsLatch, condemned_in}

-- the most classes of a region
abbrev pub max_classes : ℕ
max_classes = 64

-- How many classes there are, the record of each slot, the list of the condemned, what each slot spent in each class,
-- and how many serials were drawn.
pub record Roll : Type 0 where
  pub classes : ℕ
  pub seats : Seats
  pub condemned : List Condemnation
  pub spent : List (List ℕ)
  pub serials : ℕ

-- what a slot spent in a class
abbrev pub spent_by : List (List ℕ) → ℕ → ℕ → ℕ
spent_by spent slot class = slice_index (slice_index_or spent slot []) class

-- the same with another sum
abbrev pub with_spent : List (List ℕ) → ℕ → ℕ → ℕ → List (List ℕ)
with_spent spent slot class sum = slice_set spent slot (slice_set (slice_index_or spent slot []) class sum)

-- The lowest free slot is held by a connection with the next serial, whose record is new. All else is as before.
pub record Connects (before after : Roll) (c : ConnId) : Type 0 where
  pub slot : IsLowestFree before.seats c.slot
  pub serial : c.serial ≡ before.serials + 1
  pub seat :
      (seat : Seat) × IsNew c seat
      × (after ≡ record before { seats = slice_set before.seats c.slot (Some seat); serials = before.serials + 1 })

-- What is so of the record in a slot: it names that slot, its serial was drawn, the list says by whom it was condemned, if it was, and
-- its latches are of classes that there are.
pub record IsSeated (roll : Roll) (slot : ℕ) (seat : Seat) : Type 0 where
  pub place : seat.conn.slot ≡ slot
  pub serial : seat.conn.serial ≤ roll.serials
  pub condemned : seat.condemned ≡ condemned_in roll.condemned seat.conn
  pub latches : (class : ℕ) → HoldsLatch seat class → class < roll.classes

-- What is so of every registry. No two connections hold one latch.
pub record IsRoll (roll : Roll) : Type 0 where
  pub count : length roll.seats ≡ slot_count
  pub classes : roll.classes ≤ max_classes
  pub seated : EachSeat (IsSeated roll) roll.seats
  pub one_holder :
      (class i j : ℕ) (a b : Seat) → seat_in roll.seats i ≡ Some a → seat_in roll.seats j ≡ Some b
      → HoldsLatch a class → HoldsLatch b class → i ≡ j
  pub drawn : (place : ℕ) (entry : Condemnation) → slice_get roll.condemned place ≡ Some entry → entry.conn.serial ≤ roll.serials
  pub spent : length roll.spent ≡ slot_count
  pub rows : (slot : ℕ) (row : List ℕ) → slice_get roll.spent slot ≡ Some row → length row ≡ roll.classes
