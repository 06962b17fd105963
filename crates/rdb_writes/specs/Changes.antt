-- Changes that write no cell: of one connection's hand, of its latches, and of which cells there are.
use Rattle.std.specs.Prelude.{◌≡◌, ℕ, [], Some, None, IsSome, slice_set}
use Rattle.rdb_base.specs.declared.identity.ConnId.{ConnId}
use Rattle.rdb_registry.specs.declared.hand.Hand.{Hand}
use Rattle.rdb_registry.specs.declared.seat.Seat.{Seat}
use Rattle.rdb_registry.specs.Seats.{seat_in, seat_of, with_hand, changed, with_latches}
use Rattle.rdb_writes.specs.Grounds.{Ground, IsLatched, WorksOn, HasPlaces}

-- every cell holds what it did and is of the class that it was
pub record SameCells (before after : Ground) : Type 0 where
  pub image : (n : ℕ) → after.image n ≡ before.image n
  pub classes : (n : ℕ) → after.class_of n ≡ before.class_of n

-- A connection has another hand, which works on cells of its classes alone and can log each cell of its plan. No cell is written.
pub record ChangesHand (before after : Ground) (c : ConnId) (seat : Seat) (hand : Hand) : Type 0 where
  pub cells : SameCells before after
  pub held : seat_of before.seats c ≡ Some seat
  pub records : after.seats ≡ with_hand before.seats c.slot hand
  pub latched : (n : ℕ) → WorksOn hand n → IsLatched before seat n
  pub places : HasPlaces hand

-- A connection has other latches, and still holds those of the cells that it works on. No cell is written.
pub record ChangesLatches (before after : Ground) (slot : ℕ) (seat : Seat) (latches : ℕ) : Type 0 where
  pub cells : SameCells before after
  pub held : seat_in before.seats slot ≡ Some seat
  pub records : after.seats ≡ changed before.seats slot (with_latches latches)
  pub latched : (n : ℕ) → WorksOn seat.hand n → IsLatched before (with_latches latches seat) n

-- There are more cells; those that there were hold what they did and are of the class that they were, and all records stay.
pub record Grows (before after : Ground) : Type 0 where
  pub records : after.seats ≡ before.seats
  pub image : (n : ℕ) → IsSome (before.class_of n) → after.image n ≡ before.image n
  pub classes : (n : ℕ) → IsSome (before.class_of n) → after.class_of n ≡ before.class_of n

-- A free slot has the record of a connection that works nowhere. No cell is written.
pub record Comes (before after : Ground) (slot : ℕ) (seat : Seat) : Type 0 where
  pub cells : SameCells before after
  pub free : seat_in before.seats slot ≡ None
  pub records : after.seats ≡ slice_set before.seats slot (Some seat)
  pub undo : seat.hand.undo.pairs ≡ []
  pub plan : seat.hand.plan.pairs ≡ []

-- A slot is free again whose connection had nothing to take back. No cell is written.
pub record Goes (before after : Ground) (slot : ℕ) (seat : Seat) : Type 0 where
  pub cells : SameCells before after
  pub held : seat_in before.seats slot ≡ Some seat
  pub undo : seat.hand.undo.pairs ≡ []
  pub records : after.seats ≡ slice_set before.seats slot None
