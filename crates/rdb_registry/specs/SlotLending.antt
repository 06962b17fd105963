-- What a slot lends.
use Rattle.std.specs.Borrow.{Lends, MutBor, Fml}
use Rattle.rdb_registry.specs.declared.hand.Hand.{Hand}
use Rattle.rdb_registry.specs.declared.seat.Seat.{Seat}
use Rattle.rdb_registry.specs.declared.seat.Slot.{Slot}
use Rattle.rdb_registry.specs.contracts.seat.Seat as seat
use Rattle.rdb_registry.specs.contracts.seat.Slot.{the_row}
use Rattle.rdb_registry.specs.contracts.hand.Hand as hand

-- the record ends with the last hand
abbrev pub LendsOfSeat : MutBor Seat → MutBor Hand → Fml
LendsOfSeat s r = Lends seat.the_row hand.the_row s r (λ h. record s.now { hand = h })

-- the slot with another hand in its record
abbrev pub with_hand_in : Slot → Hand → Slot
with_hand_in slot h = record slot { seat = record slot.seat { hand = h } }

-- the slot ends with the last hand in its record
abbrev pub LendsOfSlot : MutBor Slot → MutBor Hand → Fml
LendsOfSlot s r = Lends the_row hand.the_row s r (with_hand_in s.now)
