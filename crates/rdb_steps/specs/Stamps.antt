-- What becomes of a record as its transaction's versions get their stamps.
use Rattle.std.specs.Prelude.{◌≡◌, ◌≢◌, true, Some, slice_get}
use Rattle.rdb_base.specs.declared.identity.ConnId.{ConnId}
use Rattle.rdb_base.specs.declared.identity.Manager.{Manager}
use Rattle.rdb_pages.specs.declared.cell.Cell.{Cell}
use Rattle.rdb_cells.specs.Images.{Writes}
use Rattle.rdb_registry.specs.declared.own_writes.OwnWrite.{OwnWrite}
use Rattle.rdb_registry.specs.declared.seat.Seat.{Seat}
use Rattle.rdb_registry.specs.Seats.{Seats, IsHolder, NoneHolds, seat_of}
use Rattle.rdb_space.specs.Memory.{RegionCells, image_of}
use Rattle.rdb_writes.specs.Steps.{spans_one_plan}
use Rattle.rdb_steps.specs.declared.state.State.{State}
use Rattle.rdb_steps.specs.Steps.{forgetting_first}

-- Where a latch is needed for a plan alone, another connection holds that of the class of a connection's first own write.
pub record IsHeldByOther (manager : Manager) (seats : Seats) (c holder : ConnId) : Type 0 where
  pub many : spans_one_plan manager ≡ true
  pub seat : Seat
  pub first : OwnWrite
  pub held : seat_of seats c ≡ Some seat
  pub was : slice_get seat.hand.own.items 0 ≡ Some first
  pub holds : IsHolder seats first.class holder
  pub other : holder ≢ c

-- The first version of a record's transaction that lacks its stamp gets it: the cell of its header is written, and it is no longer among
-- the own writes. Nothing else in the record changes. Where a latch is needed for a plan alone, nobody holds that of the class.
pub record StampsFirst (manager : Manager) (before after : RegionCells) (seats seats_now : Seats) (c : ConnId) : Type 0 where
  pub seat : Seat
  pub first : OwnWrite
  pub cell : Cell
  pub held : seat_of seats c ≡ Some seat
  pub was : slice_get seat.hand.own.items 0 ≡ Some first
  pub free : spans_one_plan manager ≡ true → NoneHolds seats first.class
  pub written : Writes (image_of before) (image_of after) first.header.number cell
  pub there : seat_of seats_now c ≡ Some (record seat { hand = forgetting_first seat.hand })

-- so it is of the states before and after a step
abbrev pub Stamped : {P : Type 0} → State P → State P → ConnId → Type 0
Stamped before after c =
    StampsFirst before.transactions.manager before.memory after.memory before.transactions.registry.seats
    after.transactions.registry.seats c
