-- What the repair of a condemned connection's record does to it.
use Rattle.std.specs.Prelude.{◌≡◌, ◌≢◌, false, ◌+◌, ◌==◌, ◌∷◌, ◌++◌, ℕ, Some, [], length, is_some, if◌then◌else◌}
use Rattle.rdb_base.specs.declared.identity.ConnId.{ConnId}
use Rattle.rdb_base.specs.declared.identity.Manager.{Manager}
use Rattle.rdb_cells.specs.declared.pairs.Pair.{Pair}
use Rattle.rdb_cells.specs.Images.{Writes}
use Rattle.rdb_cells.specs.Records.{Record}
use Rattle.rdb_registry.specs.declared.hand.Hand.{Hand}
use Rattle.rdb_registry.specs.declared.seat.Seat.{Seat}
use Rattle.rdb_registry.specs.Seats.{seat_of}
use Rattle.rdb_space.specs.Memory.{RegionCells, image_of}
use Rattle.rdb_transactions.specs.declared.transactions.Transactions.{Transactions}
use Rattle.rdb_transactions.specs.Hands.{given_up, with_undo}
use Rattle.rdb_transactions.specs.Records.{edited}
use Rattle.rdb_writes.specs.Steps.{spans_one_plan}
use Rattle.rdb_steps.specs.declared.state.State.{State}
use Rattle.rdb_steps.specs.Kept.{is_dropping}
use Rattle.rdb_steps.specs.Steps.{forgetting_own}

-- how many writes a record has in work
abbrev pub in_work : Seat → ℕ
in_work seat = if is_some seat.hand.work then 1 else 0

-- A connection's record is another, and the place is given up that was claimed for its write in work. The journal, what else is claimed, and
-- all other records stay.
pub record Repairs (before after : Transactions) (c : ConnId) (seat : Seat) (change : Seat → Seat) : Type 0 where
  pub held : seat_of before.registry.seats c ≡ Some seat
  pub registry : after.registry ≡ edited before.registry c.slot change
  pub writes : after.claims.writes + in_work seat ≡ before.claims.writes
  pub rest : after ≡ record before { registry = after.registry; claims = record before.claims { writes = after.claims.writes } }

-- the record without an operation in work, a plan, or a latch
abbrev pub set_free : Seat → Seat
set_free seat = record seat { latches = 0; hand = given_up seat.hand }

-- A plan or a latch is left to be given up, and the plan isn't the drop of a version.
pub record HoldsUnfinished (seat : Seat) : Type 0 where
  pub quiet : is_dropping seat.hand ≡ false
  pub some : seat.hand.plan.pairs ≡ [] → seat.latches ≢ 0

-- under the manager of a single writer the own writes go with the last pair
abbrev pub left_hand : Manager → Hand → Hand
left_hand manager hand = if spans_one_plan manager then hand else forgetting_own hand

-- with the last pair the latches go, too
abbrev pub left : Manager → Seat → Seat
left manager seat =
    record seat { latches = if length seat.hand.undo.pairs == 0 then 0 else seat.latches; hand = left_hand manager seat.hand }

-- The record without the newest pair of its undo record, without a plan and an operation in work; with the last pair its latches go, and
-- under the manager of a single writer its own writes.
abbrev pub repaired : Manager → Record → Seat → Seat
repaired manager undo seat = left manager (record seat { hand = given_up (with_undo undo seat.hand) })

-- The newest pair of a record is taken back, and the record is repaired so far.
pub record TakesBackNewest (manager : Manager) (before after : RegionCells) (was now : Transactions) (c : ConnId) : Type 0 where
  pub seat : Seat
  pub newest : Pair
  pub undo : Record
  pub shorter : seat.hand.undo ≡ record undo { pairs = undo.pairs ++ newest ∷ [] }
  pub cell : Writes (image_of before) (image_of after) newest.at.number newest.cell
  pub repairs : Repairs was now c seat (repaired manager undo)

-- so it is of the states before and after a step
abbrev pub Repaired : {P : Type 0} → State P → State P → ConnId → Type 0
Repaired before after c = TakesBackNewest before.transactions.manager before.memory after.memory before.transactions after.transactions c
