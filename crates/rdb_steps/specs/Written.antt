-- The record of a connection once the next cell of a plan is written, or the newest pair of its undo record is taken back.
use Rattle.std.specs.Prelude.{◌≡◌, ◌<◌, ◌+◌, ◌&&◌, ◌++◌, ◌∷◌, ℕ, [], length, slice_get, drop, Bool, true, false, Option, Some, None, IsSome, if◌then◌else◌}
use Rattle.rdb_base.specs.declared.identity.ConnId.{ConnId}
use Rattle.rdb_base.specs.declared.identity.Manager.{Manager}
use Rattle.rdb_base.specs.declared.operation.Reply.{Reply}
use Rattle.rdb_pages.specs.declared.cell.CellRef.{CellRef}
use Rattle.rdb_cells.specs.declared.pairs.Pair.{Pair}
use Rattle.rdb_cells.specs.Images.{Writes}
use Rattle.rdb_cells.specs.Records.{Logs}
use Rattle.rdb_registry.specs.declared.hand.Hand.{Hand}
use Rattle.rdb_registry.specs.declared.hand.Work.{Work}
use Rattle.rdb_registry.specs.declared.own_writes.OwnWrite.{OwnWrite}
use Rattle.rdb_registry.specs.declared.seat.Seat.{Seat}
use Rattle.rdb_registry.specs.OwnWrites.{header_of}
use Rattle.rdb_registry.specs.Seats.{Seats, seat_of}
use Rattle.rdb_space.specs.Memory.{RegionCells, image_of}
use Rattle.rdb_writes.specs.Steps.{spans_one_plan}
use Rattle.rdb_steps.specs.declared.state.State.{State}
use Rattle.rdb_steps.specs.Debt.{debt}
use Rattle.rdb_steps.specs.Steps.{Finishes, is_at_last, forgetting_own, seat_at, without_first}

-- with the next cell of the plan the undo record is emptied, which spanned that plan
abbrev pub is_emptied : Manager → Hand → Bool
is_emptied manager hand = is_at_last hand && spans_one_plan manager

-- The next pair of a hand's plan is written: the plan is shorter by that pair, and the undo record names its cell; but it is emptied with
-- the last cell of a plan that it spans. Nothing else in the hand changes.
pub record WritesPair (manager : Manager) (before after : RegionCells) (was now : Hand) : Type 0 where
  pub next : Pair
  pub plan : was.plan ≡ record now.plan { pairs = now.plan.pairs ++ next ∷ [] }
  pub cell : Writes (image_of before) (image_of after) next.at.number next.cell
  pub logged : is_emptied manager was ≡ false → Logs was.undo now.undo (image_of before) next.at.number
  pub emptied : is_emptied manager was ≡ true → now.undo ≡ record was.undo { pairs = [] }
  pub rest : now ≡ record was { undo = now.undo; plan = now.plan }

-- the latches that a record has once its operation has ended: none where it had one for the plan
abbrev pub latches_after : Manager → Seat → ℕ
latches_after manager seat = if spans_one_plan manager then 0 else seat.latches

-- A record's operation ends, whose plan is written in this hand.
pub record EndsIn (manager : Manager) (seat : Seat) (written : Hand) (now : Seat) : Type 0 where
  pub work : Work
  pub version : CellRef
  pub had : seat.hand.work ≡ Some work
  pub puts : work.puts ≡ Some version
  pub finishes : Finishes written now.hand work version
  pub rest : now ≡ record seat { hand = now.hand; latches = latches_after manager seat }

-- The next cell of the plan of an operation is written, or of a drop before it. With the reply the operation has ended; until then nothing
-- changes but its undo record and its plan.
pub record WritesWork (manager : Manager) (before after : RegionCells) (seats seats_now : Seats) (c : ConnId)
    (result : Option Reply) : Type 0 where
  pub seat : Seat
  pub now : Seat
  pub written : Hand
  pub held : seat_of seats c ≡ Some seat
  pub there : seat_of seats_now c ≡ Some now
  pub pair : WritesPair manager before after seat.hand written
  pub becomes : result ≡ None → now ≡ record seat { hand = written }
  pub ends : IsSome result → EndsIn manager seat written now
  pub closer : length now.hand.plan.pairs + 1 ≡ length seat.hand.plan.pairs

-- A record's first own write is forgotten, the drop of which is written in this hand.
pub record ForgetsIn (seat : Seat) (written : Hand) (now : Seat) : Type 0 where
  pub first : OwnWrite
  pub was : slice_get seat.hand.own.items 0 ≡ Some first
  pub left : now.hand.own ≡ without_first seat.hand.own
  pub gone : (object : ℕ × ℕ) → header_of now.hand.own.items object ≡ header_of (drop 1 seat.hand.own.items) object
  pub rest : now ≡ record seat { hand = record written { own = now.hand.own }; latches = 0 }

-- The next cell of the drop of a record's first own version is written. With the last one that own write is gone; until then nothing
-- changes but its undo record and its plan.
pub record WritesDrop (manager : Manager) (before after : RegionCells) (seats seats_now : Seats) (c : ConnId) : Type 0 where
  pub seat : Seat
  pub now : Seat
  pub written : Hand
  pub held : seat_of seats c ≡ Some seat
  pub there : seat_of seats_now c ≡ Some now
  pub pair : WritesPair manager before after seat.hand written
  pub becomes : is_at_last seat.hand ≡ false → now ≡ record seat { hand = written }
  pub ends : is_at_last seat.hand ≡ true → ForgetsIn seat written now
  pub closer : length now.hand.plan.pairs + 1 ≡ length seat.hand.plan.pairs

-- The newest pair of a record is taken back, and what is left of its plan is given up. With the last pair its own writes are forgotten.
pub record TakesPairBack (before after : RegionCells) (seats seats_now : Seats) (c : ConnId) : Type 0 where
  pub seat : Seat
  pub hand : Hand
  pub newest : Pair
  pub held : seat_of seats c ≡ Some seat
  pub there : seat_of seats_now c ≡ Some (record seat { hand = forgetting_own hand })
  pub shorter : seat.hand.undo ≡ record hand.undo { pairs = hand.undo.pairs ++ newest ∷ [] }
  pub plan : hand.plan ≡ record seat.hand.plan { pairs = [] }
  pub rest : hand ≡ record seat.hand { undo = hand.undo; plan = hand.plan }
  pub cell : Writes (image_of before) (image_of after) newest.at.number newest.cell
  pub closer : length hand.undo.pairs + 1 ≡ length seat.hand.undo.pairs

-- The numbers that a state has drawn stay, and so do its schema, its store, its manager, its journal with what is claimed of it, and the
-- spare undo record.
pub record KeepsCounts {P : Type 0} (before after : State P) : Type 0 where
  pub counters : after.counters ≡ before.counters
  pub journal : after.transactions.journal ≡ before.transactions.journal
  pub claims : after.transactions.claims ≡ before.transactions.claims
  pub spare : after.transactions.spare_undo ≡ before.transactions.spare_undo
  pub manager : after.transactions.manager ≡ before.transactions.manager
  pub schema : after.schema ≡ before.schema
  pub store : after.store ≡ before.store

-- so it is of the states before and after a step
abbrev pub WrittenWork : {P : Type 0} → State P → State P → ConnId → Option Reply → Type 0
WrittenWork before after c result =
    WritesWork before.transactions.manager before.memory after.memory before.transactions.registry.seats
    after.transactions.registry.seats c result

abbrev pub WrittenDrop : {P : Type 0} → State P → State P → ConnId → Type 0
WrittenDrop before after c =
    WritesDrop before.transactions.manager before.memory after.memory before.transactions.registry.seats after.transactions.registry.seats c

abbrev pub TakenBack : {P : Type 0} → State P → State P → ConnId → Type 0
TakenBack before after c = TakesPairBack before.memory after.memory before.transactions.registry.seats after.transactions.registry.seats c

-- how many steps are left of a record's work falls, whatever versions of its class and pages without an owner there are
abbrev pub FallsDebt : Manager → Seat → Seat → Type 0
FallsDebt manager seat now = (versions pages : ℕ) → debt manager now versions pages < debt manager seat versions pages

-- so it is of the record of a connection
abbrev pub ComesNearer : {P : Type 0} → State P → State P → ConnId → Type 0
ComesNearer before after c =
    (seat now : Seat) → seat_at before c ≡ Some seat → seat_at after c ≡ Some now → FallsDebt before.transactions.manager seat now
