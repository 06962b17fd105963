-- The room that records have, and how far numbers were drawn, as records and journal move.
use Rattle.std.specs.Prelude.{◌≡◌, ◌≢◌, ◌≤◌, ◌<◌, ℕ, List, length, true, false, Some, None, IsSome}
use Rattle.rdb_base.specs.declared.identity.Manager.{Manager}
use Rattle.rdb_base.specs.declared.limits.TheConstants.{MAX_OPERATIONS}
use Rattle.rdb_schema.specs.declared.schema.Schema.{Schema}
use Rattle.rdb_registry.specs.declared.seat.Seat.{Seat}
use Rattle.rdb_registry.specs.Seats.{Seats, EachSeat, seat_in}
use Rattle.rdb_transactions.specs.declared.transactions.Transactions.{Transactions}
use Rattle.rdb_transactions.specs.Records.{is_single_writer}
use Rattle.rdb_steps.specs.States.{IsFurnished, SpareFits, AreFewer, operations_of}

-- Each record has room for what comes, the spare undo record fits, and no number was drawn that the journal and the records don't allow.
pub record HaveRooms (schema : Schema) (cells drawn_serials : ℕ) (drawn_ids : List ℕ) (t : Transactions) : Type 0 where
  pub furnished : EachSeat (λ slot. IsFurnished schema t.manager cells) t.registry.seats
  pub spare : SpareFits cells t
  pub fewer : AreFewer drawn_serials drawn_ids t

-- so it is afterwards, where it was before
abbrev pub KeepRooms : Transactions → Transactions → Type 0
KeepRooms before after =
    (schema : Schema) (cells serials : ℕ) (ids : List ℕ) → HaveRooms schema cells serials ids before
    → HaveRooms schema cells serials ids after

-- the story doesn't shrink and stays short, and an operation in work has its place in it
pub record TellsFew (seat now : Seat) : Type 0 where
  pub grows : length seat.hand.done.items ≤ length now.hand.done.items
  pub few : operations_of now ≤ MAX_OPERATIONS
  pub room : IsSome seat.hand.work → 0 < now.hand.done.room

-- The record has the same places still, is the single writer's if it was, has no operation in work, and no longer story.
pub record KeepsFurniture (manager : Manager) (seat now : Seat) : Type 0 where
  pub plan : now.hand.plan.room ≡ seat.hand.plan.room
  pub undo : now.hand.undo.room ≡ seat.hand.undo.room
  pub writer : is_single_writer manager now ≡ is_single_writer manager seat
  pub work : now.hand.work ≡ None
  pub done : length now.hand.done.items ≤ length seat.hand.done.items

-- where the record in a slot is the single writer's, no other is
abbrev pub IsOnlyWriter : Manager → Seats → ℕ → Seat → Type 0
IsOnlyWriter manager seats slot seat =
    is_single_writer manager seat ≡ true → (other : ℕ) (one : Seat) → other ≢ slot → seat_in seats other ≡ Some one
    → is_single_writer manager one ≡ false
