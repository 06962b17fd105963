-- What is so of the connections, their transactions and the journal between any two calls.
use Rattle.std.specs.Prelude.{◌≡◌, ◌≢◌, ◌+◌, ◌≤◌, ℕ, List, [], length, Some, IsSomeAnd, if◌then◌else◌}
use Rattle.rdb_base.specs.declared.identity.ConnId.{ConnId}
use Rattle.rdb_base.specs.declared.identity.Kind.{Kind}
use Rattle.rdb_base.specs.declared.identity.Kind.TheVariants as kind
use Rattle.rdb_base.specs.declared.identity.Manager.TheVariants as manager
use Rattle.rdb_base.specs.declared.operation.Op.{Op}
use Rattle.rdb_base.specs.declared.operation.Reply.{Reply}
use Rattle.rdb_registry.specs.declared.seat.Seat.{Seat}
use Rattle.rdb_registry.specs.Seats.{seat_in, seat_of, EachSeat}
use Rattle.rdb_transactions.specs.declared.transactions.Transactions.{Transactions}
use Rattle.rdb_transactions.specs.Phases.{IsInPhase}
use Rattle.rdb_transactions.specs.Claims.{AreClaimed, is_unmarked}

-- What is so of one record, the journal having so many entries: it has in hand what its phase says, and it began no more transactions
-- than there are entries, but for an open one whose ending isn't there yet.
pub record IsOrderly (entries : ℕ) (seat : Seat) : Type 0 where
  pub phase : IsInPhase seat.hand.phase seat
  pub begun : seat.begun ≤ entries + (if is_unmarked seat then 1 else 0)

-- What is so where the operations of one story may have been moved out of its record.
pub record IsSoundBut (away : List (Op × Reply)) (t : Transactions) : Type 0 where
  pub records : EachSeat (λ slot. IsOrderly (length t.journal.entries)) t.registry.seats
  pub claims : AreClaimed away t.registry.seats t.claims t.journal
  pub spare : t.spare_undo.pairs ≡ []

-- what is so between any two calls
abbrev pub IsSound : Transactions → Type 0
IsSound t = IsSoundBut [] t

-- a connection is held, and something is so of its record
abbrev pub Has : Transactions → ConnId → (Seat → Type 0) → Type 0
Has t c P = IsSomeAnd (seat_of t.registry.seats c) P

-- a connection may begin a transaction of a kind as far as latches go: the single writer finds none with another
abbrev pub FindsNoLatch : Transactions → ConnId → Kind → Type 0
FindsNoLatch t c wanted =
    t.manager ≡ manager.Mursiw → wanted ≡ kind.ReadWrite
    → (slot : ℕ) (seat : Seat) → slot ≢ c.slot → seat_in t.registry.seats slot ≡ Some seat → seat.latches ≡ 0
