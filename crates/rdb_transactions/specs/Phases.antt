-- What a record has in hand by its phase, in memory: cells aside. A condemned one keeps its phase while it is repaired.
use Rattle.std.specs.Prelude.{◌≡◌, [], None, IsSome, IsSomeAnd}
use Rattle.std.specs.List.{filter_map}
use Rattle.rdb_base.specs.declared.identity.Kind.TheVariants as kind
use Rattle.rdb_base.specs.declared.identity.Phase.{Phase}
use Rattle.rdb_base.specs.declared.identity.Phase.TheVariants as phase
use Rattle.rdb_model.specs.Touch.{written_by}
use Rattle.rdb_registry.specs.declared.seat.Seat.{Seat}

-- no work is unfinished: nothing is in work, planned, or to be taken back, and no latch is held
pub record IsAtRest (seat : Seat) : Type 0 where
  pub work : seat.hand.work ≡ None
  pub plan : seat.hand.plan.pairs ≡ []
  pub undo : seat.hand.undo.pairs ≡ []
  pub latches : seat.latches ≡ 0

-- the record's transaction is open, and has no mark
abbrev pub IsUnmarked : Seat → Type 0
IsUnmarked seat = IsSomeAnd seat.transaction (λ t. t.mark ≡ None)

-- no transaction is open, and nothing is in hand but watches
pub record IsIdle (seat : Seat) : Type 0 where
  pub rest : IsAtRest seat
  pub transaction : seat.transaction ≡ None
  pub cause : seat.hand.cause ≡ None
  pub done : seat.hand.done.items ≡ []
  pub own : seat.hand.own.items ≡ []

-- a transaction is open that reads: it has written nothing, and no work is unfinished
pub record IsReading (seat : Seat) : Type 0 where
  pub rest : IsAtRest seat
  pub transaction : IsSomeAnd seat.transaction (λ t. (t.kind ≡ kind.ReadOnly) × (t.mark ≡ None))
  pub cause : seat.hand.cause ≡ None
  pub done : filter_map written_by seat.hand.done.items ≡ []
  pub own : seat.hand.own.items ≡ []

-- a transaction is open that may write, and no operation of it is in work; only a repair has a plan here
pub record IsRunning (seat : Seat) : Type 0 where
  pub work : seat.hand.work ≡ None
  pub plan : seat.condemned ≡ None → seat.hand.plan.pairs ≡ []
  pub transaction : IsSomeAnd seat.transaction (λ t. (t.kind ≡ kind.ReadWrite) × (t.mark ≡ None))
  pub cause : seat.hand.cause ≡ None

-- a transaction is open whose operation is in work
pub record IsWriting (seat : Seat) : Type 0 where
  pub transaction : IsSomeAnd seat.transaction (λ t. (t.kind ≡ kind.ReadWrite) × (t.mark ≡ None))
  pub cause : seat.hand.cause ≡ None

-- a transaction is open that rolls back for a cause
pub record IsRollingBack (seat : Seat) : Type 0 where
  pub work : seat.hand.work ≡ None
  pub transaction : IsUnmarked seat
  pub cause : IsSome seat.hand.cause

-- a transaction is marked: its story stands in the journal, and nothing is taken back any more
pub record IsStamping (seat : Seat) : Type 0 where
  pub work : seat.hand.work ≡ None
  pub plan : seat.hand.plan.pairs ≡ []
  pub undo : seat.hand.undo.pairs ≡ []
  pub transaction : IsSomeAnd seat.transaction (λ t. (t.kind ≡ kind.ReadWrite) × IsSome t.mark)
  pub cause : seat.hand.cause ≡ None
  pub done : seat.hand.done.items ≡ []

-- what a record has in hand in a phase; none is Condemned or Absent by what it has in hand
abbrev pub IsInPhase : Phase → Seat → Type 0
IsInPhase phase.Idle seat = IsIdle seat
IsInPhase (phase.Running kind.ReadOnly) seat = IsReading seat
IsInPhase (phase.Running kind.ReadWrite) seat = IsRunning seat
IsInPhase phase.Writing seat = IsWriting seat
IsInPhase phase.RollingBack seat = IsRollingBack seat
IsInPhase phase.Stamping seat = IsStamping seat
IsInPhase phase.Condemned seat = ⊥
IsInPhase phase.Absent seat = ⊥
