-- Who calls: a connection that was condemned may make any call and is told so; another one has to be in the phase that the call asks for.
use Rattle.std.specs.Prelude.{◌≡◌, ◌≤◌, ℕ, false, length, Some, None}
use Rattle.rdb_base.specs.declared.limits.TheConstants.{MAX_OPERATIONS}
use Rattle.rdb_base.specs.declared.identity.ConnId.{ConnId}
use Rattle.rdb_base.specs.declared.identity.Kind.{Kind}
use Rattle.rdb_base.specs.declared.identity.Kind.TheVariants as kinds
use Rattle.rdb_base.specs.declared.identity.Manager.TheVariants as manager
use Rattle.rdb_base.specs.declared.identity.Phase.TheVariants as phase
use Rattle.rdb_schema.specs.declared.schema.Schema.{Schema}
use Rattle.rdb_model.specs.Fits.{AllFit}
use Rattle.rdb_mursiw.specs.Admission.{bars_in}
use Rattle.rdb_registry.specs.declared.seat.Seat.{Seat}
use Rattle.rdb_registry.specs.Seats.{condemned_in}
use Rattle.rdb_transactions.specs.declared.transactions.Transactions.{Transactions}
use Rattle.rdb_transactions.specs.Sound.{Has}

-- a connection wasn't condemned, as far as the list of the condemned says
abbrev pub IsLive : Transactions → ConnId → Type 0
IsLive t c = condemned_in t.registry.condemned c ≡ None

-- a connection that wasn't condemned is there, and its record is as the call asks
abbrev pub IsAllowed : Transactions → ConnId → (Seat → Type 0) → Type 0
IsAllowed t c P = IsLive t c → Has t c P

-- the connection is idle
abbrev pub IsIdle : Seat → Type 0
IsIdle seat = seat.hand.phase ≡ phase.Idle

-- the connection was condemned by another when the journal had so many entries; nothing has changed
pub record IsGone (before after : Transactions) (c by : ConnId) (at : ℕ) : Type 0 where
  pub condemned : condemned_in before.registry.condemned c ≡ Some (record { by = by; at = at })
  pub same : after ≡ before

-- nobody is in the way of a transaction of this kind: under the manager of many writers nobody ever is
abbrev pub IsFree : Transactions → ConnId → Kind → Type 0
IsFree t c kind = t.manager ≡ manager.Mursiw → (slot : ℕ) → bars_in t.registry.seats c kind slot ≡ false

-- the connection has a running transaction, and no call of it goes on
abbrev pub Runs : Seat → Type 0
Runs seat = (kind : Kind) × (seat.hand.phase ≡ phase.Running kind)

-- each operation of the connection's story fits the schema, and they are few
pub record FitsSchema (schema : Schema) (seat : Seat) : Type 0 where
  pub fits : AllFit schema kinds.ReadWrite seat.hand.done.items
  pub few : length seat.hand.done.items ≤ MAX_OPERATIONS
