-- Who may begin, under many readers or a single writer.
use Rattle.std.specs.Prelude.{◌≡◌, ◌<◌, ◌==◌, ℕ, Bool, true, false, ◌&&◌, ◌||◌, not, IsSomeAnd}
use Rattle.std.specs.Option.{option_map_or}
use Rattle.rdb_base.specs.declared.identity.ConnId.{ConnId}
use Rattle.rdb_base.specs.declared.identity.Kind.{Kind}
use Rattle.rdb_registry.specs.declared.seat.Seat.{Seat}
use Rattle.rdb_registry.specs.Seats.{Seats, seat_in, may_write}
use Rattle.rdb_mursiw.specs.declared.admission.Admission.{Admission}
use Rattle.rdb_mursiw.specs.declared.admission.Admission.TheVariants as admission

-- an open transaction keeps one of a kind from beginning: one of the two may write
abbrev pub keeps_out : Kind → Kind → Bool
keeps_out kind other = may_write kind || may_write other

-- the two are one connection
abbrev pub is_same : ConnId → ConnId → Bool
is_same a b = (a.slot == b.slot) && (a.serial == b.serial)

-- a record is that of another connection than c, and its open transaction keeps one of the kind from beginning
abbrev pub bars : ConnId → Kind → Seat → Bool
bars c kind seat = not (is_same seat.conn c) && option_map_or (λ t. keeps_out kind t.kind) seat.transaction false

-- the connection in a slot is in the way of c
abbrev pub bars_in : Seats → ConnId → Kind → ℕ → Bool
bars_in seats c kind slot = option_map_or (bars c kind) (seat_in seats slot) false

-- no connection in a slot below this one is in the way
abbrev pub NoneBarsBelow : Seats → ConnId → Kind → ℕ → Type 0
NoneBarsBelow seats c kind slot = (lower : ℕ) → lower < slot → bars_in seats c kind lower ≡ false

-- the connection in a slot is in the way, and none in a slot below it is
pub record IsLowestBar (seats : Seats) (c : ConnId) (kind : Kind) (holder : ConnId) (slot : ℕ) : Type 0 where
  pub there : IsSomeAnd (seat_in seats slot) (λ seat. (seat.conn ≡ holder) × (bars c kind seat ≡ true))
  pub below : NoneBarsBelow seats c kind slot

-- Go exactly where no connection is in the way; else Busy with the one in the lowest slot that is.
abbrev pub IsAdmission : Seats → ConnId → Kind → Admission → Type 0
IsAdmission seats c kind admission.Go = (slot : ℕ) → bars_in seats c kind slot ≡ false
IsAdmission seats c kind (admission.Busy holder) = (slot : ℕ) × IsLowestBar seats c kind holder slot
