-- The operations of a transaction are few, so that how it stands can be told.
use Rattle.std.proofs.Common.{◌≡◌, ◌≤◌, ◌+◌, ℕ, Bool, true, false, cond, length, Option, Some, None, IfSome, is_some, refl, arith}
use Rattle.rdb_base.specs.declared.identity.ConnId.{ConnId}
use Rattle.rdb_base.specs.declared.limits.TheConstants.{MAX_OPERATIONS}
use Rattle.rdb_registry.specs.declared.seat.Seat.{Seat}
use Rattle.rdb_registry.specs.Seats.{seat_of}
use Rattle.rdb_answers.specs.Standings.{HasFewOperations}
use Rattle.rdb_writes.proofs.WorkLemmas.{in_its_slot}
use Rattle.rdb_steps.specs.declared.state.State.{State}
use Rattle.rdb_steps.specs.States.{IsWhole}

fewer : (n : ℕ) (b : Bool) → n + cond b 1 0 ≤ MAX_OPERATIONS → n ≤ MAX_OPERATIONS
fewer n true had = omega (arith, had)
fewer n false had = omega (arith, had)

pub few_in : {P : Type 0} (s : State P) (c : ConnId) → IsWhole s → IfSome (seat_of s.transactions.registry.seats c) HasFewOperations
few_in s c whole = go (seat_of s.transactions.registry.seats c) refl
  where
    go : (o : Option Seat) → seat_of s.transactions.registry.seats c ≡ o → IfSome o HasFewOperations
    go None is = tt {0}
    go (Some seat) is =
        fewer (length seat.hand.done.items) (is_some seat.hand.work)
        (whole.furnished c.slot seat (in_its_slot s.transactions.registry.seats c seat is)).few
