-- How a connection stands, by its record.
use Rattle.std.specs.Prelude.{◌≤◌, ℕ, Bool, false, length, Option, Some, None, is_some}
use Rattle.std.specs.Option.{option_map_or}
use Rattle.rdb_base.specs.declared.limits.TheConstants.{MAX_OPERATIONS}
use Rattle.rdb_base.specs.declared.identity.Phase.{Phase}
use Rattle.rdb_base.specs.declared.identity.Phase.TheVariants as phase
use Rattle.rdb_registry.specs.declared.seat.Condemned.{Condemned}
use Rattle.rdb_registry.specs.declared.seat.Seat.{Seat}
use Rattle.rdb_answers.specs.declared.answer.Standing.{Standing}
use Rattle.rdb_transactions.specs.Hands.{watch_of}

-- a connection that was condemned and is there is Condemned; another one is in its phase
abbrev pub phase_by : Option Condemned → Phase → Phase
phase_by None own = own
phase_by (Some condemned) own = phase.Condemned

abbrev pub phase_in : Seat → Phase
phase_in seat = phase_by seat.condemned seat.hand.phase

-- a connection that isn't there is Absent
abbrev pub phase_of : Option Seat → Phase
phase_of seat = option_map_or phase_in seat phase.Absent

-- the record's connection watches the event, if one is asked about
abbrev pub watches : Option (ℕ × ℕ) → Seat → Bool
watches None seat = false
watches (Some event) seat = is_some (watch_of event.0 event.1 seat.hand.subscriptions)

-- its story has no more operations than a transaction may have
abbrev pub HasFewOperations : Seat → Type 0
HasFewOperations seat = length seat.hand.done.items ≤ MAX_OPERATIONS

-- its phase, how many operations its story has, why it rolls back, and whether it watches the event
abbrev pub standing_in : Option (ℕ × ℕ) → Seat → Standing
standing_in event seat =
    record { phase = phase_in seat; operations = length seat.hand.done.items; cause = seat.hand.cause; watched = watches event seat }

abbrev pub absent : Standing
absent = record { phase = phase.Absent; operations = 0; cause = None; watched = false }

-- the same of a connection, which may be absent
abbrev pub standing_of : Option (ℕ × ℕ) → Option Seat → Standing
standing_of event seat = option_map_or (standing_in event) seat absent
