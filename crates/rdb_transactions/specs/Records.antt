-- Changes of one record among those of a registry.
use Rattle.std.specs.Prelude.{ℕ, Bool, false, [], ◌∷◌, ◌++◌, is_some, option_and_then, if◌then◌else◌}
use Rattle.std.specs.Option.{option_map_or}
use Rattle.rdb_base.specs.declared.identity.Kind.{Kind}
use Rattle.rdb_base.specs.declared.identity.Manager.{Manager}
use Rattle.rdb_base.specs.declared.identity.Manager.TheVariants as manager
use Rattle.rdb_base.specs.declared.identity.Phase.TheVariants as phase
use Rattle.rdb_base.specs.declared.identity.ConnId.{ConnId}
use Rattle.rdb_base.specs.declared.journal.Cause.{Cause}
use Rattle.rdb_base.specs.declared.journal.Story.{Story}
use Rattle.rdb_cells.specs.Records.{Record}
use Rattle.rdb_registry.specs.declared.hand.Hand.{Hand}
use Rattle.rdb_registry.specs.declared.seat.Condemned.{Condemned}
use Rattle.rdb_registry.specs.declared.seat.Seat.{Seat}
use Rattle.rdb_registry.specs.declared.seat.Transaction.{Transaction}
use Rattle.rdb_registry.specs.Registry.{Roll}
use Rattle.rdb_registry.specs.Seats.{changed, may_write, with_begun, with_mark, with_condemned, with_latches, all_latches, without_transaction}
use Rattle.rdb_transactions.specs.Hands.{in_phase, rolling_back, given_up, to_be_stamped, with_undo, at_rest}

-- the record with another hand
abbrev pub on_hand : (Hand → Hand) → Seat → Seat
on_hand change seat = record seat { hand = change seat.hand }

-- the registry with the record in one slot changed
abbrev pub edited : Roll → ℕ → (Seat → Seat) → Roll
edited roll slot change = record roll { seats = changed roll.seats slot change }

-- the record's open transaction is the single writer: it may write, and the manager lets nobody work beside it
abbrev pub is_single_writer : Manager → Seat → Bool
is_single_writer manager.Mursiw seat = option_map_or (λ t. may_write t.kind) seat.transaction false
is_single_writer manager.Mvcc seat = false

-- the single writer has every latch; another record keeps those that it has
abbrev pub latched : Manager → ℕ → Seat → Seat
latched manager classes seat = if is_single_writer manager seat then with_latches (all_latches classes) seat else seat

-- the single writer has exchanged its undo record for the spare one; another record keeps its own
abbrev pub exchanged : Manager → Record → Seat → Seat
exchanged manager spare seat = if is_single_writer manager seat then on_hand (with_undo spare) seat else seat

-- the undo record that is spare after such an exchange
abbrev pub spare_left : Manager → Record → Seat → Record
spare_left manager spare seat = if is_single_writer manager seat then seat.hand.undo else spare

-- the record as a transaction is open in it
abbrev pub opened : Kind → ℕ → ℕ → Seat → Seat
opened kind begun snapshot seat = on_hand (in_phase (phase.Running kind)) (with_begun kind begun snapshot seat)

-- the record as its transaction is over: its snapshot, its mark and its latches are gone
abbrev pub closed : Seat → Seat
closed seat = on_hand at_rest (with_latches 0 (without_transaction seat))

-- under the manager of many writers a record has no latch between its plans
abbrev pub unlatched : Manager → Seat → Seat
unlatched manager.Mursiw seat = seat
unlatched manager.Mvcc seat = with_latches 0 seat

-- the story of a connection's transaction, by the head that its record has and its operations
abbrev pub story_in : ConnId → Transaction → Hand → Story
story_in c t hand = record { client = c.slot; number = t.number; begun = t.begun; snapshot = t.snapshot; done = hand.done.items }

-- the record's open transaction is marked
abbrev pub is_marked : Seat → Bool
is_marked seat = is_some (option_and_then (λ t. t.mark) seat.transaction)

-- the record as its transaction is marked with the number of a commit
abbrev pub becomes_marked : ℕ → Seat → Seat
becomes_marked commit seat = on_hand to_be_stamped (with_mark commit seat)

-- The record as a roll-back of its transaction begins, for a cause: an operation in work is given up, and where many may write, its latch.
abbrev pub rolls_back : Manager → Cause → Seat → Seat
rolls_back manager cause seat = on_hand (rolling_back cause) (unlatched manager (on_hand given_up seat))

-- a connection is condemned so, in its record and at the end of the list
abbrev pub with_condemnation : Roll → ConnId → Condemned → Roll
with_condemnation roll d condemned = record roll {
  seats = changed roll.seats d.slot (with_condemned condemned);
  condemned = roll.condemned ++ record { conn = d; condemned = condemned } ∷ [];
}
