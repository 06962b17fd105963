-- What is claimed of the journal's reserved room, so that no call that ends something lacks memory.
use Rattle.std.specs.Prelude.{◌≡◌, ◌+◌, ◌≤◌, ◌<◌, ℕ, Bool, false, List, length, Option, is_some, is_none, if◌then◌else◌}
use Rattle.std.specs.List.{sum_by, filter_map}
use Rattle.std.specs.Option.{option_map_or}
use Rattle.rdb_base.specs.declared.limits.TheConstants.{MAX_PLACES}
use Rattle.rdb_base.specs.declared.operation.Op.{Op}
use Rattle.rdb_base.specs.declared.operation.Reply.{Reply}
use Rattle.rdb_base.specs.declared.journal.Entry.{Entry}
use Rattle.rdb_model.specs.Journal.{done_of}
use Rattle.rdb_model.specs.Touch.{written_by}
use Rattle.rdb_history.specs.Kept.{Kept}
use Rattle.rdb_registry.specs.declared.seat.Seat.{Seat}
use Rattle.rdb_registry.specs.Seats.{Seats}
use Rattle.rdb_transactions.specs.declared.claims.Claims.{Claims}

-- how many operations wrote an object
abbrev pub writes_in : List (Op × Reply) → ℕ
writes_in done = length (filter_map written_by done)

-- the record's transaction is open, and its ending isn't in the journal yet
abbrev pub is_unmarked : Seat → Bool
is_unmarked seat = option_map_or (λ t. is_none t.mark) seat.transaction false

-- the places of entries that a record claims: that of its leave, and that of the ending of its transaction
abbrev pub places_of : Seat → ℕ
places_of seat = if is_unmarked seat then 2 else 1

-- the places of writes that a record claims: those of the writes in its story, and that of the write in work
abbrev pub writes_of : Seat → ℕ
writes_of seat = writes_in seat.hand.done.items + (if is_some seat.hand.work then 1 else 0)

abbrev pub places_in : Option Seat → ℕ
places_in seat = option_map_or places_of seat 0

abbrev pub writes_of_slot : Option Seat → ℕ
writes_of_slot seat = option_map_or writes_of seat 0

-- there is room for what is claimed
pub record HasRoom (claims : Claims) (journal : Kept) : Type 0 where
  pub entries : claims.entries ≤ journal.room
  pub writes : claims.writes ≤ journal.write_room
  pub limit : length journal.entries + journal.room ≤ MAX_PLACES

-- What is claimed is what the records claim, and what a story claims that was moved out of its record; and there is room for it.
pub record AreClaimed (away : List (Op × Reply)) (seats : Seats) (claims : Claims) (journal : Kept) : Type 0 where
  pub entries : claims.entries ≡ sum_by places_in seats
  pub writes : claims.writes ≡ sum_by writes_of_slot seats + writes_in away
  pub room : HasRoom claims journal

-- Of what is claimed these are given up as an entry is appended: its own place, and those of the writes of its story.
pub record Covers (given claims : Claims) (entry : Entry) : Type 0 where
  pub place : 0 < given.entries
  pub entries : given.entries ≤ claims.entries
  pub writes : given.writes ≤ claims.writes
  pub story : writes_in (done_of entry) ≤ given.writes
