-- The moves: what each leaves of the records, the journal and the spare undo record. All that a relation doesn't name stays.
use Rattle.std.specs.Prelude.{◌≡◌, ◌+◌, List, [], ◌∷◌, ◌++◌, length, slice_set, Some, None}
use Rattle.rdb_base.specs.declared.identity.ConnId.{ConnId}
use Rattle.rdb_base.specs.declared.identity.Kind.{Kind}
use Rattle.rdb_base.specs.declared.journal.Entry.{Entry}
use Rattle.rdb_base.specs.declared.journal.Entry.TheVariants as entry
use Rattle.rdb_model.specs.Journal.{commits}
use Rattle.rdb_registry.specs.declared.seat.Condemned.{Condemned}
use Rattle.rdb_registry.specs.declared.seat.Seat.{Seat}
use Rattle.rdb_registry.specs.Registry.{Connects}
use Rattle.rdb_registry.specs.Seats.{seat_of}
use Rattle.rdb_transactions.specs.declared.claims.Claims.{Claims}
use Rattle.rdb_transactions.specs.declared.transactions.Transactions.{Transactions}
use Rattle.rdb_transactions.specs.Claims.{HasRoom}
use Rattle.rdb_transactions.specs.Hands.{without_story}
use Rattle.rdb_transactions.specs.Records.{edited, on_hand, latched, exchanged, spare_left, opened, closed, is_marked, with_condemnation}

-- nothing has changed but the journal's room, and what is claimed of it
pub record IsSame (before after : Transactions) : Type 0 where
  pub manager : after.manager ≡ before.manager
  pub registry : after.registry ≡ before.registry
  pub entries : after.journal.entries ≡ before.journal.entries
  pub spare : after.spare_undo ≡ before.spare_undo

-- an entry is appended, and so much of what was claimed is given up
pub record Enters (before after : Transactions) (entry : Entry) (given : Claims) : Type 0 where
  pub manager : after.manager ≡ before.manager
  pub registry : after.registry ≡ before.registry
  pub entries : after.journal.entries ≡ before.journal.entries ++ entry ∷ []
  pub spare : after.spare_undo ≡ before.spare_undo
  pub claimed : after.claims.entries + given.entries ≡ before.claims.entries
  pub writes : after.claims.writes + given.writes ≡ before.claims.writes
  pub room : HasRoom after.claims after.journal

-- One record is changed, and these entries are appended.
pub record Moves (before after : Transactions) (c : ConnId) (change : Seat → Seat) (more : List Entry) : Type 0 where
  pub manager : after.manager ≡ before.manager
  pub registry : after.registry ≡ edited before.registry c.slot change
  pub entries : after.journal.entries ≡ before.journal.entries ++ more

-- the spare undo record is the same
abbrev pub KeepsSpare : Transactions → Transactions → Type 0
KeepsSpare before after = after.spare_undo ≡ before.spare_undo

-- the spare undo record was exchanged for that of a record, where this is the single writer's
abbrev pub ExchangesSpare : Transactions → Transactions → ConnId → (Seat → Seat) → Type 0
ExchangesSpare before after c change =
    (seat : Seat) → seat_of before.registry.seats c ≡ Some seat
    → after.spare_undo ≡ spare_left before.manager before.spare_undo (change seat)

-- the record of a connection that begins, with the latches that its transaction needs
abbrev pub opens : Transactions → Kind → Seat → Seat
opens t kind seat =
    latched t.manager t.registry.classes (opened kind (length t.journal.entries) (commits t.journal.entries) seat)

-- the record of a connection that begins: its transaction sees all commits so far; under the manager of a single writer, a writer has
-- every latch and the spare undo record
abbrev pub begins : Transactions → Kind → Seat → Seat
begins t kind seat = exchanged t.manager t.spare_undo (opens t kind seat)

-- the record of a connection whose transaction is over; the single writer's undo record is exchanged back
abbrev pub ends : Transactions → Seat → Seat
ends t seat = closed (exchanged t.manager t.spare_undo seat)

-- the same of one whose story has gone into the journal
abbrev pub ends_with_story : Transactions → Seat → Seat
ends_with_story t seat = ends t (on_hand without_story seat)

-- A connection comes: it has the lowest free slot, and nothing in hand.
pub record Comes (before after : Transactions) (c : ConnId) : Type 0 where
  pub manager : after.manager ≡ before.manager
  pub registry : Connects before.registry after.registry c
  pub entries : after.journal.entries ≡ before.journal.entries
  pub spare : after.spare_undo ≡ before.spare_undo

-- A connection is condemned by another, at the journal's length: its record and the list of the condemned say so.
pub record Condemns (before after : Transactions) (d by : ConnId) : Type 0 where
  pub manager : after.manager ≡ before.manager
  pub registry : after.registry ≡ with_condemnation before.registry d (record { by = by; at = length before.journal.entries })
  pub journal : after.journal ≡ before.journal
  pub claims : after.claims ≡ before.claims
  pub spare : after.spare_undo ≡ before.spare_undo

-- A connection's slot is free, and this entry takes leave of it.
pub record Leaves (before after : Transactions) (c : ConnId) (entry : Entry) : Type 0 where
  pub manager : after.manager ≡ before.manager
  pub registry : after.registry ≡ record before.registry { seats = slice_set before.registry.seats c.slot None }
  pub entries : after.journal.entries ≡ before.journal.entries ++ entry ∷ []

-- the leave of a condemned connection: by whom and when it was condemned, and whether its last transaction was marked
abbrev pub handled : ConnId → Condemned → Seat → Entry
handled d condemned seat = entry.Handled d.slot condemned.by.slot condemned.at (is_marked seat)
