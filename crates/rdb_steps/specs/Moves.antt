-- Moves of one connection's record that write no cell, and what they leave of what is kept of a World.
use Rattle.std.specs.Prelude.{◌≡◌, ◌≢◌, ℕ, List, [], false, Some, if◌then◌else◌}
use Rattle.rdb_base.specs.declared.identity.ConnId.{ConnId}
use Rattle.rdb_base.specs.declared.identity.Kind.{Kind}
use Rattle.rdb_base.specs.declared.identity.Kind.TheVariants as kind
use Rattle.rdb_base.specs.declared.identity.Manager.{Manager}
use Rattle.rdb_base.specs.declared.identity.Phase.TheVariants as phase
use Rattle.rdb_schema.specs.declared.schema.Schema.{Schema}
use Rattle.rdb_registry.specs.declared.seat.Seat.{Seat}
use Rattle.rdb_registry.specs.declared.seat.Transaction.{Transaction}
use Rattle.rdb_registry.specs.Seats.{Seats, EachSeat, seat_in, seat_of, changed}
use Rattle.rdb_sight.specs.Versions.{Versions}
use Rattle.rdb_writes.specs.Changes.{SameCells}
use Rattle.rdb_writes.specs.Grounds.{Ground}
use Rattle.rdb_writes.specs.Steps.{spans_one_plan}
use Rattle.rdb_steps.specs.Invariant.{IsKept}
use Rattle.rdb_steps.specs.Kept.{is_dropping}
use Rattle.rdb_steps.specs.Lists.{the_settled, the_aimed, taken_over}
use Rattle.rdb_steps.specs.Phases.{IsIdle}

-- whatever versions are settled and aimed at: what is kept of a World by them is kept afterwards by these
abbrev pub KeptBy : Schema → Manager → Ground → Ground → (Versions → Versions → Versions) → (Versions → Versions → Versions)
    → Type 0
KeptBy schema manager before after settled_now aimed_now =
    (serials : ℕ) (ids : List ℕ) (settled aimed : Versions) → IsKept schema manager serials ids before settled aimed
    → IsKept schema manager serials ids after (settled_now settled aimed) (aimed_now settled aimed)

-- it is kept by the same versions
abbrev pub KeptByBoth : Schema → Manager → Ground → Ground → Type 0
KeptByBoth schema manager before after = KeptBy schema manager before after the_settled the_aimed

-- it is kept, and what a connection aimed at is no longer spoken of
abbrev pub KeptByGivingUp : Schema → Manager → Ground → Ground → Seat → Type 0
KeptByGivingUp schema manager before after seat =
    KeptBy schema manager before after the_settled (λ settled aimed. taken_over seat aimed settled)

-- it is kept, and what a connection aimed at is settled
abbrev pub KeptBySettling : Schema → Manager → Ground → Ground → Seat → Type 0
KeptBySettling schema manager before after seat = KeptBy schema manager before after (taken_over seat) the_aimed

-- what is aimed at once a connection is condemned: the same where it drops a version, else nothing of its own
abbrev pub aimed_without : Seat → Versions → Versions → Versions
aimed_without seat settled aimed = if is_dropping seat.hand then aimed else taken_over seat aimed settled

-- A connection's record is another. No cell is written.
pub record ChangesSeat (before after : Ground) (c : ConnId) (seat : Seat) (change : Seat → Seat) : Type 0 where
  pub cells : SameCells before after
  pub held : seat_of before.seats c ≡ Some seat
  pub records : after.seats ≡ changed before.seats c.slot change

-- each record names the slot in which it stands
abbrev pub ArePlaced : Seats → Type 0
ArePlaced seats = EachSeat (λ slot seat. seat.conn.slot ≡ slot) seats

-- the record has another story and other watches, and else is as it was; an idle one has no story
pub record TellsAlone (seat now : Seat) : Type 0 where
  pub rest : now ≡ record seat { hand = record seat.hand { done = now.hand.done; subscriptions = now.hand.subscriptions } }
  pub idle : seat.hand.phase ≡ phase.Idle → now.hand.done.items ≡ []

-- nothing is left to write, to take back, to drop or to stamp
pub record HasNothingLeft (seat : Seat) : Type 0 where
  pub plan : seat.hand.plan.pairs ≡ []
  pub undo : seat.hand.undo.pairs ≡ []
  pub own : seat.hand.own.items ≡ []

-- the record of the same connection once its transaction is over
pub record IsOver (seat now : Seat) : Type 0 where
  pub conn : now.conn ≡ seat.conn
  pub phase : now.hand.phase ≡ phase.Idle
  pub idle : IsIdle now

-- under MURSIW a transaction begins in a slot only beside readers, and one that may write only where no other is open
abbrev pub MayBegin : Manager → Seats → ℕ → Kind → Type 0
MayBegin manager seats slot wanted = spans_one_plan manager ≡ false → (other : ℕ) (seat : Seat) (t : Transaction) → other ≢ slot
    → seat_in seats other ≡ Some seat → seat.transaction ≡ Some t → (wanted ≡ kind.ReadOnly) × (t.kind ≡ kind.ReadOnly)
