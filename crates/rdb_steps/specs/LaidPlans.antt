-- When a plan is laid in a connection's hand, said of cells and records before and after.
use Rattle.std.specs.Prelude.{◌≡◌, ◌≢◌, ◌∷◌, ℕ, List, [], Some, None, true, false}
use Rattle.rdb_base.specs.declared.identity.ConnId.{ConnId}
use Rattle.rdb_base.specs.declared.identity.Kind.TheVariants as kind
use Rattle.rdb_base.specs.declared.identity.Phase.TheVariants as phase
use Rattle.rdb_schema.specs.declared.schema.Schema.{Schema}
use Rattle.rdb_cells.specs.Records.{names}
use Rattle.rdb_registry.specs.declared.hand.Hand.{Hand}
use Rattle.rdb_registry.specs.declared.hand.Work.{Work}
use Rattle.rdb_registry.specs.declared.own_writes.OwnWrite.{OwnWrite}
use Rattle.rdb_registry.specs.declared.seat.Seat.{Seat}
use Rattle.rdb_registry.specs.declared.seat.Transaction.{Transaction}
use Rattle.rdb_registry.specs.OwnWrites.{AreOrdered}
use Rattle.rdb_registry.specs.Seats.{Seats, seat_of, with_hand}
use Rattle.rdb_sight.specs.Versions.{Version}
use Rattle.rdb_writes.specs.Changes.{SameCells}
use Rattle.rdb_writes.specs.Grounds.{Ground, HaveOneHolder, HasPlaces}
use Rattle.rdb_steps.specs.Kept.{is_marked}
use Rattle.rdb_steps.specs.Lists.{LeadsTo}

-- A plan was laid in a hand: no cell is written, its cells are of the class, there are places for it, and it leads from whatever the class
-- holds to another chain of an object.
pub record MakesLaid (schema : Schema) (before after : Ground) (c : ConnId) (seat : Seat) (hand : Hand) (class id : ℕ)
    (was chain : List Version) : Type 0 where
  pub cells : SameCells before after
  pub records : after.seats ≡ with_hand before.seats c.slot hand
  pub only : (n : ℕ) → names hand.plan.pairs n ≡ true → before.class_of n ≡ Some class
  pub places : HasPlaces hand
  pub leads : LeadsTo schema before hand.plan.pairs class id was chain
  pub one_holder : HaveOneHolder after.seats

-- A connection that wasn't condemned has an operation in work, in an open transaction, and no plan.
pub record IsAtWork (seats : Seats) (c : ConnId) (seat : Seat) (t : Transaction) (work : Work) : Type 0 where
  pub held : seat_of seats c ≡ Some seat
  pub phase_is : seat.hand.phase ≡ phase.Writing
  pub live : seat.condemned ≡ None
  pub no_plan : seat.hand.plan.pairs ≡ []
  pub in_work : seat.hand.work ≡ Some work
  pub opened : seat.transaction ≡ Some t

-- A connection rolls back, or was condemned; its open transaction wrote this object first; and it has no plan, pair or latch.
pub record IsAtDrop (seats : Seats) (c : ConnId) (seat : Seat) (t : Transaction) (first : OwnWrite) (rest : List OwnWrite) : Type 0 where
  pub held : seat_of seats c ≡ Some seat
  pub unmarked : is_marked seat ≡ false
  pub opened : seat.transaction ≡ Some t
  pub writes : t.kind ≡ kind.ReadWrite
  pub no_plan : seat.hand.plan.pairs ≡ []
  pub no_pair : seat.hand.undo.pairs ≡ []
  pub no_latch : seat.latches ≡ 0
  pub rolls : seat.condemned ≡ None → seat.hand.phase ≡ phase.RollingBack
  pub own_is : seat.hand.own.items ≡ first ∷ rest
  pub ordered : AreOrdered (first ∷ rest)
