-- What each step does to the cells and to one connection's record, and what it leaves of the settled image and of the image aimed at.
use Rattle.std.specs.Prelude.{◌≡◌, ◌∷◌, ◌++◌, ◌&&◌, ◌==◌, ℕ, [], length, Bool, true, false, Some, if◌then◌else◌}
use Rattle.rdb_base.specs.declared.identity.ConnId.{ConnId}
use Rattle.rdb_base.specs.declared.identity.Manager.{Manager}
use Rattle.rdb_base.specs.declared.identity.Manager.TheVariants as manager
use Rattle.rdb_cells.specs.declared.pairs.Pair.{Pair}
use Rattle.rdb_cells.specs.Images.{Image, SameImage, Writes}
use Rattle.rdb_cells.specs.Records.{planned, Logs, KeepsSettled}
use Rattle.rdb_registry.specs.declared.hand.Hand.{Hand}
use Rattle.rdb_registry.specs.declared.seat.Seat.{Seat}
use Rattle.rdb_registry.specs.Seats.{seat_of, with_hand}
use Rattle.rdb_writes.specs.Grounds.{Ground, HasPlaces, IsLatched, settled_image, aimed_image}

-- an undo record spans one plan, and not a whole transaction
abbrev pub spans_one_plan : Manager → Bool
spans_one_plan manager.Mursiw = false
spans_one_plan manager.Mvcc = true

-- nothing is left of the plan
abbrev pub is_written : Hand → Bool
is_written hand = length hand.plan.pairs == 0

-- the plan is written, and the undo record spanned that plan
abbrev pub ends : Manager → Hand → Bool
ends manager hand = is_written hand && spans_one_plan manager

-- the hand with an empty undo record
abbrev pub forgetting : Hand → Hand
forgetting hand = record hand { undo = record hand.undo { pairs = [] } }

-- the hand with an empty undo record, where its plan is written and the record spanned that plan
abbrev pub ended : Manager → Hand → Hand
ended manager hand = if ends manager hand then forgetting hand else hand

-- A connection's record has another undo record and another plan. All other records stay, and so do the classes of the cells.
pub record Works (before after : Ground) (c : ConnId) (seat : Seat) (hand : Hand) : Type 0 where
  pub held : seat_of before.seats c ≡ Some seat
  pub records : after.seats ≡ with_hand before.seats c.slot hand
  pub rest : hand ≡ record seat.hand { undo = hand.undo; plan = hand.plan }
  pub classes : (n : ℕ) → after.class_of n ≡ before.class_of n

-- The newest pair of a hand's plan is written, and logged first where the undo record lacks its cell. Once all is taken back the cells hold
-- what they did, and once the plan is written they will hold what they would.
pub record WritesPlanned (image_before image_after : Image) (before after : Hand) (next : Pair) : Type 0 where
  pub plan : before.plan ≡ record after.plan { pairs = after.plan.pairs ++ next ∷ [] }
  pub rest : after ≡ record before { undo = after.undo; plan = after.plan }
  pub written : Writes image_before image_after next.at.number next.cell
  pub logged : Logs before.undo after.undo image_before next.at.number
  pub settled : KeepsSettled before.undo.pairs after.undo.pairs image_before image_after next.at.number
  pub aimed : SameImage (planned after.plan.pairs image_after) (planned before.plan.pairs image_before)
  pub places : HasPlaces after

-- Of the cells of the connection's classes: they will hold, once its plan is written, what they would.
-- Once all is taken back the cells hold what they did; but with the last cell of a plan that the undo record spans, those of the
-- connection's classes hold what the plan aimed at.
pub record Reaches (reached : Bool) (before after : Ground) (seat : Seat) (hand : Hand) : Type 0 where
  pub aimed : SameImage (aimed_image after hand) (aimed_image before seat.hand)
  pub settled : reached ≡ false → SameImage (settled_image after) (settled_image before)
  pub own : reached ≡ true → (n : ℕ) → IsLatched before seat n → settled_image after n ≡ aimed_image before seat.hand n
  pub others : (n : ℕ) → ¬ IsLatched before seat n → settled_image after n ≡ settled_image before n

-- A connection writes the next cell of its plan.
pub record WritesNext (manager : Manager) (before after : Ground) (c : ConnId) (is_last : Bool) : Type 0 where
  pub seat : Seat
  pub written : Hand
  pub next : Pair
  pub works : Works before after c seat (ended manager written)
  pub planned : WritesPlanned before.image after.image seat.hand written next
  pub latched : IsLatched before seat next.at.number
  pub last : is_last ≡ is_written written
  pub reaches : Reaches (ends manager written) before after seat (ended manager written)

-- A connection's newest pair is taken back, and its plan is given up. Once all is taken back the cells hold what they did.
pub record TakesNewestBack (before after : Ground) (c : ConnId) : Type 0 where
  pub seat : Seat
  pub hand : Hand
  pub newest : Pair
  pub works : Works before after c seat hand
  pub shorter : seat.hand.undo ≡ record hand.undo { pairs = hand.undo.pairs ++ newest ∷ [] }
  pub plan : hand.plan ≡ record seat.hand.plan { pairs = [] }
  pub latched : IsLatched before seat newest.at.number
  pub written : Writes before.image after.image newest.at.number newest.cell
  pub settled : SameImage (settled_image after) (settled_image before)
