-- What the writes of connections are said of: the cells, and what each connection has in hand.
use Rattle.std.specs.Prelude.{◌≡◌, ◌≤◌, ◌+◌, ◌⊎◌, ℕ, List, [], length, map, count_by, not, Option, Some, None, true}
use Rattle.rdb_cells.specs.declared.cells.Cells.{Ghosts}
use Rattle.rdb_cells.specs.declared.pairs.Pair.{Pair}
use Rattle.rdb_cells.specs.Images.{Image}
use Rattle.rdb_cells.specs.Records.{names, planned, settled}
use Rattle.rdb_registry.specs.declared.hand.Hand.{Hand}
use Rattle.rdb_registry.specs.declared.seat.Seat.{Seat}
use Rattle.rdb_registry.specs.Registry.{Roll}
use Rattle.rdb_registry.specs.Seats.{Seats, seat_in, EachSeat, HoldsLatch}

-- what the cells hold and to which classes they belong, and the record of each slot
pub record Ground : Type 0 where
  pub image : Image
  pub class_of : ℕ → Option ℕ
  pub seats : Seats

abbrev pub ground : {C : Type 0} → Ghosts C → C → Roll → Ground
ground cells now roll = record { image = cells.image now; class_of = cells.class_of now; seats = roll.seats }

-- the pairs of the undo record in a slot
abbrev pub logged_in : Option Seat → List Pair
logged_in None = []
logged_in (Some seat) = seat.hand.undo.pairs

-- the undo records of all connections
abbrev pub undo_records : Seats → List (List Pair)
undo_records seats = map logged_in seats

-- what the cells hold once all unfinished work is taken back
abbrev pub settled_image : Ground → Image
settled_image g = settled (undo_records g.seats) g.image

-- what the cells will hold once what is left of a plan is written
abbrev pub aimed_image : Ground → Hand → Image
aimed_image g hand = planned hand.plan.pairs g.image

-- the cell is one of a class whose latch the connection holds
abbrev pub IsLatched : Ground → Seat → ℕ → Type 0
IsLatched g seat n = (class : ℕ) × (g.class_of n ≡ Some class) × HoldsLatch seat class

-- the undo record or the plan has the cell
abbrev pub WorksOn : Hand → ℕ → Type 0
WorksOn hand n = (names hand.undo.pairs n ≡ true) ⊎ (names hand.plan.pairs n ≡ true)

-- how many cells of the plan aren't logged
abbrev pub unlogged : Hand → ℕ
unlogged hand = count_by (λ p. not (names hand.undo.pairs p.at.number)) hand.plan.pairs

-- the undo record has a place for each of them
abbrev pub HasPlaces : Hand → Type 0
HasPlaces hand = length hand.undo.pairs + unlogged hand ≤ hand.undo.room

-- A connection works on cells of classes whose latch it holds, and can log each cell of its plan.
pub record IsWork (g : Ground) (seat : Seat) : Type 0 where
  pub latched : (n : ℕ) → WorksOn seat.hand n → IsLatched g seat n
  pub places : HasPlaces seat.hand

-- so does each
abbrev pub AreWorks : Ground → Type 0
AreWorks g = EachSeat (λ slot seat. IsWork g seat) g.seats

-- no two connections hold one latch
abbrev pub HaveOneHolder : Seats → Type 0
HaveOneHolder seats = (class i j : ℕ) (a b : Seat) → seat_in seats i ≡ Some a → seat_in seats j ≡ Some b
    → HoldsLatch a class → HoldsLatch b class → i ≡ j

-- no connection works on the cell
abbrev pub NoneWorksOn : Ground → ℕ → Type 0
NoneWorksOn g n = EachSeat (λ slot seat. ¬ WorksOn seat.hand n) g.seats
