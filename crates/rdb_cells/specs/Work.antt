-- The work on a plan over cells, as an index and its callers see it, whatever the cells are.
use Rattle.std.specs.Prelude.{◌≡◌, ◌+◌, ◌<◌, ◌↔◌, ℕ, List, Option}
use Rattle.rdb_cells.specs.declared.cells.Cells.{Ghosts}
use Rattle.rdb_cells.specs.declared.pairs.Pair.{Pair}
use Rattle.rdb_cells.specs.Images.{Image, IsFree}
use Rattle.rdb_cells.specs.Links.{IsAmong}
use Rattle.rdb_cells.specs.Overlays.{Laid}
use Rattle.rdb_cells.specs.Records.{planned}
use Rattle.rdb_cells.specs.Untaken.{IsUntaken, HasUntaken}

-- what the cells below hold and to which classes they belong, the plan over them, the class of the work, and the last cell
-- that was taken
pub record Work : Type 0 where
  pub below : Image
  pub class_of : ℕ → Option ℕ
  pub pairs : List Pair
  pub room : ℕ
  pub class : ℕ
  pub taken : ℕ

abbrev pub work : {C : Type 0} → Ghosts C → Laid C → Work
work cells laid = record {
  below = cells.image laid.cells;
  class_of = cells.class_of laid.cells;
  pairs = laid.plan.pairs;
  room = laid.plan.room;
  class = laid.class;
  taken = laid.taken.number;
}

-- what is read through the plan
abbrev pub reading : Work → Image
reading w = planned w.pairs w.below

-- the cell is read as a free one of the class
abbrev pub IsBlank : Work → ℕ → Type 0
IsBlank w n = IsFree (reading w) w.class_of w.class n

-- the work can still take the cell
abbrev pub IsLeft : Work → ℕ → Type 0
IsLeft w n = IsUntaken w.pairs w.below w.class_of w.class w.taken n

-- the work can still take so many cells
abbrev pub HasLeft : Work → ℕ → Type 0
HasLeft w many = HasUntaken w.pairs w.below w.class_of w.class w.taken many

-- the cells below, the class and the plan's room are as before
pub record GoesOn (before after : Work) : Type 0 where
  pub below : after.below ≡ before.below
  pub classes : after.class_of ≡ before.class_of
  pub class : after.class ≡ before.class
  pub room : after.room ≡ before.room

-- so many cells at most were taken, and none can be taken that couldn't be before
pub record TakesAtMost (most : ℕ) (before after : Work) : Type 0 where
  pub enough : (count : ℕ) → HasLeft before (count + most) → HasLeft after count
  pub no_more : (n : ℕ) → IsLeft after n → IsLeft before n

-- the same cells can be taken as before
abbrev pub TakesNone : Work → Work → Type 0
TakesNone before after = (n : ℕ) → IsLeft after n ↔ IsLeft before n

-- Of the cells that could be taken, those among these were taken and no others, the lowest first: what is left now is what
-- was left before without them, and stands above them.
pub record TakesLowest (before after : Work) (cells : List ℕ) : Type 0 where
  pub left : (n : ℕ) → IsLeft after n ↔ (IsLeft before n × (¬ IsAmong cells n))
  pub above : (m n : ℕ) → IsAmong cells m → IsLeft before m → IsLeft after n → m < n
