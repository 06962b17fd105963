-- A plan goes on with cells of the class of its work alone.
use Rattle.std.specs.Prelude.{◌≡◌, ◌⊎◌, ℕ, Some}
use Rattle.rdb_cells.specs.Records.{content}
use Rattle.rdb_cells.specs.Work.{Work}

-- of every cell that isn't one of the class, the plan says what it said before
abbrev pub AddsOwnCells : Work → Work → Type 0
AddsOwnCells before after = (n : ℕ) → (content after.pairs n ≡ content before.pairs n) ⊎ (before.class_of n ≡ Some before.class)
