-- The lowest free cell among some cells, as a search finds it.
use Rattle.std.specs.Prelude.{◌<◌, ℕ, Option, Some, None, nat_lt, if◌then◌else◌}
use Rattle.rdb_pages.specs.declared.cell.CellRef.{CellRef}
use Rattle.rdb_cells.specs.Images.{Image, IsFree}

-- the cell is free and stands above `start`, and no lower one above `start` is free that was looked at; none where no cell that
-- was looked at is free above `start`
abbrev pub IsLowestAmong : Image → (ℕ → Option ℕ) → ℕ → ℕ → (ℕ → Type 0) → Option CellRef → Type 0
IsLowestAmong image class_of of start Seen None = (n : ℕ) → Seen n → start < n → ¬ IsFree image class_of of n
IsLowestAmong image class_of of start Seen (Some r) = (start < r.number) × IsFree image class_of of r.number × ((n : ℕ) → Seen n → start < n → n < r.number → ¬ IsFree image class_of of n)

-- the lower of two cells that may be there
abbrev pub sooner_of : Option CellRef → Option CellRef → Option CellRef
sooner_of None b = b
sooner_of (Some r) None = Some r
sooner_of (Some r) (Some s) = if nat_lt s.number r.number then Some s else Some r
