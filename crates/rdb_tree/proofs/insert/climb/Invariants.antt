use Rattle.std.proofs.Common.{◌≡◌, Bool, length}
use Rattle.rdb_pages.specs.declared.cell.CellRef.{CellRef}
use Rattle.rdb_cells.specs.Work.{work, reading}
use Rattle.rdb_tree.specs.Growth.{IsWayDown, IsUnderway}
use Rattle.rdb_tree.specs.Trees.{Tree}
use Rattle.rdb_tree.proofs.insert.climb.Given as goal

abbrev pub invariant-loop-step : goal.invariant-loop-step
invariant-loop-step g l =
    ((near : CellRef → Bool) (whole : Tree) → IsWayDown (reading (work g.C.Cells l.initial.cells)) near whole l.initial.path.items →
    IsUnderway (work g.C.Cells l.initial.cells) (work g.C.Cells l.cells) near l.fn.version whole l.path.items l.raised)
    × (l.cells.cells ≡ l.initial.cells.cells)
    × (l.cells.class ≡ l.initial.cells.class)

abbrev pub decreases-loop-step : goal.decreases-loop-step
decreases-loop-step g l = length l.path.items
