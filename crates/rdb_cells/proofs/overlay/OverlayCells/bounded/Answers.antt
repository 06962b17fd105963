use Rattle.rdb_cells.proofs.OverlayLemmas.{planned_bounded}
use Rattle.rdb_cells.proofs.overlay.OverlayCells.bounded.Goals as goal

pub returns : goal.returns
returns g c =
    let o = c.self.inside in
    rw (← c.self.view_is)
    (planned_bounded o.plan.pairs (g.C.Cells.image o.cells) (g.C.Cells.class_of o.cells) c.self.invariant c.bounded.ensures)
