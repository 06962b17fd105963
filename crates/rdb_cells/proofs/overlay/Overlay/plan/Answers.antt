use Rattle.rdb_cells.proofs.ChangeLemmas.{plan_changed, plan_reads, plan_cells}
use Rattle.rdb_cells.proofs.overlay.Overlay.plan.Goals as goal

pub returns-clause-changed : goal.returns-clause-changed
returns-clause-changed g c =
    let o = c.self.inside in
    rw (← c.self.view_is)
    (plan_changed (g.C.Cells.image o.cells) o.plan.pairs c.reverse_changes.new.self.pairs c.each_once.ensures.once c.reverse_changes.ensures.changes)

pub returns-clause-reading : goal.returns-clause-reading
returns-clause-reading g c =
    let o = c.self.inside in
    rw (← c.self.view_is)
    (plan_reads (g.C.Cells.image o.cells) o.plan.pairs c.reverse_changes.new.self.pairs c.each_once.ensures.once c.reverse_changes.ensures.changes)

pub returns-clause-cells : goal.returns-clause-cells
returns-clause-cells g c =
    let o = c.self.inside in
    rw (← c.self.view_is)
    (plan_cells (g.C.Cells.image o.cells) o.plan.pairs c.reverse_changes.new.self.pairs c.each_once.ensures.once c.reverse_changes.ensures.changes c.self.invariant)
