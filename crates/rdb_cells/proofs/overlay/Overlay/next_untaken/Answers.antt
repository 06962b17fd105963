use Rattle.rdb_cells.proofs.UntakenLemmas.{skipped-init}
use Rattle.rdb_cells.proofs.overlay.Overlay.next_untaken.Goals as goal

pub loop-next-init : goal.loop-next-init
loop-next-init g c = let o = c.self.inside in rw (← c.self.view_is) (skipped-init o.plan.pairs (g.C.Cells.image o.cells) (g.C.Cells.class_of o.cells) o.class o.taken.number)
