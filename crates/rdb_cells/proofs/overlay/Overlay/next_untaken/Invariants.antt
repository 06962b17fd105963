use Rattle.std.proofs.Common.{◌-◌}
use Rattle.rdb_cells.proofs.UntakenLemmas.{HasSkipped}
use Rattle.rdb_cells.proofs.overlay.Overlay.next_untaken.Given as goal

abbrev pub invariant-loop-next : goal.invariant-loop-next
invariant-loop-next g l = HasSkipped l.self.plan.pairs (g.C.Cells.image l.self.cells) (g.C.Cells.class_of l.self.cells) l.self.class l.self.taken.number l.last.number

abbrev pub decreases-loop-next : goal.decreases-loop-next
decreases-loop-next g l = 4294967296 - l.last.number
