use Rattle.std.proofs.Common.{Bor, map}
use Rattle.rdb_cells.specs.declared.undo.Undo.{Undo}
use Rattle.rdb_cells.proofs.UndoneLemmas.{settled_bounded}
use Rattle.rdb_cells.proofs.settled.SettledCells.bounded.Goals as goal

pub returns : goal.returns
returns g c =
    let s = c.self.inside in
    rw (← c.self.view_is)
    (settled_bounded (map (λ (r : Bor Undo). r.now.pairs) s.records.now) (g.C.Cells.image s.cells) (g.C.Cells.class_of s.cells) c.self.invariant c.bounded.ensures)
