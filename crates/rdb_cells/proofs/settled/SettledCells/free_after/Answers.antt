use Rattle.std.proofs.Common.{Bor, map}
use Rattle.rdb_cells.specs.declared.undo.Undo.{Undo}
use Rattle.rdb_cells.proofs.SettledLemmas.{settled_cell}
use Rattle.rdb_cells.proofs.UndoneLemmas.{undone_lowest}
use Rattle.rdb_cells.proofs.FreeLemmas.{found_lowest, none_lowest, cell_when_logged, cell_when_free}
use Rattle.rdb_cells.specs.Records.{settled}
use Rattle.rdb_cells.proofs.settled.SettledCells.free_after.Goals as goal

pub lowest_below-below-requires : goal.lowest_below-below-requires
lowest_below-below-requires g c =
    let s = c.self.inside in
    rw (← c.self.view_is)
    (λ n free. settled_cell (map (λ (r : Bor Undo). r.now.pairs) s.records.now) (g.C.Cells.image s.cells) n (cell_when_free (g.C.Cells.image s.cells) (g.C.Cells.class_of s.cells) c.args.class n free))

pub lowest_logged-requires : goal.lowest_logged-requires
lowest_logged-requires g c =
    let s = c.self.inside in
    rw (← c.self.view_is)
    (λ n named. cell_when_logged (map (λ (r : Bor Undo). r.now.pairs) s.records.now) (g.C.Cells.image s.cells) n named)

pub returns-clause-found : goal.returns-clause-found
returns-clause-found g c =
    let s = c.args.self.now in
    found_lowest (settled s.records (g.C.Cells.image s.cells)) (g.C.Cells.class_of s.cells) c.args.class c.args.at.number c.sooner.result
    (undone_lowest g.C.Cells.image g.C.Cells.class_of _ _ c.self.view_is c.args.class c.args.at.number c.lowest_logged.result c.lowest_below-below.result c.sooner.result c.lowest_logged.ensures c.lowest_below-below.ensures c.sooner.ensures)

pub returns-clause-none : goal.returns-clause-none
returns-clause-none g c =
    let s = c.args.self.now in
    none_lowest (settled s.records (g.C.Cells.image s.cells)) (g.C.Cells.class_of s.cells) c.args.class c.args.at.number c.sooner.result
    (undone_lowest g.C.Cells.image g.C.Cells.class_of _ _ c.self.view_is c.args.class c.args.at.number c.lowest_logged.result c.lowest_below-below.result c.sooner.result c.lowest_logged.ensures c.lowest_below-below.ensures c.sooner.ensures)
