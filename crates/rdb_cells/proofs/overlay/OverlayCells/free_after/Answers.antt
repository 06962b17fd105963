use Rattle.std.proofs.Common.{◌≡◌, List, true, subst}
use Rattle.rdb_cells.specs.declared.pairs.Pair.{Pair}
use Rattle.rdb_cells.specs.Records.{planned, names}
use Rattle.rdb_cells.proofs.FreeLemmas.{found_lowest, none_lowest, cell_when_planned, cell_when_named, cell_when_free}
use Rattle.rdb_cells.proofs.OverlayLemmas.{laid_lowest}
use Rattle.rdb_cells.proofs.overlay.OverlayCells.free_after.Goals as goal

pub lowest_below-below-requires : goal.lowest_below-below-requires
lowest_below-below-requires g c =
    let o = c.self.inside in
    rw (← c.self.view_is)
    (λ n free. cell_when_planned o.plan.pairs (g.C.Cells.image o.cells) n (cell_when_free (g.C.Cells.image o.cells) (g.C.Cells.class_of o.cells) c.args.class n free))

pub lowest_named-requires : goal.lowest_named-requires
lowest_named-requires g c =
    let o = c.self.inside in
    rw (← c.self.view_is)
    (λ n named. cell_when_named o.plan.pairs (g.C.Cells.image o.cells) n (subst (λ (ps : List Pair). names ps n ≡ true) c.as_slice.ensures named))

pub returns-clause-found : goal.returns-clause-found
returns-clause-found g c =
    let o = c.args.self.now in
    found_lowest (planned o.plan.pairs (g.C.Cells.image o.cells)) (g.C.Cells.class_of o.cells) c.args.class c.args.at.number c.sooner.result
    (laid_lowest g.C.Cells.image g.C.Cells.class_of _ o c.self.view_is c.args.class c.args.at.number _ c.lowest_named.result c.lowest_below-below.result c.sooner.result c.as_slice.ensures c.lowest_named.ensures c.lowest_below-below.ensures c.sooner.ensures)

pub returns-clause-none : goal.returns-clause-none
returns-clause-none g c =
    let o = c.args.self.now in
    none_lowest (planned o.plan.pairs (g.C.Cells.image o.cells)) (g.C.Cells.class_of o.cells) c.args.class c.args.at.number c.sooner.result
    (laid_lowest g.C.Cells.image g.C.Cells.class_of _ o c.self.view_is c.args.class c.args.at.number _ c.lowest_named.result c.lowest_below-below.result c.sooner.result c.as_slice.ensures c.lowest_named.ensures c.lowest_below-below.ensures c.sooner.ensures)
