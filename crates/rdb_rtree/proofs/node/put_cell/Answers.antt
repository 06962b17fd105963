use Rattle.std.proofs.Common.{◌≤◌, ◌+◌, length, refl, sym, subst}
use Rattle.rdb_cells.specs.Images.{IsCell}
use Rattle.rdb_cells.specs.Work.{Work, work, reading}
use Rattle.rdb_cells.proofs.WorkLemmas.{put_is, put_longer}
use Rattle.rdb_rtree.proofs.NodeLemmas.{still_cell}
use Rattle.rdb_rtree.proofs.node.put_cell.Goals as goal

pub returns-clause-work : goal.returns-clause-work
returns-clause-work g c = put_is g.C.Cells c.args.cells.now c.put.new.self (work g.C.Cells c.args.cells.now) c.args.at c.args.cell refl c.put.ensures.plan

pub returns-clause-cells : goal.returns-clause-cells
returns-clause-cells g c = λ n there.
    subst (λ (v : Work). IsCell (reading v) n) (sym (put_is g.C.Cells c.args.cells.now c.put.new.self (work g.C.Cells c.args.cells.now) c.args.at c.args.cell refl c.put.ensures.plan)) (still_cell (work g.C.Cells c.args.cells.now) c.args.at c.args.cell n there)

pub returns-clause-places : goal.returns-clause-places
returns-clause-places g c =
    subst (λ (v : Work). length v.pairs ≤ length (work g.C.Cells c.args.cells.now).pairs + 1) (sym (put_is g.C.Cells c.args.cells.now c.put.new.self (work g.C.Cells c.args.cells.now) c.args.at c.args.cell refl c.put.ensures.plan)) (put_longer (work g.C.Cells c.args.cells.now).pairs (record { at = c.args.at; cell = c.args.cell }))
