use Rattle.std.proofs.Common.{ap, ◌∙◌}
use Rattle.rdb_pages.specs.Pages.{zero_cell}
use Rattle.rdb_pages.specs.declared.cell.Cell.{Cell}
use Rattle.rdb_cells.specs.HeadFormat.{index_head_cell}
use Rattle.rdb_cells.specs.Work.{Work, work}
use Rattle.rdb_rtree.specs.Changes.{with_cell}
use Rattle.rdb_rtree.proofs.remove.lead_to.Goals as goal

pub returns-clause-work : goal.returns-clause-work
returns-clause-work g c =
    c.put_cell-2.ensures.work
    ∙ ap (λ (v : Work). with_cell v c.args.head c.to_cell.result) c.put_cell.ensures.work
    ∙ ap (λ (k : Cell). with_cell (with_cell (work g.C.Cells c.args.cells.now) c.args.root zero_cell) c.args.head k) (c.to_cell.ensures.value ∙ ap index_head_cell c.rooted.ensures)
