use Rattle.std.proofs.Common.{◌≡◌, refl, ap, ◌∙◌}
use Rattle.rdb_pages.specs.declared.cell.Cell.{Cell}
use Rattle.rdb_cells.specs.HeadFormat.{index_head_cell, rooted_head}
use Rattle.rdb_cells.specs.Work.{Work, work}
use Rattle.rdb_cells.proofs.WorkLemmas.{take_is}
use Rattle.rdb_rtree.specs.Changes.{with_cell, cell_of}
use Rattle.rdb_rtree.proofs.insert.plant.Goals as goal

pub returns-clause-planted : goal.returns-clause-planted
returns-clause-planted g c =
    let top = c.take-top.result in
    let cell = cell_of c.args.level c.put_node-root.result.cover c.args.entries.now in
    let taken = take_is g.C.Cells c.args.cells.now c.take-top.new.self (work g.C.Cells c.args.cells.now) c.take-top.result refl c.take-top.ensures.taken in
    let leads : c.to_cell.result ≡ index_head_cell (rooted_head c.take-top.result) = c.to_cell.ensures.value ∙ ap index_head_cell c.rooted.ensures in
    record {
      top = c.take-top.result;
      cover = c.put_node-root.result.cover;
      lowest = c.take-top.ensures.lowest;
      covers = c.put_node-root.ensures.cover;
      proper = c.put_node-root.ensures.proper;
      work =
          c.put_cell.ensures.work
          ∙ ap (λ (v : Work). with_cell v c.args.head c.to_cell.result) (c.put_node-root.ensures.work ∙ ap (λ (v : Work). with_cell v c.take-top.result (cell_of c.args.level c.put_node-root.result.cover c.args.entries.now)) taken)
          ∙ ap (λ (k : Cell). with_cell (with_cell (record (work g.C.Cells c.args.cells.now) { taken = c.take-top.result.number }) c.take-top.result (cell_of c.args.level c.put_node-root.result.cover c.args.entries.now)) c.args.head k) leads;
    }
