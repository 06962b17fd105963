use Rattle.std.proofs.Common.{refl, ap, ap₂, ◌∙◌}
use Rattle.rdb_pages.specs.declared.cell.Cell.{Cell}
use Rattle.rdb_cells.specs.HeadFormat.{index_head_cell}
use Rattle.rdb_cells.specs.TreeFormat.{tree_node_cell}
use Rattle.rdb_cells.specs.Work.{work}
use Rattle.rdb_cells.proofs.WorkLemmas.{put_work, take_work, put_is, take_is}
use Rattle.rdb_tree.proofs.insert.grow.Goals as goal

pub returns-clause-root : goal.returns-clause-root
returns-clause-root g c =
    let w = (work g.C.Cells c.args.cells.now) in
    let top = c.take-top.result in
    let taken = take_is g.C.Cells c.args.cells.now c.take-top.new.self w top refl c.take-top.ensures.taken in
    let first = put_is g.C.Cells c.take-top.new.self c.put.new.self (take_work w top) top c.to_cell.result taken c.put.ensures.plan in
    let second = put_is g.C.Cells c.put.new.self c.put-2.new.self (put_work (take_work w top) top c.to_cell.result) c.args.head c.to_cell-2.result first c.put-2.ensures.plan in
    record {
      top = top;
      lowest = c.take-top.ensures.lowest;
      work = second ∙ ap₂ (λ (a b : Cell). put_work (put_work (take_work w top) top a) c.args.head b) (c.to_cell.ensures.value ∙ ap tree_node_cell c.node_of-node.ensures.node) (c.to_cell-2.ensures.value ∙ ap index_head_cell c.rooted.ensures);
    }
