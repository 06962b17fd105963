use Rattle.std.proofs.Common.{ap, ◌∙◌}
use Rattle.rdb_cells.specs.TreeFormat.{tree_node_cell}
use Rattle.rdb_cells.specs.Work.{work}
use Rattle.rdb_tree.specs.Changes.{with_cell}
use Rattle.rdb_tree.proofs.remove.put_node.Goals as goal

pub returns-clause-work : goal.returns-clause-work
returns-clause-work g c =
    c.put_cell.ensures.work
    ∙ ap (with_cell (work g.C.Cells c.args.cells.now) c.args.at) (c.to_cell.ensures.value ∙ ap tree_node_cell c.node_of-node.ensures.node)
