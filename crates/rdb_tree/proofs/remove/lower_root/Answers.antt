use Rattle.std.proofs.Common.{List, slice_get, ap, ap₂, ◌∙◌, arith}
use Rattle.std.specs.Option.{unwrap_or}
use Rattle.rdb_pages.specs.declared.cell.Cell.{Cell}
use Rattle.rdb_pages.specs.declared.cell.CellRef.{CellRef}
use Rattle.rdb_cells.specs.HeadFormat.{index_head_cell, rooted_head}
use Rattle.rdb_cells.specs.declared.formats.tree.TreeNode.{TreeNode}
use Rattle.rdb_cells.specs.Words.{no_ref}
use Rattle.rdb_cells.specs.Work.{Work, work, reading}
use Rattle.rdb_tree.specs.Changes.{with_cell}
use Rattle.rdb_tree.proofs.ChangeLemmas.{node_cell, node_few, node_children, node_read}
use Rattle.rdb_tree.proofs.RemoveLemmas.{root_stays, root_goes}
use Rattle.rdb_tree.proofs.remove.lower_root.Goals as goal

pub node_at-node-requires : goal.node_at-node-requires
node_at-node-requires g c = node_cell (reading (work g.C.Cells c.args.cells.now)) c.args.root c.requires.root.0 c.requires.root.1 c.requires.root.2

pub returns-then-node-gt0-clause-lowers : goal.returns-then-node-gt0-clause-lowers
returns-then-node-gt0-clause-lowers g c = λ keys children is.
    let read = node_read (reading (work g.C.Cells c.args.cells.now)) c.args.root keys children is c.node_at-node.result c.node_at-node.ensures in
    let count = ap (λ (n : TreeNode). n.count) read in
    let some = c.if-node-gt0.true in
    root_stays (work g.C.Cells c.args.cells.now) c.args.head c.args.root keys children (omega arith)

pub child_at-top-requires : goal.child_at-top-requires
child_at-top-requires g c = node_few (reading (work g.C.Cells c.args.cells.now)) c.args.root c.requires.root.0 c.requires.root.1 c.requires.root.2 c.node_at-node.result c.node_at-node.ensures

pub put_cell-requires-clause-at : goal.put_cell-requires-clause-at
put_cell-requires-clause-at g c = node_cell (reading (work g.C.Cells c.args.cells.now)) c.args.root c.requires.root.0 c.requires.root.1 c.requires.root.2

pub returns-clause-lowers : goal.returns-clause-lowers
returns-clause-lowers g c = λ keys children is.
    let read = node_read (reading (work g.C.Cells c.args.cells.now)) c.args.root keys children is c.node_at-node.result c.node_at-node.ensures in
    let count = ap (λ (n : TreeNode). n.count) read in
    let none = c.if-node-gt0.false in
    let top = c.child_at-top.ensures ∙ ap (λ (cs : List CellRef). unwrap_or (slice_get cs 0) no_ref) (node_children (reading (work g.C.Cells c.args.cells.now)) c.args.root keys children is c.node_at-node.result c.node_at-node.ensures) in
    root_goes (work g.C.Cells c.args.cells.now) (work g.C.Cells c.put_cell-2.new.cells) c.args.head c.args.root keys children (omega arith)
    (c.put_cell-2.ensures.work ∙ ap₂ (λ (v : Work) (d : Cell). with_cell v c.args.head d) c.put_cell.ensures.work (c.to_cell.ensures.value ∙ ap index_head_cell (c.rooted.ensures ∙ ap rooted_head top)))
