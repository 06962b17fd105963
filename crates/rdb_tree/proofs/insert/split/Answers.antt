use Rattle.std.proofs.Common.{◌≡◌, take, drop, refl, ap, ap₂, ◌∙◌, arith}
use Rattle.rdb_pages.specs.declared.cell.Cell.{Cell}
use Rattle.rdb_cells.specs.TreeFormat.{tree_node_cell}
use Rattle.rdb_cells.specs.Work.{work}
use Rattle.rdb_cells.proofs.WorkLemmas.{put_work, take_work, put_is, take_is}
use Rattle.rdb_tree.specs.Changes.{cell_of}
use Rattle.rdb_tree.specs.Trees.{node_with}
use Rattle.rdb_tree.proofs.RowLemmas.{take_within}
use Rattle.rdb_tree.proofs.insert.split.Goals as goal

pub node_of-before-requires-clause-children : goal.node_of-before-requires-clause-children
node_of-before-requires-clause-children g c = let few = take_within 4 c.args.children.now c.halves_of.result.0.now c.halves_of.ensures.left in omega arith

pub returns-clause-work : goal.returns-clause-work
returns-clause-work g c =
    let w = (work g.C.Cells c.args.cells.now) in
    let right = c.take-right.result in
    let taken = take_is g.C.Cells c.args.cells.now c.take-right.new.self w right refl c.take-right.ensures.taken in
    let first = put_is g.C.Cells c.take-right.new.self c.put.new.self (take_work w right) right c.to_cell.result taken c.put.ensures.plan in
    let second = put_is g.C.Cells c.put.new.self c.put-2.new.self (put_work (take_work w right) right c.to_cell.result) c.args.at c.to_cell-2.result first c.put-2.ensures.plan in
    let behind : c.to_cell.result ≡ cell_of (drop 4 c.args.versions.now) (drop 4 c.args.children.now) =
    c.to_cell.ensures.value ∙ ap tree_node_cell (c.node_of-behind.ensures.node ∙ ap₂ node_with c.split_at.ensures.back c.halves_of.ensures.right) in
    let before : c.to_cell-2.result ≡ cell_of (take 3 c.args.versions.now) (take 4 c.args.children.now) =
    c.to_cell-2.ensures.value ∙ ap tree_node_cell (c.node_of-before.ensures.node ∙ ap₂ node_with c.split_at-2.ensures.front c.halves_of.ensures.left) in
    second ∙ ap₂ (λ (a b : Cell). put_work (put_work (take_work w right) right a) c.args.at b) behind before
