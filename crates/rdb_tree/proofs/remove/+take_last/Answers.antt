use Rattle.std.proofs.Common.{◌-◌, List, length, take, slice_get, sym, ap, ap₂, ◌∙◌, arith}
use Rattle.std.proofs.lemmas.List.{length-take-le}
use Rattle.std.specs.Option.{unwrap_or}
use Rattle.rdb_pages.specs.declared.cell.CellRef.{CellRef}
use Rattle.rdb_cells.specs.declared.formats.tree.TreeNode.{TreeNode}
use Rattle.rdb_cells.specs.Words.{no_ref}
use Rattle.rdb_cells.specs.Work.{work, reading}
use Rattle.rdb_tree.specs.Trees.{roots, least_keys}
use Rattle.rdb_tree.proofs.ChangeLemmas.{node_cell, node_few, node_keys, node_children, node_read}
use Rattle.rdb_tree.proofs.LossLemmas.{branch_node}
use Rattle.rdb_tree.proofs.LastLemmas.{last_of_leaf, last_below, last_short, last_room, last_ends}
use Rattle.rdb_tree.proofs.NodeLemmas.{few_keys}
use Rattle.rdb_tree.proofs.remove.+take_last.Goals as goal

pub node_at-node-requires : goal.node_at-node-requires
node_at-node-requires g m c =
    node_cell (reading (work g.C.Cells c.args.cells.now)) c.args.at c.requires.tree.1.keys (roots c.requires.tree.0 c.requires.tree.1.children) (branch_node (reading (work g.C.Cells c.args.cells.now)) c.args.at least_keys c.requires.tree.0 c.requires.tree.1 c.requires.tree.2)

pub keys_of-versions-requires : goal.keys_of-versions-requires
keys_of-versions-requires g m c =
    node_few (reading (work g.C.Cells c.args.cells.now)) c.args.at c.requires.tree.1.keys (roots c.requires.tree.0 c.requires.tree.1.children) (branch_node (reading (work g.C.Cells c.args.cells.now)) c.args.at least_keys c.requires.tree.0 c.requires.tree.1 c.requires.tree.2) c.node_at-node.result c.node_at-node.ensures

pub overflow_sub-place : goal.overflow_sub-place
overflow_sub-place g m c =
    let same = (ap (length {A = CellRef}) (c.keys_of-versions.ensures ∙ node_keys (reading (work g.C.Cells c.args.cells.now)) c.args.at c.requires.tree.1.keys (roots c.requires.tree.0 c.requires.tree.1.children) (branch_node (reading (work g.C.Cells c.args.cells.now)) c.args.at least_keys c.requires.tree.0 c.requires.tree.1 c.requires.tree.2) c.node_at-node.result c.node_at-node.ensures)) in let enough = (few_keys c.requires.tree.0 least_keys c.requires.tree.1 c.requires.tree.2.shape).enough in omega arith

pub put_node-requires-clause-at : goal.put_node-requires-clause-at
put_node-requires-clause-at g m c =
    node_cell (reading (work g.C.Cells c.args.cells.now)) c.args.at c.requires.tree.1.keys (roots c.requires.tree.0 c.requires.tree.1.children) (branch_node (reading (work g.C.Cells c.args.cells.now)) c.args.at least_keys c.requires.tree.0 c.requires.tree.1 c.requires.tree.2)

pub put_node-requires-clause-versions : goal.put_node-requires-clause-versions
put_node-requires-clause-versions g m c =
    let same = (ap (length {A = CellRef}) (c.keys_of-versions.ensures ∙ node_keys (reading (work g.C.Cells c.args.cells.now)) c.args.at c.requires.tree.1.keys (roots c.requires.tree.0 c.requires.tree.1.children) (branch_node (reading (work g.C.Cells c.args.cells.now)) c.args.at least_keys c.requires.tree.0 c.requires.tree.1 c.requires.tree.2) c.node_at-node.result c.node_at-node.ensures)) in let few = ap (length {A = CellRef}) c.split_at.ensures.front in let within = (few_keys c.requires.tree.0 least_keys c.requires.tree.1 c.requires.tree.2.shape).fit in let short = length-take-le (length c.keys_of-versions.result.now - 1) c.keys_of-versions.result.now (omega arith) in omega arith

pub key_at-last-requires : goal.key_at-last-requires
key_at-last-requires g m c =
    node_few (reading (work g.C.Cells c.args.cells.now)) c.args.at c.requires.tree.1.keys (roots c.requires.tree.0 c.requires.tree.1.children) (branch_node (reading (work g.C.Cells c.args.cells.now)) c.args.at least_keys c.requires.tree.0 c.requires.tree.1 c.requires.tree.2) c.node_at-node.result c.node_at-node.ensures

pub returns-then-node-clause-last : goal.returns-then-node-clause-last
returns-then-node-clause-last g m c =
    λ h t branch. last_of_leaf (work g.C.Cells c.args.cells.now) (work g.C.Cells c.put_node.new.cells) c.args.at h t c.split_at.result.0.now c.key_at-last.result branch (sym (ap (λ (n : TreeNode). n.leaf) (node_read (reading (work g.C.Cells c.args.cells.now)) c.args.at t.keys (roots h t.children) (branch_node (reading (work g.C.Cells c.args.cells.now)) c.args.at least_keys h t branch) c.node_at-node.result c.node_at-node.ensures)) ∙ c.if-node.true) (c.split_at.ensures.front ∙ ap (λ (ks : List CellRef). take (length ks - 1) ks) (c.keys_of-versions.ensures ∙ node_keys (reading (work g.C.Cells c.args.cells.now)) c.args.at t.keys (roots h t.children) (branch_node (reading (work g.C.Cells c.args.cells.now)) c.args.at least_keys h t branch) c.node_at-node.result c.node_at-node.ensures)) (c.key_at-last.ensures ∙ ap₂ (λ (xs ks : List CellRef). unwrap_or (slice_get ks (length xs - 1)) no_ref) (c.keys_of-versions.ensures ∙ node_keys (reading (work g.C.Cells c.args.cells.now)) c.args.at t.keys (roots h t.children) (branch_node (reading (work g.C.Cells c.args.cells.now)) c.args.at least_keys h t branch) c.node_at-node.result c.node_at-node.ensures) (node_keys (reading (work g.C.Cells c.args.cells.now)) c.args.at t.keys (roots h t.children) (branch_node (reading (work g.C.Cells c.args.cells.now)) c.args.at least_keys h t branch) c.node_at-node.result c.node_at-node.ensures)) c.put_node.ensures.work

pub child_at-requires : goal.child_at-requires
child_at-requires g m c =
    node_few (reading (work g.C.Cells c.args.cells.now)) c.args.at c.requires.tree.1.keys (roots c.requires.tree.0 c.requires.tree.1.children) (branch_node (reading (work g.C.Cells c.args.cells.now)) c.args.at least_keys c.requires.tree.0 c.requires.tree.1 c.requires.tree.2) c.node_at-node.result c.node_at-node.ensures

pub take_last-last-requires : goal.take_last-last-requires
take_last-last-requires g m c κs within =
    let below = last_below (work g.C.Cells c.args.cells.now) c.args.at (length c.keys_of-versions.result.now) c.child_at.result c.args.levels c.requires.tree.0 c.requires.tree.1 c.requires.tree.2 c.requires.tree.3 (sym (ap (λ (n : TreeNode). n.leaf) (node_read (reading (work g.C.Cells c.args.cells.now)) c.args.at c.requires.tree.1.keys (roots c.requires.tree.0 c.requires.tree.1.children) (branch_node (reading (work g.C.Cells c.args.cells.now)) c.args.at least_keys c.requires.tree.0 c.requires.tree.1 c.requires.tree.2) c.node_at-node.result c.node_at-node.ensures)) ∙ c.if-node.false) (ap (length {A = CellRef}) (c.keys_of-versions.ensures ∙ node_keys (reading (work g.C.Cells c.args.cells.now)) c.args.at c.requires.tree.1.keys (roots c.requires.tree.0 c.requires.tree.1.children) (branch_node (reading (work g.C.Cells c.args.cells.now)) c.args.at least_keys c.requires.tree.0 c.requires.tree.1 c.requires.tree.2) c.node_at-node.result c.node_at-node.ensures)) (c.child_at.ensures ∙ ap (λ (cs : List CellRef). unwrap_or (slice_get cs (length c.keys_of-versions.result.now)) no_ref) (node_children (reading (work g.C.Cells c.args.cells.now)) c.args.at c.requires.tree.1.keys (roots c.requires.tree.0 c.requires.tree.1.children) (branch_node (reading (work g.C.Cells c.args.cells.now)) c.args.at least_keys c.requires.tree.0 c.requires.tree.1 c.requires.tree.2) c.node_at-node.result c.node_at-node.ensures)) in
    let low = c.requires.tree.3 in
    let falls = c.decreases in
    let room = c.requires.places in
    (omega arith, (within, (below, omega arith)))

pub mend-requires-clause-short : goal.mend-requires-clause-short
mend-requires-clause-short g m c =
    last_short (work g.C.Cells c.args.cells.now) c.args.at (length c.keys_of-versions.result.now) c.child_at.result (work g.C.Cells c.take_last-last.new.cells) c.take_last-last.result c.args.levels c.requires.tree.0 c.requires.tree.1 c.requires.tree.2 c.requires.tree.3 (sym (ap (λ (n : TreeNode). n.leaf) (node_read (reading (work g.C.Cells c.args.cells.now)) c.args.at c.requires.tree.1.keys (roots c.requires.tree.0 c.requires.tree.1.children) (branch_node (reading (work g.C.Cells c.args.cells.now)) c.args.at least_keys c.requires.tree.0 c.requires.tree.1 c.requires.tree.2) c.node_at-node.result c.node_at-node.ensures)) ∙ c.if-node.false) (ap (length {A = CellRef}) (c.keys_of-versions.ensures ∙ node_keys (reading (work g.C.Cells c.args.cells.now)) c.args.at c.requires.tree.1.keys (roots c.requires.tree.0 c.requires.tree.1.children) (branch_node (reading (work g.C.Cells c.args.cells.now)) c.args.at least_keys c.requires.tree.0 c.requires.tree.1 c.requires.tree.2) c.node_at-node.result c.node_at-node.ensures)) (c.child_at.ensures ∙ ap (λ (cs : List CellRef). unwrap_or (slice_get cs (length c.keys_of-versions.result.now)) no_ref) (node_children (reading (work g.C.Cells c.args.cells.now)) c.args.at c.requires.tree.1.keys (roots c.requires.tree.0 c.requires.tree.1.children) (branch_node (reading (work g.C.Cells c.args.cells.now)) c.args.at least_keys c.requires.tree.0 c.requires.tree.1 c.requires.tree.2) c.node_at-node.result c.node_at-node.ensures)) c.take_last-last.ensures.last

pub mend-requires-clause-places : goal.mend-requires-clause-places
mend-requires-clause-places g m c =
    last_room (work g.C.Cells c.args.cells.now) c.args.at (length c.keys_of-versions.result.now) c.child_at.result (work g.C.Cells c.take_last-last.new.cells) c.take_last-last.result c.args.levels c.requires.tree.0 c.requires.tree.1 c.requires.tree.2 c.requires.tree.3 (sym (ap (λ (n : TreeNode). n.leaf) (node_read (reading (work g.C.Cells c.args.cells.now)) c.args.at c.requires.tree.1.keys (roots c.requires.tree.0 c.requires.tree.1.children) (branch_node (reading (work g.C.Cells c.args.cells.now)) c.args.at least_keys c.requires.tree.0 c.requires.tree.1 c.requires.tree.2) c.node_at-node.result c.node_at-node.ensures)) ∙ c.if-node.false) (ap (length {A = CellRef}) (c.keys_of-versions.ensures ∙ node_keys (reading (work g.C.Cells c.args.cells.now)) c.args.at c.requires.tree.1.keys (roots c.requires.tree.0 c.requires.tree.1.children) (branch_node (reading (work g.C.Cells c.args.cells.now)) c.args.at least_keys c.requires.tree.0 c.requires.tree.1 c.requires.tree.2) c.node_at-node.result c.node_at-node.ensures)) (c.child_at.ensures ∙ ap (λ (cs : List CellRef). unwrap_or (slice_get cs (length c.keys_of-versions.result.now)) no_ref) (node_children (reading (work g.C.Cells c.args.cells.now)) c.args.at c.requires.tree.1.keys (roots c.requires.tree.0 c.requires.tree.1.children) (branch_node (reading (work g.C.Cells c.args.cells.now)) c.args.at least_keys c.requires.tree.0 c.requires.tree.1 c.requires.tree.2) c.node_at-node.result c.node_at-node.ensures)) c.take_last-last.ensures.last c.requires.places

pub returns-clause-last : goal.returns-clause-last
returns-clause-last g m c =
    λ h t branch. last_ends (work g.C.Cells c.args.cells.now) c.args.at (length c.keys_of-versions.result.now) c.child_at.result (work g.C.Cells c.take_last-last.new.cells) (work g.C.Cells c.mend.new.cells) c.take_last-last.result h t branch (sym (ap (λ (n : TreeNode). n.leaf) (node_read (reading (work g.C.Cells c.args.cells.now)) c.args.at t.keys (roots h t.children) (branch_node (reading (work g.C.Cells c.args.cells.now)) c.args.at least_keys h t branch) c.node_at-node.result c.node_at-node.ensures)) ∙ c.if-node.false) (ap (length {A = CellRef}) (c.keys_of-versions.ensures ∙ node_keys (reading (work g.C.Cells c.args.cells.now)) c.args.at t.keys (roots h t.children) (branch_node (reading (work g.C.Cells c.args.cells.now)) c.args.at least_keys h t branch) c.node_at-node.result c.node_at-node.ensures)) (c.child_at.ensures ∙ ap (λ (cs : List CellRef). unwrap_or (slice_get cs (length c.keys_of-versions.result.now)) no_ref) (node_children (reading (work g.C.Cells c.args.cells.now)) c.args.at t.keys (roots h t.children) (branch_node (reading (work g.C.Cells c.args.cells.now)) c.args.at least_keys h t branch) c.node_at-node.result c.node_at-node.ensures)) c.take_last-last.ensures.last c.mend.ensures.mended
