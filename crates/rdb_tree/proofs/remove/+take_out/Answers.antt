use Rattle.std.proofs.Common.{◌≡◌, List, length, slice_get, Some, sym, ap, ap₂, subst, ◌∙◌, arith}
use Rattle.std.specs.List.{Contains, prefix_len}
use Rattle.std.specs.Option.{unwrap_or}
use Rattle.rdb_pages.specs.declared.cell.CellRef.{CellRef}
use Rattle.rdb_cells.specs.declared.formats.tree.TreeNode.{TreeNode}
use Rattle.rdb_cells.specs.Keys.{says}
use Rattle.rdb_cells.specs.Words.{no_ref}
use Rattle.rdb_cells.specs.Work.{work, reading}
use Rattle.rdb_tree.specs.Changes.{cell_of, with_cell, without, replaced_at}
use Rattle.rdb_tree.specs.Order.{is_before}
use Rattle.rdb_tree.specs.Trees.{roots}
use Rattle.rdb_tree.proofs.ChangeLemmas.{node_cell, node_few, node_keys, node_children, node_read, below_there, length_without, length_replaced}
use Rattle.rdb_tree.proofs.LossLemmas.{branch_node}
use Rattle.rdb_tree.proofs.NodeLemmas.{few_keys}
use Rattle.rdb_tree.proofs.TakeLemmas.{home_keyed, home_keys, leaf_place, leaf_ends, home_child, home_last, child_short, child_lost, key_short, key_lost, key_room, key_cell}
use Rattle.rdb_tree.proofs.remove.+take_out.Goals as goal

pub node_at-node-requires : goal.node_at-node-requires
node_at-node-requires g m c =
    node_cell (reading (work g.C.Cells c.args.cells.now)) c.args.at c.requires.tree.1.keys (roots c.requires.tree.0 c.requires.tree.1.children) (branch_node (reading (work g.C.Cells c.args.cells.now)) c.args.at 1 c.requires.tree.0 c.requires.tree.1 c.requires.tree.2.branch)

pub keys_of-requires : goal.keys_of-requires
keys_of-requires g m c =
    node_few (reading (work g.C.Cells c.args.cells.now)) c.args.at c.requires.tree.1.keys (roots c.requires.tree.0 c.requires.tree.1.children) (branch_node (reading (work g.C.Cells c.args.cells.now)) c.args.at 1 c.requires.tree.0 c.requires.tree.1 c.requires.tree.2.branch) c.node_at-node.result c.node_at-node.ensures

pub keys_of-requires-then-node : goal.keys_of-requires-then-node
keys_of-requires-then-node g m c =
    node_few (reading (work g.C.Cells c.args.cells.now)) c.args.at c.requires.tree.1.keys (roots c.requires.tree.0 c.requires.tree.1.children) (branch_node (reading (work g.C.Cells c.args.cells.now)) c.args.at 1 c.requires.tree.0 c.requires.tree.1 c.requires.tree.2.branch) c.node_at-node.result c.node_at-node.ensures

pub child_at-child-requires : goal.child_at-child-requires
child_at-child-requires g m c =
    node_few (reading (work g.C.Cells c.args.cells.now)) c.args.at c.requires.tree.1.keys (roots c.requires.tree.0 c.requires.tree.1.children) (branch_node (reading (work g.C.Cells c.args.cells.now)) c.args.at 1 c.requires.tree.0 c.requires.tree.1 c.requires.tree.2.branch) c.node_at-node.result c.node_at-node.ensures

pub keys_of-requires-2 : goal.keys_of-requires-2
keys_of-requires-2 g m c =
    node_few (reading (work g.C.Cells c.args.cells.now)) c.args.at c.requires.tree.1.keys (roots c.requires.tree.0 c.requires.tree.1.children) (branch_node (reading (work g.C.Cells c.args.cells.now)) c.args.at 1 c.requires.tree.0 c.requires.tree.1 c.requires.tree.2.branch) c.node_at-node.result c.node_at-node.ensures

pub keys_of-requires-then-is_at : goal.keys_of-requires-then-is_at
keys_of-requires-then-is_at g m c =
    node_few (reading (work g.C.Cells c.args.cells.now)) c.args.at c.requires.tree.1.keys (roots c.requires.tree.0 c.requires.tree.1.children) (branch_node (reading (work g.C.Cells c.args.cells.now)) c.args.at 1 c.requires.tree.0 c.requires.tree.1 c.requires.tree.2.branch) c.node_at-node.result c.node_at-node.ensures

pub children_of-requires : goal.children_of-requires
children_of-requires g m c =
    node_few (reading (work g.C.Cells c.args.cells.now)) c.args.at c.requires.tree.1.keys (roots c.requires.tree.0 c.requires.tree.1.children) (branch_node (reading (work g.C.Cells c.args.cells.now)) c.args.at 1 c.requires.tree.0 c.requires.tree.1 c.requires.tree.2.branch) c.node_at-node.result c.node_at-node.ensures

pub count_before-place-requires-clause-keyed : goal.count_before-place-requires-clause-keyed
count_before-place-requires-clause-keyed g m c =
    λ r within. home_keys (says (g.K.Keys.meaning c.args.keys.now) (reading (work g.C.Cells c.args.cells.now))) (work g.C.Cells c.args.cells.now) c.args.version c.args.at 0 c.requires.tree.0 c.requires.tree.1 c.requires.tree.2 r (subst (λ (ks : List CellRef). Contains ks r) (c.keys_of.ensures ∙ (node_keys (reading (work g.C.Cells c.args.cells.now)) c.args.at c.requires.tree.1.keys (roots c.requires.tree.0 c.requires.tree.1.children) (branch_node (reading (work g.C.Cells c.args.cells.now)) c.args.at 1 c.requires.tree.0 c.requires.tree.1 c.requires.tree.2.branch) c.node_at-node.result c.node_at-node.ensures)) within)

pub count_before-place-requires-clause-version : goal.count_before-place-requires-clause-version
count_before-place-requires-clause-version g m c =
    home_keyed (says (g.K.Keys.meaning c.args.keys.now) (reading (work g.C.Cells c.args.cells.now))) (work g.C.Cells c.args.cells.now) c.args.version c.args.at 0 c.requires.tree.0 c.requires.tree.1 c.requires.tree.2

pub without_one-rest-requires-clause-place : goal.without_one-rest-requires-clause-place
without_one-rest-requires-clause-place g m c =
    let low = leaf_place (says (g.K.Keys.meaning c.args.keys.now) (reading (work g.C.Cells c.args.cells.now))) (work g.C.Cells c.args.cells.now) c.args.version c.args.at c.count_before-place.result c.requires.tree.0 c.requires.tree.1 c.requires.tree.2 (sym (ap (λ (n : TreeNode). n.leaf) (node_read (reading (work g.C.Cells c.args.cells.now)) c.args.at c.requires.tree.1.keys (roots c.requires.tree.0 c.requires.tree.1.children) (branch_node (reading (work g.C.Cells c.args.cells.now)) c.args.at 1 c.requires.tree.0 c.requires.tree.1 c.requires.tree.2.branch) c.node_at-node.result c.node_at-node.ensures)) ∙ c.if-node.true) (c.count_before-place.ensures ∙ ap (prefix_len (is_before (says (g.K.Keys.meaning c.args.keys.now) (reading (work g.C.Cells c.args.cells.now))) c.args.version)) (c.keys_of.ensures ∙ (node_keys (reading (work g.C.Cells c.args.cells.now)) c.args.at c.requires.tree.1.keys (roots c.requires.tree.0 c.requires.tree.1.children) (branch_node (reading (work g.C.Cells c.args.cells.now)) c.args.at 1 c.requires.tree.0 c.requires.tree.1 c.requires.tree.2.branch) c.node_at-node.result c.node_at-node.ensures))) in let same = ap (length {A = CellRef}) (c.keys_of-then-node.ensures ∙ (node_keys (reading (work g.C.Cells c.args.cells.now)) c.args.at c.requires.tree.1.keys (roots c.requires.tree.0 c.requires.tree.1.children) (branch_node (reading (work g.C.Cells c.args.cells.now)) c.args.at 1 c.requires.tree.0 c.requires.tree.1 c.requires.tree.2.branch) c.node_at-node.result c.node_at-node.ensures)) in omega arith

pub put_node-requires-clause-at : goal.put_node-requires-clause-at
put_node-requires-clause-at g m c =
    node_cell (reading (work g.C.Cells c.args.cells.now)) c.args.at c.requires.tree.1.keys (roots c.requires.tree.0 c.requires.tree.1.children) (branch_node (reading (work g.C.Cells c.args.cells.now)) c.args.at 1 c.requires.tree.0 c.requires.tree.1 c.requires.tree.2.branch)

pub put_node-requires-clause-versions : goal.put_node-requires-clause-versions
put_node-requires-clause-versions g m c =
    let low = leaf_place (says (g.K.Keys.meaning c.args.keys.now) (reading (work g.C.Cells c.args.cells.now))) (work g.C.Cells c.args.cells.now) c.args.version c.args.at c.count_before-place.result c.requires.tree.0 c.requires.tree.1 c.requires.tree.2 (sym (ap (λ (n : TreeNode). n.leaf) (node_read (reading (work g.C.Cells c.args.cells.now)) c.args.at c.requires.tree.1.keys (roots c.requires.tree.0 c.requires.tree.1.children) (branch_node (reading (work g.C.Cells c.args.cells.now)) c.args.at 1 c.requires.tree.0 c.requires.tree.1 c.requires.tree.2.branch) c.node_at-node.result c.node_at-node.ensures)) ∙ c.if-node.true) (c.count_before-place.ensures ∙ ap (prefix_len (is_before (says (g.K.Keys.meaning c.args.keys.now) (reading (work g.C.Cells c.args.cells.now))) c.args.version)) (c.keys_of.ensures ∙ (node_keys (reading (work g.C.Cells c.args.cells.now)) c.args.at c.requires.tree.1.keys (roots c.requires.tree.0 c.requires.tree.1.children) (branch_node (reading (work g.C.Cells c.args.cells.now)) c.args.at 1 c.requires.tree.0 c.requires.tree.1 c.requires.tree.2.branch) c.node_at-node.result c.node_at-node.ensures))) in let same = ap (length {A = CellRef}) (c.as_slice.ensures ∙ c.without_one-rest.ensures ∙ ap (without c.count_before-place.result) (c.keys_of-then-node.ensures ∙ (node_keys (reading (work g.C.Cells c.args.cells.now)) c.args.at c.requires.tree.1.keys (roots c.requires.tree.0 c.requires.tree.1.children) (branch_node (reading (work g.C.Cells c.args.cells.now)) c.args.at 1 c.requires.tree.0 c.requires.tree.1 c.requires.tree.2.branch) c.node_at-node.result c.node_at-node.ensures))) in let less = length_without c.count_before-place.result c.requires.tree.1.keys low in let few = (few_keys c.requires.tree.0 1 c.requires.tree.1 c.requires.tree.2.branch.shape).fit in omega arith

pub returns-then-node-clause-lost : goal.returns-then-node-clause-lost
returns-then-node-clause-lost g m c =
    λ h t home. leaf_ends (says (g.K.Keys.meaning c.args.keys.now) (reading (work g.C.Cells c.args.cells.now))) (work g.C.Cells c.args.cells.now) c.args.version c.args.at c.count_before-place.result (work g.C.Cells c.put_node.new.cells) h t c.as_slice.result.now home (sym (ap (λ (n : TreeNode). n.leaf) (node_read (reading (work g.C.Cells c.args.cells.now)) c.args.at t.keys (roots h t.children) (branch_node (reading (work g.C.Cells c.args.cells.now)) c.args.at 1 h t home.branch) c.node_at-node.result c.node_at-node.ensures)) ∙ c.if-node.true) (c.count_before-place.ensures ∙ ap (prefix_len (is_before (says (g.K.Keys.meaning c.args.keys.now) (reading (work g.C.Cells c.args.cells.now))) c.args.version)) (c.keys_of.ensures ∙ (node_keys (reading (work g.C.Cells c.args.cells.now)) c.args.at t.keys (roots h t.children) (branch_node (reading (work g.C.Cells c.args.cells.now)) c.args.at 1 h t home.branch) c.node_at-node.result c.node_at-node.ensures))) (c.as_slice.ensures ∙ c.without_one-rest.ensures ∙ ap (without c.count_before-place.result) (c.keys_of-then-node.ensures ∙ (node_keys (reading (work g.C.Cells c.args.cells.now)) c.args.at t.keys (roots h t.children) (branch_node (reading (work g.C.Cells c.args.cells.now)) c.args.at 1 h t home.branch) c.node_at-node.result c.node_at-node.ensures))) c.put_node.ensures.work

pub take_last-last-requires-clause-tree : goal.take_last-last-requires-clause-tree
take_last-last-requires-clause-tree g m c =
    home_last (says (g.K.Keys.meaning c.args.keys.now) (reading (work g.C.Cells c.args.cells.now))) (work g.C.Cells c.args.cells.now) c.args.version c.args.at c.count_before-place.result c.child_at-child.result c.requires.tree.0 c.requires.tree.1 c.requires.tree.2 (sym (ap (λ (n : TreeNode). n.leaf) (node_read (reading (work g.C.Cells c.args.cells.now)) c.args.at c.requires.tree.1.keys (roots c.requires.tree.0 c.requires.tree.1.children) (branch_node (reading (work g.C.Cells c.args.cells.now)) c.args.at 1 c.requires.tree.0 c.requires.tree.1 c.requires.tree.2.branch) c.node_at-node.result c.node_at-node.ensures)) ∙ c.if-node.false) (c.count_before-place.ensures ∙ ap (prefix_len (is_before (says (g.K.Keys.meaning c.args.keys.now) (reading (work g.C.Cells c.args.cells.now))) c.args.version)) (c.keys_of.ensures ∙ (node_keys (reading (work g.C.Cells c.args.cells.now)) c.args.at c.requires.tree.1.keys (roots c.requires.tree.0 c.requires.tree.1.children) (branch_node (reading (work g.C.Cells c.args.cells.now)) c.args.at 1 c.requires.tree.0 c.requires.tree.1 c.requires.tree.2.branch) c.node_at-node.result c.node_at-node.ensures))) (c.child_at-child.ensures ∙ ap (λ (cs : List CellRef). unwrap_or (slice_get cs c.count_before-place.result) no_ref) (node_children (reading (work g.C.Cells c.args.cells.now)) c.args.at c.requires.tree.1.keys (roots c.requires.tree.0 c.requires.tree.1.children) (branch_node (reading (work g.C.Cells c.args.cells.now)) c.args.at 1 c.requires.tree.0 c.requires.tree.1 c.requires.tree.2.branch) c.node_at-node.result c.node_at-node.ensures)) c.args.levels c.requires.tree.3

pub with_other-versions-requires-clause-place : goal.with_other-versions-requires-clause-place
with_other-versions-requires-clause-place g m c =
    let low = below_there c.requires.tree.1.keys c.count_before-place.result c.args.version (subst (λ (ks : List CellRef). slice_get ks c.count_before-place.result ≡ Some c.args.version) (c.keys_of-2.ensures ∙ (node_keys (reading (work g.C.Cells c.args.cells.now)) c.args.at c.requires.tree.1.keys (roots c.requires.tree.0 c.requires.tree.1.children) (branch_node (reading (work g.C.Cells c.args.cells.now)) c.args.at 1 c.requires.tree.0 c.requires.tree.1 c.requires.tree.2.branch) c.node_at-node.result c.node_at-node.ensures)) (c.is_at.ensures.yes c.if-is_at.true)) in let same = ap (length {A = CellRef}) (c.keys_of-then-is_at.ensures ∙ (node_keys (reading (work g.C.Cells c.args.cells.now)) c.args.at c.requires.tree.1.keys (roots c.requires.tree.0 c.requires.tree.1.children) (branch_node (reading (work g.C.Cells c.args.cells.now)) c.args.at 1 c.requires.tree.0 c.requires.tree.1 c.requires.tree.2.branch) c.node_at-node.result c.node_at-node.ensures)) in omega arith

pub put_node-requires-then-is_at-clause-at : goal.put_node-requires-then-is_at-clause-at
put_node-requires-then-is_at-clause-at g m c =
    key_cell (says (g.K.Keys.meaning c.args.keys.now) (reading (work g.C.Cells c.args.cells.now))) (work g.C.Cells c.args.cells.now) c.args.version c.args.at c.count_before-place.result c.child_at-child.result c.requires.tree.0 c.requires.tree.1 c.requires.tree.2 (sym (ap (λ (n : TreeNode). n.leaf) (node_read (reading (work g.C.Cells c.args.cells.now)) c.args.at c.requires.tree.1.keys (roots c.requires.tree.0 c.requires.tree.1.children) (branch_node (reading (work g.C.Cells c.args.cells.now)) c.args.at 1 c.requires.tree.0 c.requires.tree.1 c.requires.tree.2.branch) c.node_at-node.result c.node_at-node.ensures)) ∙ c.if-node.false) (c.count_before-place.ensures ∙ ap (prefix_len (is_before (says (g.K.Keys.meaning c.args.keys.now) (reading (work g.C.Cells c.args.cells.now))) c.args.version)) (c.keys_of.ensures ∙ (node_keys (reading (work g.C.Cells c.args.cells.now)) c.args.at c.requires.tree.1.keys (roots c.requires.tree.0 c.requires.tree.1.children) (branch_node (reading (work g.C.Cells c.args.cells.now)) c.args.at 1 c.requires.tree.0 c.requires.tree.1 c.requires.tree.2.branch) c.node_at-node.result c.node_at-node.ensures))) (c.child_at-child.ensures ∙ ap (λ (cs : List CellRef). unwrap_or (slice_get cs c.count_before-place.result) no_ref) (node_children (reading (work g.C.Cells c.args.cells.now)) c.args.at c.requires.tree.1.keys (roots c.requires.tree.0 c.requires.tree.1.children) (branch_node (reading (work g.C.Cells c.args.cells.now)) c.args.at 1 c.requires.tree.0 c.requires.tree.1 c.requires.tree.2.branch) c.node_at-node.result c.node_at-node.ensures)) (work g.C.Cells c.take_last-last.new.cells) c.take_last-last.result c.take_last-last.ensures.last

pub put_node-requires-then-is_at-clause-versions : goal.put_node-requires-then-is_at-clause-versions
put_node-requires-then-is_at-clause-versions g m c =
    let low = below_there c.requires.tree.1.keys c.count_before-place.result c.args.version (subst (λ (ks : List CellRef). slice_get ks c.count_before-place.result ≡ Some c.args.version) (c.keys_of-2.ensures ∙ (node_keys (reading (work g.C.Cells c.args.cells.now)) c.args.at c.requires.tree.1.keys (roots c.requires.tree.0 c.requires.tree.1.children) (branch_node (reading (work g.C.Cells c.args.cells.now)) c.args.at 1 c.requires.tree.0 c.requires.tree.1 c.requires.tree.2.branch) c.node_at-node.result c.node_at-node.ensures)) (c.is_at.ensures.yes c.if-is_at.true)) in let same = ap (length {A = CellRef}) (c.as_slice-then-is_at.ensures ∙ c.with_other-versions.ensures ∙ ap (replaced_at c.count_before-place.result c.take_last-last.result) (c.keys_of-then-is_at.ensures ∙ (node_keys (reading (work g.C.Cells c.args.cells.now)) c.args.at c.requires.tree.1.keys (roots c.requires.tree.0 c.requires.tree.1.children) (branch_node (reading (work g.C.Cells c.args.cells.now)) c.args.at 1 c.requires.tree.0 c.requires.tree.1 c.requires.tree.2.branch) c.node_at-node.result c.node_at-node.ensures))) in let less = length_replaced c.count_before-place.result c.take_last-last.result c.requires.tree.1.keys low in let few = (few_keys c.requires.tree.0 1 c.requires.tree.1 c.requires.tree.2.branch.shape).fit in omega arith

pub put_node-requires-then-is_at-clause-places : goal.put_node-requires-then-is_at-clause-places
put_node-requires-then-is_at-clause-places g m c =
    key_room (says (g.K.Keys.meaning c.args.keys.now) (reading (work g.C.Cells c.args.cells.now))) (work g.C.Cells c.args.cells.now) c.args.version c.args.at c.count_before-place.result c.child_at-child.result c.requires.tree.0 c.requires.tree.1 c.requires.tree.2 (sym (ap (λ (n : TreeNode). n.leaf) (node_read (reading (work g.C.Cells c.args.cells.now)) c.args.at c.requires.tree.1.keys (roots c.requires.tree.0 c.requires.tree.1.children) (branch_node (reading (work g.C.Cells c.args.cells.now)) c.args.at 1 c.requires.tree.0 c.requires.tree.1 c.requires.tree.2.branch) c.node_at-node.result c.node_at-node.ensures)) ∙ c.if-node.false) (c.count_before-place.ensures ∙ ap (prefix_len (is_before (says (g.K.Keys.meaning c.args.keys.now) (reading (work g.C.Cells c.args.cells.now))) c.args.version)) (c.keys_of.ensures ∙ (node_keys (reading (work g.C.Cells c.args.cells.now)) c.args.at c.requires.tree.1.keys (roots c.requires.tree.0 c.requires.tree.1.children) (branch_node (reading (work g.C.Cells c.args.cells.now)) c.args.at 1 c.requires.tree.0 c.requires.tree.1 c.requires.tree.2.branch) c.node_at-node.result c.node_at-node.ensures))) (c.child_at-child.ensures ∙ ap (λ (cs : List CellRef). unwrap_or (slice_get cs c.count_before-place.result) no_ref) (node_children (reading (work g.C.Cells c.args.cells.now)) c.args.at c.requires.tree.1.keys (roots c.requires.tree.0 c.requires.tree.1.children) (branch_node (reading (work g.C.Cells c.args.cells.now)) c.args.at 1 c.requires.tree.0 c.requires.tree.1 c.requires.tree.2.branch) c.node_at-node.result c.node_at-node.ensures)) (work g.C.Cells c.take_last-last.new.cells) c.take_last-last.result c.take_last-last.ensures.last c.args.levels c.requires.tree.3 c.requires.places

pub mend-requires-clause-short : goal.mend-requires-clause-short
mend-requires-clause-short g m c =
    (key_short (says (g.K.Keys.meaning c.args.keys.now) (reading (work g.C.Cells c.args.cells.now))) (work g.C.Cells c.args.cells.now) c.args.version c.args.at c.count_before-place.result c.child_at-child.result c.requires.tree.0 c.requires.tree.1 c.requires.tree.2 (sym (ap (λ (n : TreeNode). n.leaf) (node_read (reading (work g.C.Cells c.args.cells.now)) c.args.at c.requires.tree.1.keys (roots c.requires.tree.0 c.requires.tree.1.children) (branch_node (reading (work g.C.Cells c.args.cells.now)) c.args.at 1 c.requires.tree.0 c.requires.tree.1 c.requires.tree.2.branch) c.node_at-node.result c.node_at-node.ensures)) ∙ c.if-node.false) (c.count_before-place.ensures ∙ ap (prefix_len (is_before (says (g.K.Keys.meaning c.args.keys.now) (reading (work g.C.Cells c.args.cells.now))) c.args.version)) (c.keys_of.ensures ∙ (node_keys (reading (work g.C.Cells c.args.cells.now)) c.args.at c.requires.tree.1.keys (roots c.requires.tree.0 c.requires.tree.1.children) (branch_node (reading (work g.C.Cells c.args.cells.now)) c.args.at 1 c.requires.tree.0 c.requires.tree.1 c.requires.tree.2.branch) c.node_at-node.result c.node_at-node.ensures))) (c.child_at-child.ensures ∙ ap (λ (cs : List CellRef). unwrap_or (slice_get cs c.count_before-place.result) no_ref) (node_children (reading (work g.C.Cells c.args.cells.now)) c.args.at c.requires.tree.1.keys (roots c.requires.tree.0 c.requires.tree.1.children) (branch_node (reading (work g.C.Cells c.args.cells.now)) c.args.at 1 c.requires.tree.0 c.requires.tree.1 c.requires.tree.2.branch) c.node_at-node.result c.node_at-node.ensures)) (subst (λ (ks : List CellRef). slice_get ks c.count_before-place.result ≡ Some c.args.version) (c.keys_of-2.ensures ∙ (node_keys (reading (work g.C.Cells c.args.cells.now)) c.args.at c.requires.tree.1.keys (roots c.requires.tree.0 c.requires.tree.1.children) (branch_node (reading (work g.C.Cells c.args.cells.now)) c.args.at 1 c.requires.tree.0 c.requires.tree.1 c.requires.tree.2.branch) c.node_at-node.result c.node_at-node.ensures)) (c.is_at.ensures.yes c.if-is_at.true)) (work g.C.Cells c.take_last-last.new.cells) (work g.C.Cells c.put_node-then-is_at.new.cells) c.take_last-last.result c.take_last-last.ensures.last (c.put_node-then-is_at.ensures.work ∙ ap₂ (λ (ks cs : List CellRef). with_cell (work g.C.Cells c.take_last-last.new.cells) c.args.at (cell_of ks cs)) (c.as_slice-then-is_at.ensures ∙ c.with_other-versions.ensures ∙ ap (replaced_at c.count_before-place.result c.take_last-last.result) (c.keys_of-then-is_at.ensures ∙ (node_keys (reading (work g.C.Cells c.args.cells.now)) c.args.at c.requires.tree.1.keys (roots c.requires.tree.0 c.requires.tree.1.children) (branch_node (reading (work g.C.Cells c.args.cells.now)) c.args.at 1 c.requires.tree.0 c.requires.tree.1 c.requires.tree.2.branch) c.node_at-node.result c.node_at-node.ensures))) (c.children_of.ensures ∙ (node_children (reading (work g.C.Cells c.args.cells.now)) c.args.at c.requires.tree.1.keys (roots c.requires.tree.0 c.requires.tree.1.children) (branch_node (reading (work g.C.Cells c.args.cells.now)) c.args.at 1 c.requires.tree.0 c.requires.tree.1 c.requires.tree.2.branch) c.node_at-node.result c.node_at-node.ensures))) c.args.levels c.requires.tree.3 c.requires.places).0

pub mend-requires-clause-places : goal.mend-requires-clause-places
mend-requires-clause-places g m c =
    (key_short (says (g.K.Keys.meaning c.args.keys.now) (reading (work g.C.Cells c.args.cells.now))) (work g.C.Cells c.args.cells.now) c.args.version c.args.at c.count_before-place.result c.child_at-child.result c.requires.tree.0 c.requires.tree.1 c.requires.tree.2 (sym (ap (λ (n : TreeNode). n.leaf) (node_read (reading (work g.C.Cells c.args.cells.now)) c.args.at c.requires.tree.1.keys (roots c.requires.tree.0 c.requires.tree.1.children) (branch_node (reading (work g.C.Cells c.args.cells.now)) c.args.at 1 c.requires.tree.0 c.requires.tree.1 c.requires.tree.2.branch) c.node_at-node.result c.node_at-node.ensures)) ∙ c.if-node.false) (c.count_before-place.ensures ∙ ap (prefix_len (is_before (says (g.K.Keys.meaning c.args.keys.now) (reading (work g.C.Cells c.args.cells.now))) c.args.version)) (c.keys_of.ensures ∙ (node_keys (reading (work g.C.Cells c.args.cells.now)) c.args.at c.requires.tree.1.keys (roots c.requires.tree.0 c.requires.tree.1.children) (branch_node (reading (work g.C.Cells c.args.cells.now)) c.args.at 1 c.requires.tree.0 c.requires.tree.1 c.requires.tree.2.branch) c.node_at-node.result c.node_at-node.ensures))) (c.child_at-child.ensures ∙ ap (λ (cs : List CellRef). unwrap_or (slice_get cs c.count_before-place.result) no_ref) (node_children (reading (work g.C.Cells c.args.cells.now)) c.args.at c.requires.tree.1.keys (roots c.requires.tree.0 c.requires.tree.1.children) (branch_node (reading (work g.C.Cells c.args.cells.now)) c.args.at 1 c.requires.tree.0 c.requires.tree.1 c.requires.tree.2.branch) c.node_at-node.result c.node_at-node.ensures)) (subst (λ (ks : List CellRef). slice_get ks c.count_before-place.result ≡ Some c.args.version) (c.keys_of-2.ensures ∙ (node_keys (reading (work g.C.Cells c.args.cells.now)) c.args.at c.requires.tree.1.keys (roots c.requires.tree.0 c.requires.tree.1.children) (branch_node (reading (work g.C.Cells c.args.cells.now)) c.args.at 1 c.requires.tree.0 c.requires.tree.1 c.requires.tree.2.branch) c.node_at-node.result c.node_at-node.ensures)) (c.is_at.ensures.yes c.if-is_at.true)) (work g.C.Cells c.take_last-last.new.cells) (work g.C.Cells c.put_node-then-is_at.new.cells) c.take_last-last.result c.take_last-last.ensures.last (c.put_node-then-is_at.ensures.work ∙ ap₂ (λ (ks cs : List CellRef). with_cell (work g.C.Cells c.take_last-last.new.cells) c.args.at (cell_of ks cs)) (c.as_slice-then-is_at.ensures ∙ c.with_other-versions.ensures ∙ ap (replaced_at c.count_before-place.result c.take_last-last.result) (c.keys_of-then-is_at.ensures ∙ (node_keys (reading (work g.C.Cells c.args.cells.now)) c.args.at c.requires.tree.1.keys (roots c.requires.tree.0 c.requires.tree.1.children) (branch_node (reading (work g.C.Cells c.args.cells.now)) c.args.at 1 c.requires.tree.0 c.requires.tree.1 c.requires.tree.2.branch) c.node_at-node.result c.node_at-node.ensures))) (c.children_of.ensures ∙ (node_children (reading (work g.C.Cells c.args.cells.now)) c.args.at c.requires.tree.1.keys (roots c.requires.tree.0 c.requires.tree.1.children) (branch_node (reading (work g.C.Cells c.args.cells.now)) c.args.at 1 c.requires.tree.0 c.requires.tree.1 c.requires.tree.2.branch) c.node_at-node.result c.node_at-node.ensures))) c.args.levels c.requires.tree.3 c.requires.places).1

pub returns-then-is_at-clause-lost : goal.returns-then-is_at-clause-lost
returns-then-is_at-clause-lost g m c =
    λ h t home. key_lost (says (g.K.Keys.meaning c.args.keys.now) (reading (work g.C.Cells c.args.cells.now))) (work g.C.Cells c.args.cells.now) c.args.version c.args.at c.count_before-place.result c.child_at-child.result h t home (sym (ap (λ (n : TreeNode). n.leaf) (node_read (reading (work g.C.Cells c.args.cells.now)) c.args.at t.keys (roots h t.children) (branch_node (reading (work g.C.Cells c.args.cells.now)) c.args.at 1 h t home.branch) c.node_at-node.result c.node_at-node.ensures)) ∙ c.if-node.false) (c.count_before-place.ensures ∙ ap (prefix_len (is_before (says (g.K.Keys.meaning c.args.keys.now) (reading (work g.C.Cells c.args.cells.now))) c.args.version)) (c.keys_of.ensures ∙ (node_keys (reading (work g.C.Cells c.args.cells.now)) c.args.at t.keys (roots h t.children) (branch_node (reading (work g.C.Cells c.args.cells.now)) c.args.at 1 h t home.branch) c.node_at-node.result c.node_at-node.ensures))) (c.child_at-child.ensures ∙ ap (λ (cs : List CellRef). unwrap_or (slice_get cs c.count_before-place.result) no_ref) (node_children (reading (work g.C.Cells c.args.cells.now)) c.args.at t.keys (roots h t.children) (branch_node (reading (work g.C.Cells c.args.cells.now)) c.args.at 1 h t home.branch) c.node_at-node.result c.node_at-node.ensures)) (subst (λ (ks : List CellRef). slice_get ks c.count_before-place.result ≡ Some c.args.version) (c.keys_of-2.ensures ∙ (node_keys (reading (work g.C.Cells c.args.cells.now)) c.args.at t.keys (roots h t.children) (branch_node (reading (work g.C.Cells c.args.cells.now)) c.args.at 1 h t home.branch) c.node_at-node.result c.node_at-node.ensures)) (c.is_at.ensures.yes c.if-is_at.true)) (work g.C.Cells c.take_last-last.new.cells) (work g.C.Cells c.put_node-then-is_at.new.cells) c.take_last-last.result c.take_last-last.ensures.last (c.put_node-then-is_at.ensures.work ∙ ap₂ (λ (ks cs : List CellRef). with_cell (work g.C.Cells c.take_last-last.new.cells) c.args.at (cell_of ks cs)) (c.as_slice-then-is_at.ensures ∙ c.with_other-versions.ensures ∙ ap (replaced_at c.count_before-place.result c.take_last-last.result) (c.keys_of-then-is_at.ensures ∙ (node_keys (reading (work g.C.Cells c.args.cells.now)) c.args.at t.keys (roots h t.children) (branch_node (reading (work g.C.Cells c.args.cells.now)) c.args.at 1 h t home.branch) c.node_at-node.result c.node_at-node.ensures))) (c.children_of.ensures ∙ (node_children (reading (work g.C.Cells c.args.cells.now)) c.args.at t.keys (roots h t.children) (branch_node (reading (work g.C.Cells c.args.cells.now)) c.args.at 1 h t home.branch) c.node_at-node.result c.node_at-node.ensures))) (work g.C.Cells c.mend.new.cells) c.mend.ensures.mended

pub take_out-requires : goal.take_out-requires
take_out-requires g m c κs within =
    let below = home_child (says (g.K.Keys.meaning c.args.keys.now) (reading (work g.C.Cells c.args.cells.now))) (work g.C.Cells c.args.cells.now) c.args.version c.args.at c.count_before-place.result c.child_at-child.result c.requires.tree.0 c.requires.tree.1 c.requires.tree.2 (sym (ap (λ (n : TreeNode). n.leaf) (node_read (reading (work g.C.Cells c.args.cells.now)) c.args.at c.requires.tree.1.keys (roots c.requires.tree.0 c.requires.tree.1.children) (branch_node (reading (work g.C.Cells c.args.cells.now)) c.args.at 1 c.requires.tree.0 c.requires.tree.1 c.requires.tree.2.branch) c.node_at-node.result c.node_at-node.ensures)) ∙ c.if-node.false) (c.count_before-place.ensures ∙ ap (prefix_len (is_before (says (g.K.Keys.meaning c.args.keys.now) (reading (work g.C.Cells c.args.cells.now))) c.args.version)) (c.keys_of.ensures ∙ (node_keys (reading (work g.C.Cells c.args.cells.now)) c.args.at c.requires.tree.1.keys (roots c.requires.tree.0 c.requires.tree.1.children) (branch_node (reading (work g.C.Cells c.args.cells.now)) c.args.at 1 c.requires.tree.0 c.requires.tree.1 c.requires.tree.2.branch) c.node_at-node.result c.node_at-node.ensures))) (c.child_at-child.ensures ∙ ap (λ (cs : List CellRef). unwrap_or (slice_get cs c.count_before-place.result) no_ref) (node_children (reading (work g.C.Cells c.args.cells.now)) c.args.at c.requires.tree.1.keys (roots c.requires.tree.0 c.requires.tree.1.children) (branch_node (reading (work g.C.Cells c.args.cells.now)) c.args.at 1 c.requires.tree.0 c.requires.tree.1 c.requires.tree.2.branch) c.node_at-node.result c.node_at-node.ensures)) (λ is. c.is_at.ensures.no c.if-is_at.false (ap (λ (ks : List CellRef). slice_get ks c.count_before-place.result) (c.keys_of-2.ensures ∙ (node_keys (reading (work g.C.Cells c.args.cells.now)) c.args.at c.requires.tree.1.keys (roots c.requires.tree.0 c.requires.tree.1.children) (branch_node (reading (work g.C.Cells c.args.cells.now)) c.args.at 1 c.requires.tree.0 c.requires.tree.1 c.requires.tree.2.branch) c.node_at-node.result c.node_at-node.ensures)) ∙ is)) c.args.levels c.requires.tree.3 in
    let low = c.requires.tree.3 in
    let falls = c.decreases in
    let room = c.requires.places in
    (omega arith, (within.0, (within.1, (below, omega arith))))

pub mend-requires-2-clause-short : goal.mend-requires-2-clause-short
mend-requires-2-clause-short g m c =
    (child_short (says (g.K.Keys.meaning c.args.keys.now) (reading (work g.C.Cells c.args.cells.now))) (work g.C.Cells c.args.cells.now) c.args.version c.args.at c.count_before-place.result c.child_at-child.result c.requires.tree.0 c.requires.tree.1 c.requires.tree.2 (sym (ap (λ (n : TreeNode). n.leaf) (node_read (reading (work g.C.Cells c.args.cells.now)) c.args.at c.requires.tree.1.keys (roots c.requires.tree.0 c.requires.tree.1.children) (branch_node (reading (work g.C.Cells c.args.cells.now)) c.args.at 1 c.requires.tree.0 c.requires.tree.1 c.requires.tree.2.branch) c.node_at-node.result c.node_at-node.ensures)) ∙ c.if-node.false) (c.count_before-place.ensures ∙ ap (prefix_len (is_before (says (g.K.Keys.meaning c.args.keys.now) (reading (work g.C.Cells c.args.cells.now))) c.args.version)) (c.keys_of.ensures ∙ (node_keys (reading (work g.C.Cells c.args.cells.now)) c.args.at c.requires.tree.1.keys (roots c.requires.tree.0 c.requires.tree.1.children) (branch_node (reading (work g.C.Cells c.args.cells.now)) c.args.at 1 c.requires.tree.0 c.requires.tree.1 c.requires.tree.2.branch) c.node_at-node.result c.node_at-node.ensures))) (c.child_at-child.ensures ∙ ap (λ (cs : List CellRef). unwrap_or (slice_get cs c.count_before-place.result) no_ref) (node_children (reading (work g.C.Cells c.args.cells.now)) c.args.at c.requires.tree.1.keys (roots c.requires.tree.0 c.requires.tree.1.children) (branch_node (reading (work g.C.Cells c.args.cells.now)) c.args.at 1 c.requires.tree.0 c.requires.tree.1 c.requires.tree.2.branch) c.node_at-node.result c.node_at-node.ensures)) (λ is. c.is_at.ensures.no c.if-is_at.false (ap (λ (ks : List CellRef). slice_get ks c.count_before-place.result) (c.keys_of-2.ensures ∙ (node_keys (reading (work g.C.Cells c.args.cells.now)) c.args.at c.requires.tree.1.keys (roots c.requires.tree.0 c.requires.tree.1.children) (branch_node (reading (work g.C.Cells c.args.cells.now)) c.args.at 1 c.requires.tree.0 c.requires.tree.1 c.requires.tree.2.branch) c.node_at-node.result c.node_at-node.ensures)) ∙ is)) (work g.C.Cells c.take_out.new.cells) c.take_out.ensures.lost c.args.levels c.requires.tree.3 c.requires.places).0

pub mend-requires-2-clause-places : goal.mend-requires-2-clause-places
mend-requires-2-clause-places g m c =
    (child_short (says (g.K.Keys.meaning c.args.keys.now) (reading (work g.C.Cells c.args.cells.now))) (work g.C.Cells c.args.cells.now) c.args.version c.args.at c.count_before-place.result c.child_at-child.result c.requires.tree.0 c.requires.tree.1 c.requires.tree.2 (sym (ap (λ (n : TreeNode). n.leaf) (node_read (reading (work g.C.Cells c.args.cells.now)) c.args.at c.requires.tree.1.keys (roots c.requires.tree.0 c.requires.tree.1.children) (branch_node (reading (work g.C.Cells c.args.cells.now)) c.args.at 1 c.requires.tree.0 c.requires.tree.1 c.requires.tree.2.branch) c.node_at-node.result c.node_at-node.ensures)) ∙ c.if-node.false) (c.count_before-place.ensures ∙ ap (prefix_len (is_before (says (g.K.Keys.meaning c.args.keys.now) (reading (work g.C.Cells c.args.cells.now))) c.args.version)) (c.keys_of.ensures ∙ (node_keys (reading (work g.C.Cells c.args.cells.now)) c.args.at c.requires.tree.1.keys (roots c.requires.tree.0 c.requires.tree.1.children) (branch_node (reading (work g.C.Cells c.args.cells.now)) c.args.at 1 c.requires.tree.0 c.requires.tree.1 c.requires.tree.2.branch) c.node_at-node.result c.node_at-node.ensures))) (c.child_at-child.ensures ∙ ap (λ (cs : List CellRef). unwrap_or (slice_get cs c.count_before-place.result) no_ref) (node_children (reading (work g.C.Cells c.args.cells.now)) c.args.at c.requires.tree.1.keys (roots c.requires.tree.0 c.requires.tree.1.children) (branch_node (reading (work g.C.Cells c.args.cells.now)) c.args.at 1 c.requires.tree.0 c.requires.tree.1 c.requires.tree.2.branch) c.node_at-node.result c.node_at-node.ensures)) (λ is. c.is_at.ensures.no c.if-is_at.false (ap (λ (ks : List CellRef). slice_get ks c.count_before-place.result) (c.keys_of-2.ensures ∙ (node_keys (reading (work g.C.Cells c.args.cells.now)) c.args.at c.requires.tree.1.keys (roots c.requires.tree.0 c.requires.tree.1.children) (branch_node (reading (work g.C.Cells c.args.cells.now)) c.args.at 1 c.requires.tree.0 c.requires.tree.1 c.requires.tree.2.branch) c.node_at-node.result c.node_at-node.ensures)) ∙ is)) (work g.C.Cells c.take_out.new.cells) c.take_out.ensures.lost c.args.levels c.requires.tree.3 c.requires.places).1

pub returns-clause-lost : goal.returns-clause-lost
returns-clause-lost g m c =
    λ h t home. child_lost (says (g.K.Keys.meaning c.args.keys.now) (reading (work g.C.Cells c.args.cells.now))) (work g.C.Cells c.args.cells.now) c.args.version c.args.at c.count_before-place.result c.child_at-child.result h t home (sym (ap (λ (n : TreeNode). n.leaf) (node_read (reading (work g.C.Cells c.args.cells.now)) c.args.at t.keys (roots h t.children) (branch_node (reading (work g.C.Cells c.args.cells.now)) c.args.at 1 h t home.branch) c.node_at-node.result c.node_at-node.ensures)) ∙ c.if-node.false) (c.count_before-place.ensures ∙ ap (prefix_len (is_before (says (g.K.Keys.meaning c.args.keys.now) (reading (work g.C.Cells c.args.cells.now))) c.args.version)) (c.keys_of.ensures ∙ (node_keys (reading (work g.C.Cells c.args.cells.now)) c.args.at t.keys (roots h t.children) (branch_node (reading (work g.C.Cells c.args.cells.now)) c.args.at 1 h t home.branch) c.node_at-node.result c.node_at-node.ensures))) (c.child_at-child.ensures ∙ ap (λ (cs : List CellRef). unwrap_or (slice_get cs c.count_before-place.result) no_ref) (node_children (reading (work g.C.Cells c.args.cells.now)) c.args.at t.keys (roots h t.children) (branch_node (reading (work g.C.Cells c.args.cells.now)) c.args.at 1 h t home.branch) c.node_at-node.result c.node_at-node.ensures)) (λ is. c.is_at.ensures.no c.if-is_at.false (ap (λ (ks : List CellRef). slice_get ks c.count_before-place.result) (c.keys_of-2.ensures ∙ (node_keys (reading (work g.C.Cells c.args.cells.now)) c.args.at t.keys (roots h t.children) (branch_node (reading (work g.C.Cells c.args.cells.now)) c.args.at 1 h t home.branch) c.node_at-node.result c.node_at-node.ensures)) ∙ is)) (work g.C.Cells c.take_out.new.cells) c.take_out.ensures.lost (work g.C.Cells c.mend-2.new.cells) c.mend-2.ensures.mended
