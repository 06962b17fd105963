use Rattle.std.proofs.Common.{◌<◌, suc, length, sym, ap, ◌∙◌, arith}
use Rattle.rdb_cells.specs.Work.{work, reading}
use Rattle.rdb_pages.specs.declared.cell.CellRef.{CellRef}
use Rattle.rdb_tree.specs.Trees.{BTree, roots}
use Rattle.rdb_tree.proofs.WovenLemmas.{length_map}
use Rattle.rdb_tree.proofs.ChangeLemmas.{node_few, node_keys, node_children}
use Rattle.rdb_tree.proofs.ShortEnds.{parent_node, place_bound, first_below, inner_below, children_few, short_node, enough_ends, left_keys, left_children, left_node, left_siblings, left_shared, left_merge_siblings, left_merged, right_node, right_siblings, right_shared, right_merge_siblings, right_merged, behind_there}
use Rattle.rdb_tree.proofs.remove.mend.Goals as goal

pub keys_of-versions-requires : goal.keys_of-versions-requires
keys_of-versions-requires g c =
    node_few (reading (work g.C.Cells c.args.cells.now)) c.args.at c.requires.short.1.keys (roots (suc c.requires.short.0) c.requires.short.1.children) (parent_node (work g.C.Cells c.args.cells.now) c.args.at c.requires.short.0 c.args.place c.requires.short.1 c.requires.short.2) c.node_at-parent.result c.node_at-parent.ensures

pub children_of-children-requires : goal.children_of-children-requires
children_of-children-requires g c =
    node_few (reading (work g.C.Cells c.args.cells.now)) c.args.at c.requires.short.1.keys (roots (suc c.requires.short.0) c.requires.short.1.children) (parent_node (work g.C.Cells c.args.cells.now) c.args.at c.requires.short.0 c.args.place c.requires.short.1 c.requires.short.2) c.node_at-parent.result c.node_at-parent.ensures

pub bounds-children-place : goal.bounds-children-place
bounds-children-place g c =
    place_bound (work g.C.Cells c.args.cells.now) c.args.at c.requires.short.0 c.args.place c.requires.short.1 c.requires.short.2 c.keys_of-versions.result.now c.children_of-children.result.now (c.keys_of-versions.ensures ∙ node_keys (reading (work g.C.Cells c.args.cells.now)) c.args.at c.requires.short.1.keys (roots (suc c.requires.short.0) c.requires.short.1.children) (parent_node (work g.C.Cells c.args.cells.now) c.args.at c.requires.short.0 c.args.place c.requires.short.1 c.requires.short.2) c.node_at-parent.result c.node_at-parent.ensures) (c.children_of-children.ensures ∙ node_children (reading (work g.C.Cells c.args.cells.now)) c.args.at c.requires.short.1.keys (roots (suc c.requires.short.0) c.requires.short.1.children) (parent_node (work g.C.Cells c.args.cells.now) c.args.at c.requires.short.0 c.args.place c.requires.short.1 c.requires.short.2) c.node_at-parent.result c.node_at-parent.ensures)

pub has_enough-requires : goal.has_enough-requires
has_enough-requires g c =
    (c.requires.short.2.short.keys, roots c.requires.short.0 c.requires.short.2.short.children, short_node (work g.C.Cells c.args.cells.now) c.args.at c.requires.short.0 c.args.place c.requires.short.1 c.requires.short.2 c.keys_of-versions.result.now c.children_of-children.result.now (c.keys_of-versions.ensures ∙ node_keys (reading (work g.C.Cells c.args.cells.now)) c.args.at c.requires.short.1.keys (roots (suc c.requires.short.0) c.requires.short.1.children) (parent_node (work g.C.Cells c.args.cells.now) c.args.at c.requires.short.0 c.args.place c.requires.short.1 c.requires.short.2) c.node_at-parent.result c.node_at-parent.ensures) (c.children_of-children.ensures ∙ node_children (reading (work g.C.Cells c.args.cells.now)) c.args.at c.requires.short.1.keys (roots (suc c.requires.short.0) c.requires.short.1.children) (parent_node (work g.C.Cells c.args.cells.now) c.args.at c.requires.short.0 c.args.place c.requires.short.1 c.requires.short.2) c.node_at-parent.result c.node_at-parent.ensures) (record { number = 0 }))

pub returns-then-has_enough-clause-mended : goal.returns-then-has_enough-clause-mended
returns-then-has_enough-clause-mended g c =
    λ h t s. enough_ends (work g.C.Cells c.args.cells.now) c.args.at h c.args.place t s c.keys_of-versions.result.now c.children_of-children.result.now (c.keys_of-versions.ensures ∙ node_keys (reading (work g.C.Cells c.args.cells.now)) c.args.at t.keys (roots (suc h) t.children) (parent_node (work g.C.Cells c.args.cells.now) c.args.at h c.args.place t s) c.node_at-parent.result c.node_at-parent.ensures) (c.children_of-children.ensures ∙ node_children (reading (work g.C.Cells c.args.cells.now)) c.args.at t.keys (roots (suc h) t.children) (parent_node (work g.C.Cells c.args.cells.now) c.args.at h c.args.place t s) c.node_at-parent.result c.node_at-parent.ensures) (sym (c.has_enough.ensures s.short.keys (roots h s.short.children) (short_node (work g.C.Cells c.args.cells.now) c.args.at h c.args.place t s c.keys_of-versions.result.now c.children_of-children.result.now (c.keys_of-versions.ensures ∙ node_keys (reading (work g.C.Cells c.args.cells.now)) c.args.at t.keys (roots (suc h) t.children) (parent_node (work g.C.Cells c.args.cells.now) c.args.at h c.args.place t s) c.node_at-parent.result c.node_at-parent.ensures) (c.children_of-children.ensures ∙ node_children (reading (work g.C.Cells c.args.cells.now)) c.args.at t.keys (roots (suc h) t.children) (parent_node (work g.C.Cells c.args.cells.now) c.args.at h c.args.place t s) c.node_at-parent.result c.node_at-parent.ensures) (record { number = 0 }))) ∙ c.if-has_enough.true)

pub bounds-children-place-then-place-eq0 : goal.bounds-children-place-then-place-eq0
bounds-children-place-then-place-eq0 g c =
    let below = first_below (work g.C.Cells c.args.cells.now) c.args.at c.requires.short.0 c.args.place c.requires.short.1 c.requires.short.2 c.keys_of-versions.result.now c.children_of-children.result.now (c.keys_of-versions.ensures ∙ node_keys (reading (work g.C.Cells c.args.cells.now)) c.args.at c.requires.short.1.keys (roots (suc c.requires.short.0) c.requires.short.1.children) (parent_node (work g.C.Cells c.args.cells.now) c.args.at c.requires.short.0 c.args.place c.requires.short.1 c.requires.short.2) c.node_at-parent.result c.node_at-parent.ensures) (c.children_of-children.ensures ∙ node_children (reading (work g.C.Cells c.args.cells.now)) c.args.at c.requires.short.1.keys (roots (suc c.requires.short.0) c.requires.short.1.children) (parent_node (work g.C.Cells c.args.cells.now) c.args.at c.requires.short.0 c.args.place c.requires.short.1 c.requires.short.2) c.node_at-parent.result c.node_at-parent.ensures) c.if-place-eq0.true in let keys = ap (length {A = CellRef}) (c.keys_of-versions.ensures ∙ node_keys (reading (work g.C.Cells c.args.cells.now)) c.args.at c.requires.short.1.keys (roots (suc c.requires.short.0) c.requires.short.1.children) (parent_node (work g.C.Cells c.args.cells.now) c.args.at c.requires.short.0 c.args.place c.requires.short.1 c.requires.short.2) c.node_at-parent.result c.node_at-parent.ensures) in let children = ap (length {A = CellRef}) (c.children_of-children.ensures ∙ node_children (reading (work g.C.Cells c.args.cells.now)) c.args.at c.requires.short.1.keys (roots (suc c.requires.short.0) c.requires.short.1.children) (parent_node (work g.C.Cells c.args.cells.now) c.args.at c.requires.short.0 c.args.place c.requires.short.1 c.requires.short.2) c.node_at-parent.result c.node_at-parent.ensures) in let many = c.requires.short.2.many in let count = length_map (λ (x : BTree c.requires.short.0). x.at) c.requires.short.1.children in omega arith

pub can_spare-requires : goal.can_spare-requires
can_spare-requires g c =
    ((behind_there (work g.C.Cells c.args.cells.now) c.args.at c.requires.short.0 c.args.place c.requires.short.1 c.requires.short.2 c.keys_of-versions.result.now c.children_of-children.result.now (c.keys_of-versions.ensures ∙ node_keys (reading (work g.C.Cells c.args.cells.now)) c.args.at c.requires.short.1.keys (roots (suc c.requires.short.0) c.requires.short.1.children) (parent_node (work g.C.Cells c.args.cells.now) c.args.at c.requires.short.0 c.args.place c.requires.short.1 c.requires.short.2) c.node_at-parent.result c.node_at-parent.ensures) (c.children_of-children.ensures ∙ node_children (reading (work g.C.Cells c.args.cells.now)) c.args.at c.requires.short.1.keys (roots (suc c.requires.short.0) c.requires.short.1.children) (parent_node (work g.C.Cells c.args.cells.now) c.args.at c.requires.short.0 c.args.place c.requires.short.1 c.requires.short.2) c.node_at-parent.result c.node_at-parent.ensures) (first_below (work g.C.Cells c.args.cells.now) c.args.at c.requires.short.0 c.args.place c.requires.short.1 c.requires.short.2 c.keys_of-versions.result.now c.children_of-children.result.now (c.keys_of-versions.ensures ∙ node_keys (reading (work g.C.Cells c.args.cells.now)) c.args.at c.requires.short.1.keys (roots (suc c.requires.short.0) c.requires.short.1.children) (parent_node (work g.C.Cells c.args.cells.now) c.args.at c.requires.short.0 c.args.place c.requires.short.1 c.requires.short.2) c.node_at-parent.result c.node_at-parent.ensures) (c.children_of-children.ensures ∙ node_children (reading (work g.C.Cells c.args.cells.now)) c.args.at c.requires.short.1.keys (roots (suc c.requires.short.0) c.requires.short.1.children) (parent_node (work g.C.Cells c.args.cells.now) c.args.at c.requires.short.0 c.args.place c.requires.short.1 c.requires.short.2) c.node_at-parent.result c.node_at-parent.ensures) c.if-place-eq0.true)).0.keys, roots c.requires.short.0 (behind_there (work g.C.Cells c.args.cells.now) c.args.at c.requires.short.0 c.args.place c.requires.short.1 c.requires.short.2 c.keys_of-versions.result.now c.children_of-children.result.now (c.keys_of-versions.ensures ∙ node_keys (reading (work g.C.Cells c.args.cells.now)) c.args.at c.requires.short.1.keys (roots (suc c.requires.short.0) c.requires.short.1.children) (parent_node (work g.C.Cells c.args.cells.now) c.args.at c.requires.short.0 c.args.place c.requires.short.1 c.requires.short.2) c.node_at-parent.result c.node_at-parent.ensures) (c.children_of-children.ensures ∙ node_children (reading (work g.C.Cells c.args.cells.now)) c.args.at c.requires.short.1.keys (roots (suc c.requires.short.0) c.requires.short.1.children) (parent_node (work g.C.Cells c.args.cells.now) c.args.at c.requires.short.0 c.args.place c.requires.short.1 c.requires.short.2) c.node_at-parent.result c.node_at-parent.ensures) (first_below (work g.C.Cells c.args.cells.now) c.args.at c.requires.short.0 c.args.place c.requires.short.1 c.requires.short.2 c.keys_of-versions.result.now c.children_of-children.result.now (c.keys_of-versions.ensures ∙ node_keys (reading (work g.C.Cells c.args.cells.now)) c.args.at c.requires.short.1.keys (roots (suc c.requires.short.0) c.requires.short.1.children) (parent_node (work g.C.Cells c.args.cells.now) c.args.at c.requires.short.0 c.args.place c.requires.short.1 c.requires.short.2) c.node_at-parent.result c.node_at-parent.ensures) (c.children_of-children.ensures ∙ node_children (reading (work g.C.Cells c.args.cells.now)) c.args.at c.requires.short.1.keys (roots (suc c.requires.short.0) c.requires.short.1.children) (parent_node (work g.C.Cells c.args.cells.now) c.args.at c.requires.short.0 c.args.place c.requires.short.1 c.requires.short.2) c.node_at-parent.result c.node_at-parent.ensures) c.if-place-eq0.true)).0.children, right_node (work g.C.Cells c.args.cells.now) c.args.at c.requires.short.0 c.args.place c.requires.short.1 c.requires.short.2 c.keys_of-versions.result.now c.children_of-children.result.now (c.keys_of-versions.ensures ∙ node_keys (reading (work g.C.Cells c.args.cells.now)) c.args.at c.requires.short.1.keys (roots (suc c.requires.short.0) c.requires.short.1.children) (parent_node (work g.C.Cells c.args.cells.now) c.args.at c.requires.short.0 c.args.place c.requires.short.1 c.requires.short.2) c.node_at-parent.result c.node_at-parent.ensures) (c.children_of-children.ensures ∙ node_children (reading (work g.C.Cells c.args.cells.now)) c.args.at c.requires.short.1.keys (roots (suc c.requires.short.0) c.requires.short.1.children) (parent_node (work g.C.Cells c.args.cells.now) c.args.at c.requires.short.0 c.args.place c.requires.short.1 c.requires.short.2) c.node_at-parent.result c.node_at-parent.ensures) (sym (c.has_enough.ensures c.requires.short.2.short.keys (roots c.requires.short.0 c.requires.short.2.short.children) (short_node (work g.C.Cells c.args.cells.now) c.args.at c.requires.short.0 c.args.place c.requires.short.1 c.requires.short.2 c.keys_of-versions.result.now c.children_of-children.result.now (c.keys_of-versions.ensures ∙ node_keys (reading (work g.C.Cells c.args.cells.now)) c.args.at c.requires.short.1.keys (roots (suc c.requires.short.0) c.requires.short.1.children) (parent_node (work g.C.Cells c.args.cells.now) c.args.at c.requires.short.0 c.args.place c.requires.short.1 c.requires.short.2) c.node_at-parent.result c.node_at-parent.ensures) (c.children_of-children.ensures ∙ node_children (reading (work g.C.Cells c.args.cells.now)) c.args.at c.requires.short.1.keys (roots (suc c.requires.short.0) c.requires.short.1.children) (parent_node (work g.C.Cells c.args.cells.now) c.args.at c.requires.short.0 c.args.place c.requires.short.1 c.requires.short.2) c.node_at-parent.result c.node_at-parent.ensures) (record { number = 0 }))) ∙ c.if-has_enough.false) (behind_there (work g.C.Cells c.args.cells.now) c.args.at c.requires.short.0 c.args.place c.requires.short.1 c.requires.short.2 c.keys_of-versions.result.now c.children_of-children.result.now (c.keys_of-versions.ensures ∙ node_keys (reading (work g.C.Cells c.args.cells.now)) c.args.at c.requires.short.1.keys (roots (suc c.requires.short.0) c.requires.short.1.children) (parent_node (work g.C.Cells c.args.cells.now) c.args.at c.requires.short.0 c.args.place c.requires.short.1 c.requires.short.2) c.node_at-parent.result c.node_at-parent.ensures) (c.children_of-children.ensures ∙ node_children (reading (work g.C.Cells c.args.cells.now)) c.args.at c.requires.short.1.keys (roots (suc c.requires.short.0) c.requires.short.1.children) (parent_node (work g.C.Cells c.args.cells.now) c.args.at c.requires.short.0 c.args.place c.requires.short.1 c.requires.short.2) c.node_at-parent.result c.node_at-parent.ensures) (first_below (work g.C.Cells c.args.cells.now) c.args.at c.requires.short.0 c.args.place c.requires.short.1 c.requires.short.2 c.keys_of-versions.result.now c.children_of-children.result.now (c.keys_of-versions.ensures ∙ node_keys (reading (work g.C.Cells c.args.cells.now)) c.args.at c.requires.short.1.keys (roots (suc c.requires.short.0) c.requires.short.1.children) (parent_node (work g.C.Cells c.args.cells.now) c.args.at c.requires.short.0 c.args.place c.requires.short.1 c.requires.short.2) c.node_at-parent.result c.node_at-parent.ensures) (c.children_of-children.ensures ∙ node_children (reading (work g.C.Cells c.args.cells.now)) c.args.at c.requires.short.1.keys (roots (suc c.requires.short.0) c.requires.short.1.children) (parent_node (work g.C.Cells c.args.cells.now) c.args.at c.requires.short.0 c.args.place c.requires.short.1 c.requires.short.2) c.node_at-parent.result c.node_at-parent.ensures) c.if-place-eq0.true)).0 (behind_there (work g.C.Cells c.args.cells.now) c.args.at c.requires.short.0 c.args.place c.requires.short.1 c.requires.short.2 c.keys_of-versions.result.now c.children_of-children.result.now (c.keys_of-versions.ensures ∙ node_keys (reading (work g.C.Cells c.args.cells.now)) c.args.at c.requires.short.1.keys (roots (suc c.requires.short.0) c.requires.short.1.children) (parent_node (work g.C.Cells c.args.cells.now) c.args.at c.requires.short.0 c.args.place c.requires.short.1 c.requires.short.2) c.node_at-parent.result c.node_at-parent.ensures) (c.children_of-children.ensures ∙ node_children (reading (work g.C.Cells c.args.cells.now)) c.args.at c.requires.short.1.keys (roots (suc c.requires.short.0) c.requires.short.1.children) (parent_node (work g.C.Cells c.args.cells.now) c.args.at c.requires.short.0 c.args.place c.requires.short.1 c.requires.short.2) c.node_at-parent.result c.node_at-parent.ensures) (first_below (work g.C.Cells c.args.cells.now) c.args.at c.requires.short.0 c.args.place c.requires.short.1 c.requires.short.2 c.keys_of-versions.result.now c.children_of-children.result.now (c.keys_of-versions.ensures ∙ node_keys (reading (work g.C.Cells c.args.cells.now)) c.args.at c.requires.short.1.keys (roots (suc c.requires.short.0) c.requires.short.1.children) (parent_node (work g.C.Cells c.args.cells.now) c.args.at c.requires.short.0 c.args.place c.requires.short.1 c.requires.short.2) c.node_at-parent.result c.node_at-parent.ensures) (c.children_of-children.ensures ∙ node_children (reading (work g.C.Cells c.args.cells.now)) c.args.at c.requires.short.1.keys (roots (suc c.requires.short.0) c.requires.short.1.children) (parent_node (work g.C.Cells c.args.cells.now) c.args.at c.requires.short.0 c.args.place c.requires.short.1 c.requires.short.2) c.node_at-parent.result c.node_at-parent.ensures) c.if-place-eq0.true)).1 (behind_there (work g.C.Cells c.args.cells.now) c.args.at c.requires.short.0 c.args.place c.requires.short.1 c.requires.short.2 c.keys_of-versions.result.now c.children_of-children.result.now (c.keys_of-versions.ensures ∙ node_keys (reading (work g.C.Cells c.args.cells.now)) c.args.at c.requires.short.1.keys (roots (suc c.requires.short.0) c.requires.short.1.children) (parent_node (work g.C.Cells c.args.cells.now) c.args.at c.requires.short.0 c.args.place c.requires.short.1 c.requires.short.2) c.node_at-parent.result c.node_at-parent.ensures) (c.children_of-children.ensures ∙ node_children (reading (work g.C.Cells c.args.cells.now)) c.args.at c.requires.short.1.keys (roots (suc c.requires.short.0) c.requires.short.1.children) (parent_node (work g.C.Cells c.args.cells.now) c.args.at c.requires.short.0 c.args.place c.requires.short.1 c.requires.short.2) c.node_at-parent.result c.node_at-parent.ensures) (first_below (work g.C.Cells c.args.cells.now) c.args.at c.requires.short.0 c.args.place c.requires.short.1 c.requires.short.2 c.keys_of-versions.result.now c.children_of-children.result.now (c.keys_of-versions.ensures ∙ node_keys (reading (work g.C.Cells c.args.cells.now)) c.args.at c.requires.short.1.keys (roots (suc c.requires.short.0) c.requires.short.1.children) (parent_node (work g.C.Cells c.args.cells.now) c.args.at c.requires.short.0 c.args.place c.requires.short.1 c.requires.short.2) c.node_at-parent.result c.node_at-parent.ensures) (c.children_of-children.ensures ∙ node_children (reading (work g.C.Cells c.args.cells.now)) c.args.at c.requires.short.1.keys (roots (suc c.requires.short.0) c.requires.short.1.children) (parent_node (work g.C.Cells c.args.cells.now) c.args.at c.requires.short.0 c.args.place c.requires.short.1 c.requires.short.2) c.node_at-parent.result c.node_at-parent.ensures) c.if-place-eq0.true)).2 (record { number = 0 }))

pub share_from_right-requires-clause-siblings : goal.share_from_right-requires-clause-siblings
share_from_right-requires-clause-siblings g c =
    right_siblings (work g.C.Cells c.args.cells.now) c.args.at c.requires.short.0 c.args.place c.requires.short.1 c.requires.short.2 c.keys_of-versions.result.now c.children_of-children.result.now (c.keys_of-versions.ensures ∙ node_keys (reading (work g.C.Cells c.args.cells.now)) c.args.at c.requires.short.1.keys (roots (suc c.requires.short.0) c.requires.short.1.children) (parent_node (work g.C.Cells c.args.cells.now) c.args.at c.requires.short.0 c.args.place c.requires.short.1 c.requires.short.2) c.node_at-parent.result c.node_at-parent.ensures) (c.children_of-children.ensures ∙ node_children (reading (work g.C.Cells c.args.cells.now)) c.args.at c.requires.short.1.keys (roots (suc c.requires.short.0) c.requires.short.1.children) (parent_node (work g.C.Cells c.args.cells.now) c.args.at c.requires.short.0 c.args.place c.requires.short.1 c.requires.short.2) c.node_at-parent.result c.node_at-parent.ensures) (sym (c.has_enough.ensures c.requires.short.2.short.keys (roots c.requires.short.0 c.requires.short.2.short.children) (short_node (work g.C.Cells c.args.cells.now) c.args.at c.requires.short.0 c.args.place c.requires.short.1 c.requires.short.2 c.keys_of-versions.result.now c.children_of-children.result.now (c.keys_of-versions.ensures ∙ node_keys (reading (work g.C.Cells c.args.cells.now)) c.args.at c.requires.short.1.keys (roots (suc c.requires.short.0) c.requires.short.1.children) (parent_node (work g.C.Cells c.args.cells.now) c.args.at c.requires.short.0 c.args.place c.requires.short.1 c.requires.short.2) c.node_at-parent.result c.node_at-parent.ensures) (c.children_of-children.ensures ∙ node_children (reading (work g.C.Cells c.args.cells.now)) c.args.at c.requires.short.1.keys (roots (suc c.requires.short.0) c.requires.short.1.children) (parent_node (work g.C.Cells c.args.cells.now) c.args.at c.requires.short.0 c.args.place c.requires.short.1 c.requires.short.2) c.node_at-parent.result c.node_at-parent.ensures) (record { number = 0 }))) ∙ c.if-has_enough.false) (behind_there (work g.C.Cells c.args.cells.now) c.args.at c.requires.short.0 c.args.place c.requires.short.1 c.requires.short.2 c.keys_of-versions.result.now c.children_of-children.result.now (c.keys_of-versions.ensures ∙ node_keys (reading (work g.C.Cells c.args.cells.now)) c.args.at c.requires.short.1.keys (roots (suc c.requires.short.0) c.requires.short.1.children) (parent_node (work g.C.Cells c.args.cells.now) c.args.at c.requires.short.0 c.args.place c.requires.short.1 c.requires.short.2) c.node_at-parent.result c.node_at-parent.ensures) (c.children_of-children.ensures ∙ node_children (reading (work g.C.Cells c.args.cells.now)) c.args.at c.requires.short.1.keys (roots (suc c.requires.short.0) c.requires.short.1.children) (parent_node (work g.C.Cells c.args.cells.now) c.args.at c.requires.short.0 c.args.place c.requires.short.1 c.requires.short.2) c.node_at-parent.result c.node_at-parent.ensures) (first_below (work g.C.Cells c.args.cells.now) c.args.at c.requires.short.0 c.args.place c.requires.short.1 c.requires.short.2 c.keys_of-versions.result.now c.children_of-children.result.now (c.keys_of-versions.ensures ∙ node_keys (reading (work g.C.Cells c.args.cells.now)) c.args.at c.requires.short.1.keys (roots (suc c.requires.short.0) c.requires.short.1.children) (parent_node (work g.C.Cells c.args.cells.now) c.args.at c.requires.short.0 c.args.place c.requires.short.1 c.requires.short.2) c.node_at-parent.result c.node_at-parent.ensures) (c.children_of-children.ensures ∙ node_children (reading (work g.C.Cells c.args.cells.now)) c.args.at c.requires.short.1.keys (roots (suc c.requires.short.0) c.requires.short.1.children) (parent_node (work g.C.Cells c.args.cells.now) c.args.at c.requires.short.0 c.args.place c.requires.short.1 c.requires.short.2) c.node_at-parent.result c.node_at-parent.ensures) c.if-place-eq0.true)).0 (behind_there (work g.C.Cells c.args.cells.now) c.args.at c.requires.short.0 c.args.place c.requires.short.1 c.requires.short.2 c.keys_of-versions.result.now c.children_of-children.result.now (c.keys_of-versions.ensures ∙ node_keys (reading (work g.C.Cells c.args.cells.now)) c.args.at c.requires.short.1.keys (roots (suc c.requires.short.0) c.requires.short.1.children) (parent_node (work g.C.Cells c.args.cells.now) c.args.at c.requires.short.0 c.args.place c.requires.short.1 c.requires.short.2) c.node_at-parent.result c.node_at-parent.ensures) (c.children_of-children.ensures ∙ node_children (reading (work g.C.Cells c.args.cells.now)) c.args.at c.requires.short.1.keys (roots (suc c.requires.short.0) c.requires.short.1.children) (parent_node (work g.C.Cells c.args.cells.now) c.args.at c.requires.short.0 c.args.place c.requires.short.1 c.requires.short.2) c.node_at-parent.result c.node_at-parent.ensures) (first_below (work g.C.Cells c.args.cells.now) c.args.at c.requires.short.0 c.args.place c.requires.short.1 c.requires.short.2 c.keys_of-versions.result.now c.children_of-children.result.now (c.keys_of-versions.ensures ∙ node_keys (reading (work g.C.Cells c.args.cells.now)) c.args.at c.requires.short.1.keys (roots (suc c.requires.short.0) c.requires.short.1.children) (parent_node (work g.C.Cells c.args.cells.now) c.args.at c.requires.short.0 c.args.place c.requires.short.1 c.requires.short.2) c.node_at-parent.result c.node_at-parent.ensures) (c.children_of-children.ensures ∙ node_children (reading (work g.C.Cells c.args.cells.now)) c.args.at c.requires.short.1.keys (roots (suc c.requires.short.0) c.requires.short.1.children) (parent_node (work g.C.Cells c.args.cells.now) c.args.at c.requires.short.0 c.args.place c.requires.short.1 c.requires.short.2) c.node_at-parent.result c.node_at-parent.ensures) c.if-place-eq0.true)).1 (behind_there (work g.C.Cells c.args.cells.now) c.args.at c.requires.short.0 c.args.place c.requires.short.1 c.requires.short.2 c.keys_of-versions.result.now c.children_of-children.result.now (c.keys_of-versions.ensures ∙ node_keys (reading (work g.C.Cells c.args.cells.now)) c.args.at c.requires.short.1.keys (roots (suc c.requires.short.0) c.requires.short.1.children) (parent_node (work g.C.Cells c.args.cells.now) c.args.at c.requires.short.0 c.args.place c.requires.short.1 c.requires.short.2) c.node_at-parent.result c.node_at-parent.ensures) (c.children_of-children.ensures ∙ node_children (reading (work g.C.Cells c.args.cells.now)) c.args.at c.requires.short.1.keys (roots (suc c.requires.short.0) c.requires.short.1.children) (parent_node (work g.C.Cells c.args.cells.now) c.args.at c.requires.short.0 c.args.place c.requires.short.1 c.requires.short.2) c.node_at-parent.result c.node_at-parent.ensures) (first_below (work g.C.Cells c.args.cells.now) c.args.at c.requires.short.0 c.args.place c.requires.short.1 c.requires.short.2 c.keys_of-versions.result.now c.children_of-children.result.now (c.keys_of-versions.ensures ∙ node_keys (reading (work g.C.Cells c.args.cells.now)) c.args.at c.requires.short.1.keys (roots (suc c.requires.short.0) c.requires.short.1.children) (parent_node (work g.C.Cells c.args.cells.now) c.args.at c.requires.short.0 c.args.place c.requires.short.1 c.requires.short.2) c.node_at-parent.result c.node_at-parent.ensures) (c.children_of-children.ensures ∙ node_children (reading (work g.C.Cells c.args.cells.now)) c.args.at c.requires.short.1.keys (roots (suc c.requires.short.0) c.requires.short.1.children) (parent_node (work g.C.Cells c.args.cells.now) c.args.at c.requires.short.0 c.args.place c.requires.short.1 c.requires.short.2) c.node_at-parent.result c.node_at-parent.ensures) c.if-place-eq0.true)).2 (sym (c.can_spare.ensures (behind_there (work g.C.Cells c.args.cells.now) c.args.at c.requires.short.0 c.args.place c.requires.short.1 c.requires.short.2 c.keys_of-versions.result.now c.children_of-children.result.now (c.keys_of-versions.ensures ∙ node_keys (reading (work g.C.Cells c.args.cells.now)) c.args.at c.requires.short.1.keys (roots (suc c.requires.short.0) c.requires.short.1.children) (parent_node (work g.C.Cells c.args.cells.now) c.args.at c.requires.short.0 c.args.place c.requires.short.1 c.requires.short.2) c.node_at-parent.result c.node_at-parent.ensures) (c.children_of-children.ensures ∙ node_children (reading (work g.C.Cells c.args.cells.now)) c.args.at c.requires.short.1.keys (roots (suc c.requires.short.0) c.requires.short.1.children) (parent_node (work g.C.Cells c.args.cells.now) c.args.at c.requires.short.0 c.args.place c.requires.short.1 c.requires.short.2) c.node_at-parent.result c.node_at-parent.ensures) (first_below (work g.C.Cells c.args.cells.now) c.args.at c.requires.short.0 c.args.place c.requires.short.1 c.requires.short.2 c.keys_of-versions.result.now c.children_of-children.result.now (c.keys_of-versions.ensures ∙ node_keys (reading (work g.C.Cells c.args.cells.now)) c.args.at c.requires.short.1.keys (roots (suc c.requires.short.0) c.requires.short.1.children) (parent_node (work g.C.Cells c.args.cells.now) c.args.at c.requires.short.0 c.args.place c.requires.short.1 c.requires.short.2) c.node_at-parent.result c.node_at-parent.ensures) (c.children_of-children.ensures ∙ node_children (reading (work g.C.Cells c.args.cells.now)) c.args.at c.requires.short.1.keys (roots (suc c.requires.short.0) c.requires.short.1.children) (parent_node (work g.C.Cells c.args.cells.now) c.args.at c.requires.short.0 c.args.place c.requires.short.1 c.requires.short.2) c.node_at-parent.result c.node_at-parent.ensures) c.if-place-eq0.true)).0.keys (roots c.requires.short.0 (behind_there (work g.C.Cells c.args.cells.now) c.args.at c.requires.short.0 c.args.place c.requires.short.1 c.requires.short.2 c.keys_of-versions.result.now c.children_of-children.result.now (c.keys_of-versions.ensures ∙ node_keys (reading (work g.C.Cells c.args.cells.now)) c.args.at c.requires.short.1.keys (roots (suc c.requires.short.0) c.requires.short.1.children) (parent_node (work g.C.Cells c.args.cells.now) c.args.at c.requires.short.0 c.args.place c.requires.short.1 c.requires.short.2) c.node_at-parent.result c.node_at-parent.ensures) (c.children_of-children.ensures ∙ node_children (reading (work g.C.Cells c.args.cells.now)) c.args.at c.requires.short.1.keys (roots (suc c.requires.short.0) c.requires.short.1.children) (parent_node (work g.C.Cells c.args.cells.now) c.args.at c.requires.short.0 c.args.place c.requires.short.1 c.requires.short.2) c.node_at-parent.result c.node_at-parent.ensures) (first_below (work g.C.Cells c.args.cells.now) c.args.at c.requires.short.0 c.args.place c.requires.short.1 c.requires.short.2 c.keys_of-versions.result.now c.children_of-children.result.now (c.keys_of-versions.ensures ∙ node_keys (reading (work g.C.Cells c.args.cells.now)) c.args.at c.requires.short.1.keys (roots (suc c.requires.short.0) c.requires.short.1.children) (parent_node (work g.C.Cells c.args.cells.now) c.args.at c.requires.short.0 c.args.place c.requires.short.1 c.requires.short.2) c.node_at-parent.result c.node_at-parent.ensures) (c.children_of-children.ensures ∙ node_children (reading (work g.C.Cells c.args.cells.now)) c.args.at c.requires.short.1.keys (roots (suc c.requires.short.0) c.requires.short.1.children) (parent_node (work g.C.Cells c.args.cells.now) c.args.at c.requires.short.0 c.args.place c.requires.short.1 c.requires.short.2) c.node_at-parent.result c.node_at-parent.ensures) c.if-place-eq0.true)).0.children) (right_node (work g.C.Cells c.args.cells.now) c.args.at c.requires.short.0 c.args.place c.requires.short.1 c.requires.short.2 c.keys_of-versions.result.now c.children_of-children.result.now (c.keys_of-versions.ensures ∙ node_keys (reading (work g.C.Cells c.args.cells.now)) c.args.at c.requires.short.1.keys (roots (suc c.requires.short.0) c.requires.short.1.children) (parent_node (work g.C.Cells c.args.cells.now) c.args.at c.requires.short.0 c.args.place c.requires.short.1 c.requires.short.2) c.node_at-parent.result c.node_at-parent.ensures) (c.children_of-children.ensures ∙ node_children (reading (work g.C.Cells c.args.cells.now)) c.args.at c.requires.short.1.keys (roots (suc c.requires.short.0) c.requires.short.1.children) (parent_node (work g.C.Cells c.args.cells.now) c.args.at c.requires.short.0 c.args.place c.requires.short.1 c.requires.short.2) c.node_at-parent.result c.node_at-parent.ensures) (sym (c.has_enough.ensures c.requires.short.2.short.keys (roots c.requires.short.0 c.requires.short.2.short.children) (short_node (work g.C.Cells c.args.cells.now) c.args.at c.requires.short.0 c.args.place c.requires.short.1 c.requires.short.2 c.keys_of-versions.result.now c.children_of-children.result.now (c.keys_of-versions.ensures ∙ node_keys (reading (work g.C.Cells c.args.cells.now)) c.args.at c.requires.short.1.keys (roots (suc c.requires.short.0) c.requires.short.1.children) (parent_node (work g.C.Cells c.args.cells.now) c.args.at c.requires.short.0 c.args.place c.requires.short.1 c.requires.short.2) c.node_at-parent.result c.node_at-parent.ensures) (c.children_of-children.ensures ∙ node_children (reading (work g.C.Cells c.args.cells.now)) c.args.at c.requires.short.1.keys (roots (suc c.requires.short.0) c.requires.short.1.children) (parent_node (work g.C.Cells c.args.cells.now) c.args.at c.requires.short.0 c.args.place c.requires.short.1 c.requires.short.2) c.node_at-parent.result c.node_at-parent.ensures) (record { number = 0 }))) ∙ c.if-has_enough.false) (behind_there (work g.C.Cells c.args.cells.now) c.args.at c.requires.short.0 c.args.place c.requires.short.1 c.requires.short.2 c.keys_of-versions.result.now c.children_of-children.result.now (c.keys_of-versions.ensures ∙ node_keys (reading (work g.C.Cells c.args.cells.now)) c.args.at c.requires.short.1.keys (roots (suc c.requires.short.0) c.requires.short.1.children) (parent_node (work g.C.Cells c.args.cells.now) c.args.at c.requires.short.0 c.args.place c.requires.short.1 c.requires.short.2) c.node_at-parent.result c.node_at-parent.ensures) (c.children_of-children.ensures ∙ node_children (reading (work g.C.Cells c.args.cells.now)) c.args.at c.requires.short.1.keys (roots (suc c.requires.short.0) c.requires.short.1.children) (parent_node (work g.C.Cells c.args.cells.now) c.args.at c.requires.short.0 c.args.place c.requires.short.1 c.requires.short.2) c.node_at-parent.result c.node_at-parent.ensures) (first_below (work g.C.Cells c.args.cells.now) c.args.at c.requires.short.0 c.args.place c.requires.short.1 c.requires.short.2 c.keys_of-versions.result.now c.children_of-children.result.now (c.keys_of-versions.ensures ∙ node_keys (reading (work g.C.Cells c.args.cells.now)) c.args.at c.requires.short.1.keys (roots (suc c.requires.short.0) c.requires.short.1.children) (parent_node (work g.C.Cells c.args.cells.now) c.args.at c.requires.short.0 c.args.place c.requires.short.1 c.requires.short.2) c.node_at-parent.result c.node_at-parent.ensures) (c.children_of-children.ensures ∙ node_children (reading (work g.C.Cells c.args.cells.now)) c.args.at c.requires.short.1.keys (roots (suc c.requires.short.0) c.requires.short.1.children) (parent_node (work g.C.Cells c.args.cells.now) c.args.at c.requires.short.0 c.args.place c.requires.short.1 c.requires.short.2) c.node_at-parent.result c.node_at-parent.ensures) c.if-place-eq0.true)).0 (behind_there (work g.C.Cells c.args.cells.now) c.args.at c.requires.short.0 c.args.place c.requires.short.1 c.requires.short.2 c.keys_of-versions.result.now c.children_of-children.result.now (c.keys_of-versions.ensures ∙ node_keys (reading (work g.C.Cells c.args.cells.now)) c.args.at c.requires.short.1.keys (roots (suc c.requires.short.0) c.requires.short.1.children) (parent_node (work g.C.Cells c.args.cells.now) c.args.at c.requires.short.0 c.args.place c.requires.short.1 c.requires.short.2) c.node_at-parent.result c.node_at-parent.ensures) (c.children_of-children.ensures ∙ node_children (reading (work g.C.Cells c.args.cells.now)) c.args.at c.requires.short.1.keys (roots (suc c.requires.short.0) c.requires.short.1.children) (parent_node (work g.C.Cells c.args.cells.now) c.args.at c.requires.short.0 c.args.place c.requires.short.1 c.requires.short.2) c.node_at-parent.result c.node_at-parent.ensures) (first_below (work g.C.Cells c.args.cells.now) c.args.at c.requires.short.0 c.args.place c.requires.short.1 c.requires.short.2 c.keys_of-versions.result.now c.children_of-children.result.now (c.keys_of-versions.ensures ∙ node_keys (reading (work g.C.Cells c.args.cells.now)) c.args.at c.requires.short.1.keys (roots (suc c.requires.short.0) c.requires.short.1.children) (parent_node (work g.C.Cells c.args.cells.now) c.args.at c.requires.short.0 c.args.place c.requires.short.1 c.requires.short.2) c.node_at-parent.result c.node_at-parent.ensures) (c.children_of-children.ensures ∙ node_children (reading (work g.C.Cells c.args.cells.now)) c.args.at c.requires.short.1.keys (roots (suc c.requires.short.0) c.requires.short.1.children) (parent_node (work g.C.Cells c.args.cells.now) c.args.at c.requires.short.0 c.args.place c.requires.short.1 c.requires.short.2) c.node_at-parent.result c.node_at-parent.ensures) c.if-place-eq0.true)).1 (behind_there (work g.C.Cells c.args.cells.now) c.args.at c.requires.short.0 c.args.place c.requires.short.1 c.requires.short.2 c.keys_of-versions.result.now c.children_of-children.result.now (c.keys_of-versions.ensures ∙ node_keys (reading (work g.C.Cells c.args.cells.now)) c.args.at c.requires.short.1.keys (roots (suc c.requires.short.0) c.requires.short.1.children) (parent_node (work g.C.Cells c.args.cells.now) c.args.at c.requires.short.0 c.args.place c.requires.short.1 c.requires.short.2) c.node_at-parent.result c.node_at-parent.ensures) (c.children_of-children.ensures ∙ node_children (reading (work g.C.Cells c.args.cells.now)) c.args.at c.requires.short.1.keys (roots (suc c.requires.short.0) c.requires.short.1.children) (parent_node (work g.C.Cells c.args.cells.now) c.args.at c.requires.short.0 c.args.place c.requires.short.1 c.requires.short.2) c.node_at-parent.result c.node_at-parent.ensures) (first_below (work g.C.Cells c.args.cells.now) c.args.at c.requires.short.0 c.args.place c.requires.short.1 c.requires.short.2 c.keys_of-versions.result.now c.children_of-children.result.now (c.keys_of-versions.ensures ∙ node_keys (reading (work g.C.Cells c.args.cells.now)) c.args.at c.requires.short.1.keys (roots (suc c.requires.short.0) c.requires.short.1.children) (parent_node (work g.C.Cells c.args.cells.now) c.args.at c.requires.short.0 c.args.place c.requires.short.1 c.requires.short.2) c.node_at-parent.result c.node_at-parent.ensures) (c.children_of-children.ensures ∙ node_children (reading (work g.C.Cells c.args.cells.now)) c.args.at c.requires.short.1.keys (roots (suc c.requires.short.0) c.requires.short.1.children) (parent_node (work g.C.Cells c.args.cells.now) c.args.at c.requires.short.0 c.args.place c.requires.short.1 c.requires.short.2) c.node_at-parent.result c.node_at-parent.ensures) c.if-place-eq0.true)).2 (record { number = 0 }))) ∙ c.if-can_spare.true)

pub returns-then-can_spare-clause-mended : goal.returns-then-can_spare-clause-mended
returns-then-can_spare-clause-mended g c =
    λ h t s. right_shared (work g.C.Cells c.args.cells.now) c.args.at h c.args.place t s c.keys_of-versions.result.now c.children_of-children.result.now (c.keys_of-versions.ensures ∙ node_keys (reading (work g.C.Cells c.args.cells.now)) c.args.at t.keys (roots (suc h) t.children) (parent_node (work g.C.Cells c.args.cells.now) c.args.at h c.args.place t s) c.node_at-parent.result c.node_at-parent.ensures) (c.children_of-children.ensures ∙ node_children (reading (work g.C.Cells c.args.cells.now)) c.args.at t.keys (roots (suc h) t.children) (parent_node (work g.C.Cells c.args.cells.now) c.args.at h c.args.place t s) c.node_at-parent.result c.node_at-parent.ensures) (sym (c.has_enough.ensures s.short.keys (roots h s.short.children) (short_node (work g.C.Cells c.args.cells.now) c.args.at h c.args.place t s c.keys_of-versions.result.now c.children_of-children.result.now (c.keys_of-versions.ensures ∙ node_keys (reading (work g.C.Cells c.args.cells.now)) c.args.at t.keys (roots (suc h) t.children) (parent_node (work g.C.Cells c.args.cells.now) c.args.at h c.args.place t s) c.node_at-parent.result c.node_at-parent.ensures) (c.children_of-children.ensures ∙ node_children (reading (work g.C.Cells c.args.cells.now)) c.args.at t.keys (roots (suc h) t.children) (parent_node (work g.C.Cells c.args.cells.now) c.args.at h c.args.place t s) c.node_at-parent.result c.node_at-parent.ensures) (record { number = 0 }))) ∙ c.if-has_enough.false) (behind_there (work g.C.Cells c.args.cells.now) c.args.at h c.args.place t s c.keys_of-versions.result.now c.children_of-children.result.now (c.keys_of-versions.ensures ∙ node_keys (reading (work g.C.Cells c.args.cells.now)) c.args.at t.keys (roots (suc h) t.children) (parent_node (work g.C.Cells c.args.cells.now) c.args.at h c.args.place t s) c.node_at-parent.result c.node_at-parent.ensures) (c.children_of-children.ensures ∙ node_children (reading (work g.C.Cells c.args.cells.now)) c.args.at t.keys (roots (suc h) t.children) (parent_node (work g.C.Cells c.args.cells.now) c.args.at h c.args.place t s) c.node_at-parent.result c.node_at-parent.ensures) (first_below (work g.C.Cells c.args.cells.now) c.args.at h c.args.place t s c.keys_of-versions.result.now c.children_of-children.result.now (c.keys_of-versions.ensures ∙ node_keys (reading (work g.C.Cells c.args.cells.now)) c.args.at t.keys (roots (suc h) t.children) (parent_node (work g.C.Cells c.args.cells.now) c.args.at h c.args.place t s) c.node_at-parent.result c.node_at-parent.ensures) (c.children_of-children.ensures ∙ node_children (reading (work g.C.Cells c.args.cells.now)) c.args.at t.keys (roots (suc h) t.children) (parent_node (work g.C.Cells c.args.cells.now) c.args.at h c.args.place t s) c.node_at-parent.result c.node_at-parent.ensures) c.if-place-eq0.true)).0 (behind_there (work g.C.Cells c.args.cells.now) c.args.at h c.args.place t s c.keys_of-versions.result.now c.children_of-children.result.now (c.keys_of-versions.ensures ∙ node_keys (reading (work g.C.Cells c.args.cells.now)) c.args.at t.keys (roots (suc h) t.children) (parent_node (work g.C.Cells c.args.cells.now) c.args.at h c.args.place t s) c.node_at-parent.result c.node_at-parent.ensures) (c.children_of-children.ensures ∙ node_children (reading (work g.C.Cells c.args.cells.now)) c.args.at t.keys (roots (suc h) t.children) (parent_node (work g.C.Cells c.args.cells.now) c.args.at h c.args.place t s) c.node_at-parent.result c.node_at-parent.ensures) (first_below (work g.C.Cells c.args.cells.now) c.args.at h c.args.place t s c.keys_of-versions.result.now c.children_of-children.result.now (c.keys_of-versions.ensures ∙ node_keys (reading (work g.C.Cells c.args.cells.now)) c.args.at t.keys (roots (suc h) t.children) (parent_node (work g.C.Cells c.args.cells.now) c.args.at h c.args.place t s) c.node_at-parent.result c.node_at-parent.ensures) (c.children_of-children.ensures ∙ node_children (reading (work g.C.Cells c.args.cells.now)) c.args.at t.keys (roots (suc h) t.children) (parent_node (work g.C.Cells c.args.cells.now) c.args.at h c.args.place t s) c.node_at-parent.result c.node_at-parent.ensures) c.if-place-eq0.true)).1 (behind_there (work g.C.Cells c.args.cells.now) c.args.at h c.args.place t s c.keys_of-versions.result.now c.children_of-children.result.now (c.keys_of-versions.ensures ∙ node_keys (reading (work g.C.Cells c.args.cells.now)) c.args.at t.keys (roots (suc h) t.children) (parent_node (work g.C.Cells c.args.cells.now) c.args.at h c.args.place t s) c.node_at-parent.result c.node_at-parent.ensures) (c.children_of-children.ensures ∙ node_children (reading (work g.C.Cells c.args.cells.now)) c.args.at t.keys (roots (suc h) t.children) (parent_node (work g.C.Cells c.args.cells.now) c.args.at h c.args.place t s) c.node_at-parent.result c.node_at-parent.ensures) (first_below (work g.C.Cells c.args.cells.now) c.args.at h c.args.place t s c.keys_of-versions.result.now c.children_of-children.result.now (c.keys_of-versions.ensures ∙ node_keys (reading (work g.C.Cells c.args.cells.now)) c.args.at t.keys (roots (suc h) t.children) (parent_node (work g.C.Cells c.args.cells.now) c.args.at h c.args.place t s) c.node_at-parent.result c.node_at-parent.ensures) (c.children_of-children.ensures ∙ node_children (reading (work g.C.Cells c.args.cells.now)) c.args.at t.keys (roots (suc h) t.children) (parent_node (work g.C.Cells c.args.cells.now) c.args.at h c.args.place t s) c.node_at-parent.result c.node_at-parent.ensures) c.if-place-eq0.true)).2 (sym (c.can_spare.ensures (behind_there (work g.C.Cells c.args.cells.now) c.args.at h c.args.place t s c.keys_of-versions.result.now c.children_of-children.result.now (c.keys_of-versions.ensures ∙ node_keys (reading (work g.C.Cells c.args.cells.now)) c.args.at t.keys (roots (suc h) t.children) (parent_node (work g.C.Cells c.args.cells.now) c.args.at h c.args.place t s) c.node_at-parent.result c.node_at-parent.ensures) (c.children_of-children.ensures ∙ node_children (reading (work g.C.Cells c.args.cells.now)) c.args.at t.keys (roots (suc h) t.children) (parent_node (work g.C.Cells c.args.cells.now) c.args.at h c.args.place t s) c.node_at-parent.result c.node_at-parent.ensures) (first_below (work g.C.Cells c.args.cells.now) c.args.at h c.args.place t s c.keys_of-versions.result.now c.children_of-children.result.now (c.keys_of-versions.ensures ∙ node_keys (reading (work g.C.Cells c.args.cells.now)) c.args.at t.keys (roots (suc h) t.children) (parent_node (work g.C.Cells c.args.cells.now) c.args.at h c.args.place t s) c.node_at-parent.result c.node_at-parent.ensures) (c.children_of-children.ensures ∙ node_children (reading (work g.C.Cells c.args.cells.now)) c.args.at t.keys (roots (suc h) t.children) (parent_node (work g.C.Cells c.args.cells.now) c.args.at h c.args.place t s) c.node_at-parent.result c.node_at-parent.ensures) c.if-place-eq0.true)).0.keys (roots h (behind_there (work g.C.Cells c.args.cells.now) c.args.at h c.args.place t s c.keys_of-versions.result.now c.children_of-children.result.now (c.keys_of-versions.ensures ∙ node_keys (reading (work g.C.Cells c.args.cells.now)) c.args.at t.keys (roots (suc h) t.children) (parent_node (work g.C.Cells c.args.cells.now) c.args.at h c.args.place t s) c.node_at-parent.result c.node_at-parent.ensures) (c.children_of-children.ensures ∙ node_children (reading (work g.C.Cells c.args.cells.now)) c.args.at t.keys (roots (suc h) t.children) (parent_node (work g.C.Cells c.args.cells.now) c.args.at h c.args.place t s) c.node_at-parent.result c.node_at-parent.ensures) (first_below (work g.C.Cells c.args.cells.now) c.args.at h c.args.place t s c.keys_of-versions.result.now c.children_of-children.result.now (c.keys_of-versions.ensures ∙ node_keys (reading (work g.C.Cells c.args.cells.now)) c.args.at t.keys (roots (suc h) t.children) (parent_node (work g.C.Cells c.args.cells.now) c.args.at h c.args.place t s) c.node_at-parent.result c.node_at-parent.ensures) (c.children_of-children.ensures ∙ node_children (reading (work g.C.Cells c.args.cells.now)) c.args.at t.keys (roots (suc h) t.children) (parent_node (work g.C.Cells c.args.cells.now) c.args.at h c.args.place t s) c.node_at-parent.result c.node_at-parent.ensures) c.if-place-eq0.true)).0.children) (right_node (work g.C.Cells c.args.cells.now) c.args.at h c.args.place t s c.keys_of-versions.result.now c.children_of-children.result.now (c.keys_of-versions.ensures ∙ node_keys (reading (work g.C.Cells c.args.cells.now)) c.args.at t.keys (roots (suc h) t.children) (parent_node (work g.C.Cells c.args.cells.now) c.args.at h c.args.place t s) c.node_at-parent.result c.node_at-parent.ensures) (c.children_of-children.ensures ∙ node_children (reading (work g.C.Cells c.args.cells.now)) c.args.at t.keys (roots (suc h) t.children) (parent_node (work g.C.Cells c.args.cells.now) c.args.at h c.args.place t s) c.node_at-parent.result c.node_at-parent.ensures) (sym (c.has_enough.ensures s.short.keys (roots h s.short.children) (short_node (work g.C.Cells c.args.cells.now) c.args.at h c.args.place t s c.keys_of-versions.result.now c.children_of-children.result.now (c.keys_of-versions.ensures ∙ node_keys (reading (work g.C.Cells c.args.cells.now)) c.args.at t.keys (roots (suc h) t.children) (parent_node (work g.C.Cells c.args.cells.now) c.args.at h c.args.place t s) c.node_at-parent.result c.node_at-parent.ensures) (c.children_of-children.ensures ∙ node_children (reading (work g.C.Cells c.args.cells.now)) c.args.at t.keys (roots (suc h) t.children) (parent_node (work g.C.Cells c.args.cells.now) c.args.at h c.args.place t s) c.node_at-parent.result c.node_at-parent.ensures) (record { number = 0 }))) ∙ c.if-has_enough.false) (behind_there (work g.C.Cells c.args.cells.now) c.args.at h c.args.place t s c.keys_of-versions.result.now c.children_of-children.result.now (c.keys_of-versions.ensures ∙ node_keys (reading (work g.C.Cells c.args.cells.now)) c.args.at t.keys (roots (suc h) t.children) (parent_node (work g.C.Cells c.args.cells.now) c.args.at h c.args.place t s) c.node_at-parent.result c.node_at-parent.ensures) (c.children_of-children.ensures ∙ node_children (reading (work g.C.Cells c.args.cells.now)) c.args.at t.keys (roots (suc h) t.children) (parent_node (work g.C.Cells c.args.cells.now) c.args.at h c.args.place t s) c.node_at-parent.result c.node_at-parent.ensures) (first_below (work g.C.Cells c.args.cells.now) c.args.at h c.args.place t s c.keys_of-versions.result.now c.children_of-children.result.now (c.keys_of-versions.ensures ∙ node_keys (reading (work g.C.Cells c.args.cells.now)) c.args.at t.keys (roots (suc h) t.children) (parent_node (work g.C.Cells c.args.cells.now) c.args.at h c.args.place t s) c.node_at-parent.result c.node_at-parent.ensures) (c.children_of-children.ensures ∙ node_children (reading (work g.C.Cells c.args.cells.now)) c.args.at t.keys (roots (suc h) t.children) (parent_node (work g.C.Cells c.args.cells.now) c.args.at h c.args.place t s) c.node_at-parent.result c.node_at-parent.ensures) c.if-place-eq0.true)).0 (behind_there (work g.C.Cells c.args.cells.now) c.args.at h c.args.place t s c.keys_of-versions.result.now c.children_of-children.result.now (c.keys_of-versions.ensures ∙ node_keys (reading (work g.C.Cells c.args.cells.now)) c.args.at t.keys (roots (suc h) t.children) (parent_node (work g.C.Cells c.args.cells.now) c.args.at h c.args.place t s) c.node_at-parent.result c.node_at-parent.ensures) (c.children_of-children.ensures ∙ node_children (reading (work g.C.Cells c.args.cells.now)) c.args.at t.keys (roots (suc h) t.children) (parent_node (work g.C.Cells c.args.cells.now) c.args.at h c.args.place t s) c.node_at-parent.result c.node_at-parent.ensures) (first_below (work g.C.Cells c.args.cells.now) c.args.at h c.args.place t s c.keys_of-versions.result.now c.children_of-children.result.now (c.keys_of-versions.ensures ∙ node_keys (reading (work g.C.Cells c.args.cells.now)) c.args.at t.keys (roots (suc h) t.children) (parent_node (work g.C.Cells c.args.cells.now) c.args.at h c.args.place t s) c.node_at-parent.result c.node_at-parent.ensures) (c.children_of-children.ensures ∙ node_children (reading (work g.C.Cells c.args.cells.now)) c.args.at t.keys (roots (suc h) t.children) (parent_node (work g.C.Cells c.args.cells.now) c.args.at h c.args.place t s) c.node_at-parent.result c.node_at-parent.ensures) c.if-place-eq0.true)).1 (behind_there (work g.C.Cells c.args.cells.now) c.args.at h c.args.place t s c.keys_of-versions.result.now c.children_of-children.result.now (c.keys_of-versions.ensures ∙ node_keys (reading (work g.C.Cells c.args.cells.now)) c.args.at t.keys (roots (suc h) t.children) (parent_node (work g.C.Cells c.args.cells.now) c.args.at h c.args.place t s) c.node_at-parent.result c.node_at-parent.ensures) (c.children_of-children.ensures ∙ node_children (reading (work g.C.Cells c.args.cells.now)) c.args.at t.keys (roots (suc h) t.children) (parent_node (work g.C.Cells c.args.cells.now) c.args.at h c.args.place t s) c.node_at-parent.result c.node_at-parent.ensures) (first_below (work g.C.Cells c.args.cells.now) c.args.at h c.args.place t s c.keys_of-versions.result.now c.children_of-children.result.now (c.keys_of-versions.ensures ∙ node_keys (reading (work g.C.Cells c.args.cells.now)) c.args.at t.keys (roots (suc h) t.children) (parent_node (work g.C.Cells c.args.cells.now) c.args.at h c.args.place t s) c.node_at-parent.result c.node_at-parent.ensures) (c.children_of-children.ensures ∙ node_children (reading (work g.C.Cells c.args.cells.now)) c.args.at t.keys (roots (suc h) t.children) (parent_node (work g.C.Cells c.args.cells.now) c.args.at h c.args.place t s) c.node_at-parent.result c.node_at-parent.ensures) c.if-place-eq0.true)).2 (record { number = 0 }))) ∙ c.if-can_spare.true) (work g.C.Cells c.share_from_right.new.cells) c.share_from_right.ensures.work

pub merge-requires-clause-siblings : goal.merge-requires-clause-siblings
merge-requires-clause-siblings g c =
    right_merge_siblings (work g.C.Cells c.args.cells.now) c.args.at c.requires.short.0 c.args.place c.requires.short.1 c.requires.short.2 c.keys_of-versions.result.now c.children_of-children.result.now (c.keys_of-versions.ensures ∙ node_keys (reading (work g.C.Cells c.args.cells.now)) c.args.at c.requires.short.1.keys (roots (suc c.requires.short.0) c.requires.short.1.children) (parent_node (work g.C.Cells c.args.cells.now) c.args.at c.requires.short.0 c.args.place c.requires.short.1 c.requires.short.2) c.node_at-parent.result c.node_at-parent.ensures) (c.children_of-children.ensures ∙ node_children (reading (work g.C.Cells c.args.cells.now)) c.args.at c.requires.short.1.keys (roots (suc c.requires.short.0) c.requires.short.1.children) (parent_node (work g.C.Cells c.args.cells.now) c.args.at c.requires.short.0 c.args.place c.requires.short.1 c.requires.short.2) c.node_at-parent.result c.node_at-parent.ensures) (sym (c.has_enough.ensures c.requires.short.2.short.keys (roots c.requires.short.0 c.requires.short.2.short.children) (short_node (work g.C.Cells c.args.cells.now) c.args.at c.requires.short.0 c.args.place c.requires.short.1 c.requires.short.2 c.keys_of-versions.result.now c.children_of-children.result.now (c.keys_of-versions.ensures ∙ node_keys (reading (work g.C.Cells c.args.cells.now)) c.args.at c.requires.short.1.keys (roots (suc c.requires.short.0) c.requires.short.1.children) (parent_node (work g.C.Cells c.args.cells.now) c.args.at c.requires.short.0 c.args.place c.requires.short.1 c.requires.short.2) c.node_at-parent.result c.node_at-parent.ensures) (c.children_of-children.ensures ∙ node_children (reading (work g.C.Cells c.args.cells.now)) c.args.at c.requires.short.1.keys (roots (suc c.requires.short.0) c.requires.short.1.children) (parent_node (work g.C.Cells c.args.cells.now) c.args.at c.requires.short.0 c.args.place c.requires.short.1 c.requires.short.2) c.node_at-parent.result c.node_at-parent.ensures) (record { number = 0 }))) ∙ c.if-has_enough.false) (behind_there (work g.C.Cells c.args.cells.now) c.args.at c.requires.short.0 c.args.place c.requires.short.1 c.requires.short.2 c.keys_of-versions.result.now c.children_of-children.result.now (c.keys_of-versions.ensures ∙ node_keys (reading (work g.C.Cells c.args.cells.now)) c.args.at c.requires.short.1.keys (roots (suc c.requires.short.0) c.requires.short.1.children) (parent_node (work g.C.Cells c.args.cells.now) c.args.at c.requires.short.0 c.args.place c.requires.short.1 c.requires.short.2) c.node_at-parent.result c.node_at-parent.ensures) (c.children_of-children.ensures ∙ node_children (reading (work g.C.Cells c.args.cells.now)) c.args.at c.requires.short.1.keys (roots (suc c.requires.short.0) c.requires.short.1.children) (parent_node (work g.C.Cells c.args.cells.now) c.args.at c.requires.short.0 c.args.place c.requires.short.1 c.requires.short.2) c.node_at-parent.result c.node_at-parent.ensures) (first_below (work g.C.Cells c.args.cells.now) c.args.at c.requires.short.0 c.args.place c.requires.short.1 c.requires.short.2 c.keys_of-versions.result.now c.children_of-children.result.now (c.keys_of-versions.ensures ∙ node_keys (reading (work g.C.Cells c.args.cells.now)) c.args.at c.requires.short.1.keys (roots (suc c.requires.short.0) c.requires.short.1.children) (parent_node (work g.C.Cells c.args.cells.now) c.args.at c.requires.short.0 c.args.place c.requires.short.1 c.requires.short.2) c.node_at-parent.result c.node_at-parent.ensures) (c.children_of-children.ensures ∙ node_children (reading (work g.C.Cells c.args.cells.now)) c.args.at c.requires.short.1.keys (roots (suc c.requires.short.0) c.requires.short.1.children) (parent_node (work g.C.Cells c.args.cells.now) c.args.at c.requires.short.0 c.args.place c.requires.short.1 c.requires.short.2) c.node_at-parent.result c.node_at-parent.ensures) c.if-place-eq0.true)).0 (behind_there (work g.C.Cells c.args.cells.now) c.args.at c.requires.short.0 c.args.place c.requires.short.1 c.requires.short.2 c.keys_of-versions.result.now c.children_of-children.result.now (c.keys_of-versions.ensures ∙ node_keys (reading (work g.C.Cells c.args.cells.now)) c.args.at c.requires.short.1.keys (roots (suc c.requires.short.0) c.requires.short.1.children) (parent_node (work g.C.Cells c.args.cells.now) c.args.at c.requires.short.0 c.args.place c.requires.short.1 c.requires.short.2) c.node_at-parent.result c.node_at-parent.ensures) (c.children_of-children.ensures ∙ node_children (reading (work g.C.Cells c.args.cells.now)) c.args.at c.requires.short.1.keys (roots (suc c.requires.short.0) c.requires.short.1.children) (parent_node (work g.C.Cells c.args.cells.now) c.args.at c.requires.short.0 c.args.place c.requires.short.1 c.requires.short.2) c.node_at-parent.result c.node_at-parent.ensures) (first_below (work g.C.Cells c.args.cells.now) c.args.at c.requires.short.0 c.args.place c.requires.short.1 c.requires.short.2 c.keys_of-versions.result.now c.children_of-children.result.now (c.keys_of-versions.ensures ∙ node_keys (reading (work g.C.Cells c.args.cells.now)) c.args.at c.requires.short.1.keys (roots (suc c.requires.short.0) c.requires.short.1.children) (parent_node (work g.C.Cells c.args.cells.now) c.args.at c.requires.short.0 c.args.place c.requires.short.1 c.requires.short.2) c.node_at-parent.result c.node_at-parent.ensures) (c.children_of-children.ensures ∙ node_children (reading (work g.C.Cells c.args.cells.now)) c.args.at c.requires.short.1.keys (roots (suc c.requires.short.0) c.requires.short.1.children) (parent_node (work g.C.Cells c.args.cells.now) c.args.at c.requires.short.0 c.args.place c.requires.short.1 c.requires.short.2) c.node_at-parent.result c.node_at-parent.ensures) c.if-place-eq0.true)).1 (behind_there (work g.C.Cells c.args.cells.now) c.args.at c.requires.short.0 c.args.place c.requires.short.1 c.requires.short.2 c.keys_of-versions.result.now c.children_of-children.result.now (c.keys_of-versions.ensures ∙ node_keys (reading (work g.C.Cells c.args.cells.now)) c.args.at c.requires.short.1.keys (roots (suc c.requires.short.0) c.requires.short.1.children) (parent_node (work g.C.Cells c.args.cells.now) c.args.at c.requires.short.0 c.args.place c.requires.short.1 c.requires.short.2) c.node_at-parent.result c.node_at-parent.ensures) (c.children_of-children.ensures ∙ node_children (reading (work g.C.Cells c.args.cells.now)) c.args.at c.requires.short.1.keys (roots (suc c.requires.short.0) c.requires.short.1.children) (parent_node (work g.C.Cells c.args.cells.now) c.args.at c.requires.short.0 c.args.place c.requires.short.1 c.requires.short.2) c.node_at-parent.result c.node_at-parent.ensures) (first_below (work g.C.Cells c.args.cells.now) c.args.at c.requires.short.0 c.args.place c.requires.short.1 c.requires.short.2 c.keys_of-versions.result.now c.children_of-children.result.now (c.keys_of-versions.ensures ∙ node_keys (reading (work g.C.Cells c.args.cells.now)) c.args.at c.requires.short.1.keys (roots (suc c.requires.short.0) c.requires.short.1.children) (parent_node (work g.C.Cells c.args.cells.now) c.args.at c.requires.short.0 c.args.place c.requires.short.1 c.requires.short.2) c.node_at-parent.result c.node_at-parent.ensures) (c.children_of-children.ensures ∙ node_children (reading (work g.C.Cells c.args.cells.now)) c.args.at c.requires.short.1.keys (roots (suc c.requires.short.0) c.requires.short.1.children) (parent_node (work g.C.Cells c.args.cells.now) c.args.at c.requires.short.0 c.args.place c.requires.short.1 c.requires.short.2) c.node_at-parent.result c.node_at-parent.ensures) c.if-place-eq0.true)).2 (sym (c.can_spare.ensures (behind_there (work g.C.Cells c.args.cells.now) c.args.at c.requires.short.0 c.args.place c.requires.short.1 c.requires.short.2 c.keys_of-versions.result.now c.children_of-children.result.now (c.keys_of-versions.ensures ∙ node_keys (reading (work g.C.Cells c.args.cells.now)) c.args.at c.requires.short.1.keys (roots (suc c.requires.short.0) c.requires.short.1.children) (parent_node (work g.C.Cells c.args.cells.now) c.args.at c.requires.short.0 c.args.place c.requires.short.1 c.requires.short.2) c.node_at-parent.result c.node_at-parent.ensures) (c.children_of-children.ensures ∙ node_children (reading (work g.C.Cells c.args.cells.now)) c.args.at c.requires.short.1.keys (roots (suc c.requires.short.0) c.requires.short.1.children) (parent_node (work g.C.Cells c.args.cells.now) c.args.at c.requires.short.0 c.args.place c.requires.short.1 c.requires.short.2) c.node_at-parent.result c.node_at-parent.ensures) (first_below (work g.C.Cells c.args.cells.now) c.args.at c.requires.short.0 c.args.place c.requires.short.1 c.requires.short.2 c.keys_of-versions.result.now c.children_of-children.result.now (c.keys_of-versions.ensures ∙ node_keys (reading (work g.C.Cells c.args.cells.now)) c.args.at c.requires.short.1.keys (roots (suc c.requires.short.0) c.requires.short.1.children) (parent_node (work g.C.Cells c.args.cells.now) c.args.at c.requires.short.0 c.args.place c.requires.short.1 c.requires.short.2) c.node_at-parent.result c.node_at-parent.ensures) (c.children_of-children.ensures ∙ node_children (reading (work g.C.Cells c.args.cells.now)) c.args.at c.requires.short.1.keys (roots (suc c.requires.short.0) c.requires.short.1.children) (parent_node (work g.C.Cells c.args.cells.now) c.args.at c.requires.short.0 c.args.place c.requires.short.1 c.requires.short.2) c.node_at-parent.result c.node_at-parent.ensures) c.if-place-eq0.true)).0.keys (roots c.requires.short.0 (behind_there (work g.C.Cells c.args.cells.now) c.args.at c.requires.short.0 c.args.place c.requires.short.1 c.requires.short.2 c.keys_of-versions.result.now c.children_of-children.result.now (c.keys_of-versions.ensures ∙ node_keys (reading (work g.C.Cells c.args.cells.now)) c.args.at c.requires.short.1.keys (roots (suc c.requires.short.0) c.requires.short.1.children) (parent_node (work g.C.Cells c.args.cells.now) c.args.at c.requires.short.0 c.args.place c.requires.short.1 c.requires.short.2) c.node_at-parent.result c.node_at-parent.ensures) (c.children_of-children.ensures ∙ node_children (reading (work g.C.Cells c.args.cells.now)) c.args.at c.requires.short.1.keys (roots (suc c.requires.short.0) c.requires.short.1.children) (parent_node (work g.C.Cells c.args.cells.now) c.args.at c.requires.short.0 c.args.place c.requires.short.1 c.requires.short.2) c.node_at-parent.result c.node_at-parent.ensures) (first_below (work g.C.Cells c.args.cells.now) c.args.at c.requires.short.0 c.args.place c.requires.short.1 c.requires.short.2 c.keys_of-versions.result.now c.children_of-children.result.now (c.keys_of-versions.ensures ∙ node_keys (reading (work g.C.Cells c.args.cells.now)) c.args.at c.requires.short.1.keys (roots (suc c.requires.short.0) c.requires.short.1.children) (parent_node (work g.C.Cells c.args.cells.now) c.args.at c.requires.short.0 c.args.place c.requires.short.1 c.requires.short.2) c.node_at-parent.result c.node_at-parent.ensures) (c.children_of-children.ensures ∙ node_children (reading (work g.C.Cells c.args.cells.now)) c.args.at c.requires.short.1.keys (roots (suc c.requires.short.0) c.requires.short.1.children) (parent_node (work g.C.Cells c.args.cells.now) c.args.at c.requires.short.0 c.args.place c.requires.short.1 c.requires.short.2) c.node_at-parent.result c.node_at-parent.ensures) c.if-place-eq0.true)).0.children) (right_node (work g.C.Cells c.args.cells.now) c.args.at c.requires.short.0 c.args.place c.requires.short.1 c.requires.short.2 c.keys_of-versions.result.now c.children_of-children.result.now (c.keys_of-versions.ensures ∙ node_keys (reading (work g.C.Cells c.args.cells.now)) c.args.at c.requires.short.1.keys (roots (suc c.requires.short.0) c.requires.short.1.children) (parent_node (work g.C.Cells c.args.cells.now) c.args.at c.requires.short.0 c.args.place c.requires.short.1 c.requires.short.2) c.node_at-parent.result c.node_at-parent.ensures) (c.children_of-children.ensures ∙ node_children (reading (work g.C.Cells c.args.cells.now)) c.args.at c.requires.short.1.keys (roots (suc c.requires.short.0) c.requires.short.1.children) (parent_node (work g.C.Cells c.args.cells.now) c.args.at c.requires.short.0 c.args.place c.requires.short.1 c.requires.short.2) c.node_at-parent.result c.node_at-parent.ensures) (sym (c.has_enough.ensures c.requires.short.2.short.keys (roots c.requires.short.0 c.requires.short.2.short.children) (short_node (work g.C.Cells c.args.cells.now) c.args.at c.requires.short.0 c.args.place c.requires.short.1 c.requires.short.2 c.keys_of-versions.result.now c.children_of-children.result.now (c.keys_of-versions.ensures ∙ node_keys (reading (work g.C.Cells c.args.cells.now)) c.args.at c.requires.short.1.keys (roots (suc c.requires.short.0) c.requires.short.1.children) (parent_node (work g.C.Cells c.args.cells.now) c.args.at c.requires.short.0 c.args.place c.requires.short.1 c.requires.short.2) c.node_at-parent.result c.node_at-parent.ensures) (c.children_of-children.ensures ∙ node_children (reading (work g.C.Cells c.args.cells.now)) c.args.at c.requires.short.1.keys (roots (suc c.requires.short.0) c.requires.short.1.children) (parent_node (work g.C.Cells c.args.cells.now) c.args.at c.requires.short.0 c.args.place c.requires.short.1 c.requires.short.2) c.node_at-parent.result c.node_at-parent.ensures) (record { number = 0 }))) ∙ c.if-has_enough.false) (behind_there (work g.C.Cells c.args.cells.now) c.args.at c.requires.short.0 c.args.place c.requires.short.1 c.requires.short.2 c.keys_of-versions.result.now c.children_of-children.result.now (c.keys_of-versions.ensures ∙ node_keys (reading (work g.C.Cells c.args.cells.now)) c.args.at c.requires.short.1.keys (roots (suc c.requires.short.0) c.requires.short.1.children) (parent_node (work g.C.Cells c.args.cells.now) c.args.at c.requires.short.0 c.args.place c.requires.short.1 c.requires.short.2) c.node_at-parent.result c.node_at-parent.ensures) (c.children_of-children.ensures ∙ node_children (reading (work g.C.Cells c.args.cells.now)) c.args.at c.requires.short.1.keys (roots (suc c.requires.short.0) c.requires.short.1.children) (parent_node (work g.C.Cells c.args.cells.now) c.args.at c.requires.short.0 c.args.place c.requires.short.1 c.requires.short.2) c.node_at-parent.result c.node_at-parent.ensures) (first_below (work g.C.Cells c.args.cells.now) c.args.at c.requires.short.0 c.args.place c.requires.short.1 c.requires.short.2 c.keys_of-versions.result.now c.children_of-children.result.now (c.keys_of-versions.ensures ∙ node_keys (reading (work g.C.Cells c.args.cells.now)) c.args.at c.requires.short.1.keys (roots (suc c.requires.short.0) c.requires.short.1.children) (parent_node (work g.C.Cells c.args.cells.now) c.args.at c.requires.short.0 c.args.place c.requires.short.1 c.requires.short.2) c.node_at-parent.result c.node_at-parent.ensures) (c.children_of-children.ensures ∙ node_children (reading (work g.C.Cells c.args.cells.now)) c.args.at c.requires.short.1.keys (roots (suc c.requires.short.0) c.requires.short.1.children) (parent_node (work g.C.Cells c.args.cells.now) c.args.at c.requires.short.0 c.args.place c.requires.short.1 c.requires.short.2) c.node_at-parent.result c.node_at-parent.ensures) c.if-place-eq0.true)).0 (behind_there (work g.C.Cells c.args.cells.now) c.args.at c.requires.short.0 c.args.place c.requires.short.1 c.requires.short.2 c.keys_of-versions.result.now c.children_of-children.result.now (c.keys_of-versions.ensures ∙ node_keys (reading (work g.C.Cells c.args.cells.now)) c.args.at c.requires.short.1.keys (roots (suc c.requires.short.0) c.requires.short.1.children) (parent_node (work g.C.Cells c.args.cells.now) c.args.at c.requires.short.0 c.args.place c.requires.short.1 c.requires.short.2) c.node_at-parent.result c.node_at-parent.ensures) (c.children_of-children.ensures ∙ node_children (reading (work g.C.Cells c.args.cells.now)) c.args.at c.requires.short.1.keys (roots (suc c.requires.short.0) c.requires.short.1.children) (parent_node (work g.C.Cells c.args.cells.now) c.args.at c.requires.short.0 c.args.place c.requires.short.1 c.requires.short.2) c.node_at-parent.result c.node_at-parent.ensures) (first_below (work g.C.Cells c.args.cells.now) c.args.at c.requires.short.0 c.args.place c.requires.short.1 c.requires.short.2 c.keys_of-versions.result.now c.children_of-children.result.now (c.keys_of-versions.ensures ∙ node_keys (reading (work g.C.Cells c.args.cells.now)) c.args.at c.requires.short.1.keys (roots (suc c.requires.short.0) c.requires.short.1.children) (parent_node (work g.C.Cells c.args.cells.now) c.args.at c.requires.short.0 c.args.place c.requires.short.1 c.requires.short.2) c.node_at-parent.result c.node_at-parent.ensures) (c.children_of-children.ensures ∙ node_children (reading (work g.C.Cells c.args.cells.now)) c.args.at c.requires.short.1.keys (roots (suc c.requires.short.0) c.requires.short.1.children) (parent_node (work g.C.Cells c.args.cells.now) c.args.at c.requires.short.0 c.args.place c.requires.short.1 c.requires.short.2) c.node_at-parent.result c.node_at-parent.ensures) c.if-place-eq0.true)).1 (behind_there (work g.C.Cells c.args.cells.now) c.args.at c.requires.short.0 c.args.place c.requires.short.1 c.requires.short.2 c.keys_of-versions.result.now c.children_of-children.result.now (c.keys_of-versions.ensures ∙ node_keys (reading (work g.C.Cells c.args.cells.now)) c.args.at c.requires.short.1.keys (roots (suc c.requires.short.0) c.requires.short.1.children) (parent_node (work g.C.Cells c.args.cells.now) c.args.at c.requires.short.0 c.args.place c.requires.short.1 c.requires.short.2) c.node_at-parent.result c.node_at-parent.ensures) (c.children_of-children.ensures ∙ node_children (reading (work g.C.Cells c.args.cells.now)) c.args.at c.requires.short.1.keys (roots (suc c.requires.short.0) c.requires.short.1.children) (parent_node (work g.C.Cells c.args.cells.now) c.args.at c.requires.short.0 c.args.place c.requires.short.1 c.requires.short.2) c.node_at-parent.result c.node_at-parent.ensures) (first_below (work g.C.Cells c.args.cells.now) c.args.at c.requires.short.0 c.args.place c.requires.short.1 c.requires.short.2 c.keys_of-versions.result.now c.children_of-children.result.now (c.keys_of-versions.ensures ∙ node_keys (reading (work g.C.Cells c.args.cells.now)) c.args.at c.requires.short.1.keys (roots (suc c.requires.short.0) c.requires.short.1.children) (parent_node (work g.C.Cells c.args.cells.now) c.args.at c.requires.short.0 c.args.place c.requires.short.1 c.requires.short.2) c.node_at-parent.result c.node_at-parent.ensures) (c.children_of-children.ensures ∙ node_children (reading (work g.C.Cells c.args.cells.now)) c.args.at c.requires.short.1.keys (roots (suc c.requires.short.0) c.requires.short.1.children) (parent_node (work g.C.Cells c.args.cells.now) c.args.at c.requires.short.0 c.args.place c.requires.short.1 c.requires.short.2) c.node_at-parent.result c.node_at-parent.ensures) c.if-place-eq0.true)).2 (record { number = 0 }))) ∙ c.if-can_spare.false)

pub returns-then-place-eq0-clause-mended : goal.returns-then-place-eq0-clause-mended
returns-then-place-eq0-clause-mended g c =
    λ h t s. right_merged (work g.C.Cells c.args.cells.now) c.args.at h c.args.place t s c.keys_of-versions.result.now c.children_of-children.result.now (c.keys_of-versions.ensures ∙ node_keys (reading (work g.C.Cells c.args.cells.now)) c.args.at t.keys (roots (suc h) t.children) (parent_node (work g.C.Cells c.args.cells.now) c.args.at h c.args.place t s) c.node_at-parent.result c.node_at-parent.ensures) (c.children_of-children.ensures ∙ node_children (reading (work g.C.Cells c.args.cells.now)) c.args.at t.keys (roots (suc h) t.children) (parent_node (work g.C.Cells c.args.cells.now) c.args.at h c.args.place t s) c.node_at-parent.result c.node_at-parent.ensures) (sym (c.has_enough.ensures s.short.keys (roots h s.short.children) (short_node (work g.C.Cells c.args.cells.now) c.args.at h c.args.place t s c.keys_of-versions.result.now c.children_of-children.result.now (c.keys_of-versions.ensures ∙ node_keys (reading (work g.C.Cells c.args.cells.now)) c.args.at t.keys (roots (suc h) t.children) (parent_node (work g.C.Cells c.args.cells.now) c.args.at h c.args.place t s) c.node_at-parent.result c.node_at-parent.ensures) (c.children_of-children.ensures ∙ node_children (reading (work g.C.Cells c.args.cells.now)) c.args.at t.keys (roots (suc h) t.children) (parent_node (work g.C.Cells c.args.cells.now) c.args.at h c.args.place t s) c.node_at-parent.result c.node_at-parent.ensures) (record { number = 0 }))) ∙ c.if-has_enough.false) (behind_there (work g.C.Cells c.args.cells.now) c.args.at h c.args.place t s c.keys_of-versions.result.now c.children_of-children.result.now (c.keys_of-versions.ensures ∙ node_keys (reading (work g.C.Cells c.args.cells.now)) c.args.at t.keys (roots (suc h) t.children) (parent_node (work g.C.Cells c.args.cells.now) c.args.at h c.args.place t s) c.node_at-parent.result c.node_at-parent.ensures) (c.children_of-children.ensures ∙ node_children (reading (work g.C.Cells c.args.cells.now)) c.args.at t.keys (roots (suc h) t.children) (parent_node (work g.C.Cells c.args.cells.now) c.args.at h c.args.place t s) c.node_at-parent.result c.node_at-parent.ensures) (first_below (work g.C.Cells c.args.cells.now) c.args.at h c.args.place t s c.keys_of-versions.result.now c.children_of-children.result.now (c.keys_of-versions.ensures ∙ node_keys (reading (work g.C.Cells c.args.cells.now)) c.args.at t.keys (roots (suc h) t.children) (parent_node (work g.C.Cells c.args.cells.now) c.args.at h c.args.place t s) c.node_at-parent.result c.node_at-parent.ensures) (c.children_of-children.ensures ∙ node_children (reading (work g.C.Cells c.args.cells.now)) c.args.at t.keys (roots (suc h) t.children) (parent_node (work g.C.Cells c.args.cells.now) c.args.at h c.args.place t s) c.node_at-parent.result c.node_at-parent.ensures) c.if-place-eq0.true)).0 (behind_there (work g.C.Cells c.args.cells.now) c.args.at h c.args.place t s c.keys_of-versions.result.now c.children_of-children.result.now (c.keys_of-versions.ensures ∙ node_keys (reading (work g.C.Cells c.args.cells.now)) c.args.at t.keys (roots (suc h) t.children) (parent_node (work g.C.Cells c.args.cells.now) c.args.at h c.args.place t s) c.node_at-parent.result c.node_at-parent.ensures) (c.children_of-children.ensures ∙ node_children (reading (work g.C.Cells c.args.cells.now)) c.args.at t.keys (roots (suc h) t.children) (parent_node (work g.C.Cells c.args.cells.now) c.args.at h c.args.place t s) c.node_at-parent.result c.node_at-parent.ensures) (first_below (work g.C.Cells c.args.cells.now) c.args.at h c.args.place t s c.keys_of-versions.result.now c.children_of-children.result.now (c.keys_of-versions.ensures ∙ node_keys (reading (work g.C.Cells c.args.cells.now)) c.args.at t.keys (roots (suc h) t.children) (parent_node (work g.C.Cells c.args.cells.now) c.args.at h c.args.place t s) c.node_at-parent.result c.node_at-parent.ensures) (c.children_of-children.ensures ∙ node_children (reading (work g.C.Cells c.args.cells.now)) c.args.at t.keys (roots (suc h) t.children) (parent_node (work g.C.Cells c.args.cells.now) c.args.at h c.args.place t s) c.node_at-parent.result c.node_at-parent.ensures) c.if-place-eq0.true)).1 (behind_there (work g.C.Cells c.args.cells.now) c.args.at h c.args.place t s c.keys_of-versions.result.now c.children_of-children.result.now (c.keys_of-versions.ensures ∙ node_keys (reading (work g.C.Cells c.args.cells.now)) c.args.at t.keys (roots (suc h) t.children) (parent_node (work g.C.Cells c.args.cells.now) c.args.at h c.args.place t s) c.node_at-parent.result c.node_at-parent.ensures) (c.children_of-children.ensures ∙ node_children (reading (work g.C.Cells c.args.cells.now)) c.args.at t.keys (roots (suc h) t.children) (parent_node (work g.C.Cells c.args.cells.now) c.args.at h c.args.place t s) c.node_at-parent.result c.node_at-parent.ensures) (first_below (work g.C.Cells c.args.cells.now) c.args.at h c.args.place t s c.keys_of-versions.result.now c.children_of-children.result.now (c.keys_of-versions.ensures ∙ node_keys (reading (work g.C.Cells c.args.cells.now)) c.args.at t.keys (roots (suc h) t.children) (parent_node (work g.C.Cells c.args.cells.now) c.args.at h c.args.place t s) c.node_at-parent.result c.node_at-parent.ensures) (c.children_of-children.ensures ∙ node_children (reading (work g.C.Cells c.args.cells.now)) c.args.at t.keys (roots (suc h) t.children) (parent_node (work g.C.Cells c.args.cells.now) c.args.at h c.args.place t s) c.node_at-parent.result c.node_at-parent.ensures) c.if-place-eq0.true)).2 (sym (c.can_spare.ensures (behind_there (work g.C.Cells c.args.cells.now) c.args.at h c.args.place t s c.keys_of-versions.result.now c.children_of-children.result.now (c.keys_of-versions.ensures ∙ node_keys (reading (work g.C.Cells c.args.cells.now)) c.args.at t.keys (roots (suc h) t.children) (parent_node (work g.C.Cells c.args.cells.now) c.args.at h c.args.place t s) c.node_at-parent.result c.node_at-parent.ensures) (c.children_of-children.ensures ∙ node_children (reading (work g.C.Cells c.args.cells.now)) c.args.at t.keys (roots (suc h) t.children) (parent_node (work g.C.Cells c.args.cells.now) c.args.at h c.args.place t s) c.node_at-parent.result c.node_at-parent.ensures) (first_below (work g.C.Cells c.args.cells.now) c.args.at h c.args.place t s c.keys_of-versions.result.now c.children_of-children.result.now (c.keys_of-versions.ensures ∙ node_keys (reading (work g.C.Cells c.args.cells.now)) c.args.at t.keys (roots (suc h) t.children) (parent_node (work g.C.Cells c.args.cells.now) c.args.at h c.args.place t s) c.node_at-parent.result c.node_at-parent.ensures) (c.children_of-children.ensures ∙ node_children (reading (work g.C.Cells c.args.cells.now)) c.args.at t.keys (roots (suc h) t.children) (parent_node (work g.C.Cells c.args.cells.now) c.args.at h c.args.place t s) c.node_at-parent.result c.node_at-parent.ensures) c.if-place-eq0.true)).0.keys (roots h (behind_there (work g.C.Cells c.args.cells.now) c.args.at h c.args.place t s c.keys_of-versions.result.now c.children_of-children.result.now (c.keys_of-versions.ensures ∙ node_keys (reading (work g.C.Cells c.args.cells.now)) c.args.at t.keys (roots (suc h) t.children) (parent_node (work g.C.Cells c.args.cells.now) c.args.at h c.args.place t s) c.node_at-parent.result c.node_at-parent.ensures) (c.children_of-children.ensures ∙ node_children (reading (work g.C.Cells c.args.cells.now)) c.args.at t.keys (roots (suc h) t.children) (parent_node (work g.C.Cells c.args.cells.now) c.args.at h c.args.place t s) c.node_at-parent.result c.node_at-parent.ensures) (first_below (work g.C.Cells c.args.cells.now) c.args.at h c.args.place t s c.keys_of-versions.result.now c.children_of-children.result.now (c.keys_of-versions.ensures ∙ node_keys (reading (work g.C.Cells c.args.cells.now)) c.args.at t.keys (roots (suc h) t.children) (parent_node (work g.C.Cells c.args.cells.now) c.args.at h c.args.place t s) c.node_at-parent.result c.node_at-parent.ensures) (c.children_of-children.ensures ∙ node_children (reading (work g.C.Cells c.args.cells.now)) c.args.at t.keys (roots (suc h) t.children) (parent_node (work g.C.Cells c.args.cells.now) c.args.at h c.args.place t s) c.node_at-parent.result c.node_at-parent.ensures) c.if-place-eq0.true)).0.children) (right_node (work g.C.Cells c.args.cells.now) c.args.at h c.args.place t s c.keys_of-versions.result.now c.children_of-children.result.now (c.keys_of-versions.ensures ∙ node_keys (reading (work g.C.Cells c.args.cells.now)) c.args.at t.keys (roots (suc h) t.children) (parent_node (work g.C.Cells c.args.cells.now) c.args.at h c.args.place t s) c.node_at-parent.result c.node_at-parent.ensures) (c.children_of-children.ensures ∙ node_children (reading (work g.C.Cells c.args.cells.now)) c.args.at t.keys (roots (suc h) t.children) (parent_node (work g.C.Cells c.args.cells.now) c.args.at h c.args.place t s) c.node_at-parent.result c.node_at-parent.ensures) (sym (c.has_enough.ensures s.short.keys (roots h s.short.children) (short_node (work g.C.Cells c.args.cells.now) c.args.at h c.args.place t s c.keys_of-versions.result.now c.children_of-children.result.now (c.keys_of-versions.ensures ∙ node_keys (reading (work g.C.Cells c.args.cells.now)) c.args.at t.keys (roots (suc h) t.children) (parent_node (work g.C.Cells c.args.cells.now) c.args.at h c.args.place t s) c.node_at-parent.result c.node_at-parent.ensures) (c.children_of-children.ensures ∙ node_children (reading (work g.C.Cells c.args.cells.now)) c.args.at t.keys (roots (suc h) t.children) (parent_node (work g.C.Cells c.args.cells.now) c.args.at h c.args.place t s) c.node_at-parent.result c.node_at-parent.ensures) (record { number = 0 }))) ∙ c.if-has_enough.false) (behind_there (work g.C.Cells c.args.cells.now) c.args.at h c.args.place t s c.keys_of-versions.result.now c.children_of-children.result.now (c.keys_of-versions.ensures ∙ node_keys (reading (work g.C.Cells c.args.cells.now)) c.args.at t.keys (roots (suc h) t.children) (parent_node (work g.C.Cells c.args.cells.now) c.args.at h c.args.place t s) c.node_at-parent.result c.node_at-parent.ensures) (c.children_of-children.ensures ∙ node_children (reading (work g.C.Cells c.args.cells.now)) c.args.at t.keys (roots (suc h) t.children) (parent_node (work g.C.Cells c.args.cells.now) c.args.at h c.args.place t s) c.node_at-parent.result c.node_at-parent.ensures) (first_below (work g.C.Cells c.args.cells.now) c.args.at h c.args.place t s c.keys_of-versions.result.now c.children_of-children.result.now (c.keys_of-versions.ensures ∙ node_keys (reading (work g.C.Cells c.args.cells.now)) c.args.at t.keys (roots (suc h) t.children) (parent_node (work g.C.Cells c.args.cells.now) c.args.at h c.args.place t s) c.node_at-parent.result c.node_at-parent.ensures) (c.children_of-children.ensures ∙ node_children (reading (work g.C.Cells c.args.cells.now)) c.args.at t.keys (roots (suc h) t.children) (parent_node (work g.C.Cells c.args.cells.now) c.args.at h c.args.place t s) c.node_at-parent.result c.node_at-parent.ensures) c.if-place-eq0.true)).0 (behind_there (work g.C.Cells c.args.cells.now) c.args.at h c.args.place t s c.keys_of-versions.result.now c.children_of-children.result.now (c.keys_of-versions.ensures ∙ node_keys (reading (work g.C.Cells c.args.cells.now)) c.args.at t.keys (roots (suc h) t.children) (parent_node (work g.C.Cells c.args.cells.now) c.args.at h c.args.place t s) c.node_at-parent.result c.node_at-parent.ensures) (c.children_of-children.ensures ∙ node_children (reading (work g.C.Cells c.args.cells.now)) c.args.at t.keys (roots (suc h) t.children) (parent_node (work g.C.Cells c.args.cells.now) c.args.at h c.args.place t s) c.node_at-parent.result c.node_at-parent.ensures) (first_below (work g.C.Cells c.args.cells.now) c.args.at h c.args.place t s c.keys_of-versions.result.now c.children_of-children.result.now (c.keys_of-versions.ensures ∙ node_keys (reading (work g.C.Cells c.args.cells.now)) c.args.at t.keys (roots (suc h) t.children) (parent_node (work g.C.Cells c.args.cells.now) c.args.at h c.args.place t s) c.node_at-parent.result c.node_at-parent.ensures) (c.children_of-children.ensures ∙ node_children (reading (work g.C.Cells c.args.cells.now)) c.args.at t.keys (roots (suc h) t.children) (parent_node (work g.C.Cells c.args.cells.now) c.args.at h c.args.place t s) c.node_at-parent.result c.node_at-parent.ensures) c.if-place-eq0.true)).1 (behind_there (work g.C.Cells c.args.cells.now) c.args.at h c.args.place t s c.keys_of-versions.result.now c.children_of-children.result.now (c.keys_of-versions.ensures ∙ node_keys (reading (work g.C.Cells c.args.cells.now)) c.args.at t.keys (roots (suc h) t.children) (parent_node (work g.C.Cells c.args.cells.now) c.args.at h c.args.place t s) c.node_at-parent.result c.node_at-parent.ensures) (c.children_of-children.ensures ∙ node_children (reading (work g.C.Cells c.args.cells.now)) c.args.at t.keys (roots (suc h) t.children) (parent_node (work g.C.Cells c.args.cells.now) c.args.at h c.args.place t s) c.node_at-parent.result c.node_at-parent.ensures) (first_below (work g.C.Cells c.args.cells.now) c.args.at h c.args.place t s c.keys_of-versions.result.now c.children_of-children.result.now (c.keys_of-versions.ensures ∙ node_keys (reading (work g.C.Cells c.args.cells.now)) c.args.at t.keys (roots (suc h) t.children) (parent_node (work g.C.Cells c.args.cells.now) c.args.at h c.args.place t s) c.node_at-parent.result c.node_at-parent.ensures) (c.children_of-children.ensures ∙ node_children (reading (work g.C.Cells c.args.cells.now)) c.args.at t.keys (roots (suc h) t.children) (parent_node (work g.C.Cells c.args.cells.now) c.args.at h c.args.place t s) c.node_at-parent.result c.node_at-parent.ensures) c.if-place-eq0.true)).2 (record { number = 0 }))) ∙ c.if-can_spare.false) (work g.C.Cells c.merge.new.cells) c.merge.ensures.work

pub bounds-children-place-2 : goal.bounds-children-place-2
bounds-children-place-2 g c =
    let bound = place_bound (work g.C.Cells c.args.cells.now) c.args.at c.requires.short.0 c.args.place c.requires.short.1 c.requires.short.2 c.keys_of-versions.result.now c.children_of-children.result.now (c.keys_of-versions.ensures ∙ node_keys (reading (work g.C.Cells c.args.cells.now)) c.args.at c.requires.short.1.keys (roots (suc c.requires.short.0) c.requires.short.1.children) (parent_node (work g.C.Cells c.args.cells.now) c.args.at c.requires.short.0 c.args.place c.requires.short.1 c.requires.short.2) c.node_at-parent.result c.node_at-parent.ensures) (c.children_of-children.ensures ∙ node_children (reading (work g.C.Cells c.args.cells.now)) c.args.at c.requires.short.1.keys (roots (suc c.requires.short.0) c.requires.short.1.children) (parent_node (work g.C.Cells c.args.cells.now) c.args.at c.requires.short.0 c.args.place c.requires.short.1 c.requires.short.2) c.node_at-parent.result c.node_at-parent.ensures) in omega arith

pub can_spare-requires-2 : goal.can_spare-requires-2
can_spare-requires-2 g c =
    let some : 0 < c.args.place = (let far = c.if-place-eq0.false in omega arith) in (left_keys (work g.C.Cells c.args.cells.now) c.args.at c.requires.short.0 c.args.place c.requires.short.1 c.requires.short.2 c.keys_of-versions.result.now c.children_of-children.result.now (c.keys_of-versions.ensures ∙ node_keys (reading (work g.C.Cells c.args.cells.now)) c.args.at c.requires.short.1.keys (roots (suc c.requires.short.0) c.requires.short.1.children) (parent_node (work g.C.Cells c.args.cells.now) c.args.at c.requires.short.0 c.args.place c.requires.short.1 c.requires.short.2) c.node_at-parent.result c.node_at-parent.ensures) (c.children_of-children.ensures ∙ node_children (reading (work g.C.Cells c.args.cells.now)) c.args.at c.requires.short.1.keys (roots (suc c.requires.short.0) c.requires.short.1.children) (parent_node (work g.C.Cells c.args.cells.now) c.args.at c.requires.short.0 c.args.place c.requires.short.1 c.requires.short.2) c.node_at-parent.result c.node_at-parent.ensures) (sym (c.has_enough.ensures c.requires.short.2.short.keys (roots c.requires.short.0 c.requires.short.2.short.children) (short_node (work g.C.Cells c.args.cells.now) c.args.at c.requires.short.0 c.args.place c.requires.short.1 c.requires.short.2 c.keys_of-versions.result.now c.children_of-children.result.now (c.keys_of-versions.ensures ∙ node_keys (reading (work g.C.Cells c.args.cells.now)) c.args.at c.requires.short.1.keys (roots (suc c.requires.short.0) c.requires.short.1.children) (parent_node (work g.C.Cells c.args.cells.now) c.args.at c.requires.short.0 c.args.place c.requires.short.1 c.requires.short.2) c.node_at-parent.result c.node_at-parent.ensures) (c.children_of-children.ensures ∙ node_children (reading (work g.C.Cells c.args.cells.now)) c.args.at c.requires.short.1.keys (roots (suc c.requires.short.0) c.requires.short.1.children) (parent_node (work g.C.Cells c.args.cells.now) c.args.at c.requires.short.0 c.args.place c.requires.short.1 c.requires.short.2) c.node_at-parent.result c.node_at-parent.ensures) (record { number = 0 }))) ∙ c.if-has_enough.false) some, left_children (work g.C.Cells c.args.cells.now) c.args.at c.requires.short.0 c.args.place c.requires.short.1 c.requires.short.2 c.keys_of-versions.result.now c.children_of-children.result.now (c.keys_of-versions.ensures ∙ node_keys (reading (work g.C.Cells c.args.cells.now)) c.args.at c.requires.short.1.keys (roots (suc c.requires.short.0) c.requires.short.1.children) (parent_node (work g.C.Cells c.args.cells.now) c.args.at c.requires.short.0 c.args.place c.requires.short.1 c.requires.short.2) c.node_at-parent.result c.node_at-parent.ensures) (c.children_of-children.ensures ∙ node_children (reading (work g.C.Cells c.args.cells.now)) c.args.at c.requires.short.1.keys (roots (suc c.requires.short.0) c.requires.short.1.children) (parent_node (work g.C.Cells c.args.cells.now) c.args.at c.requires.short.0 c.args.place c.requires.short.1 c.requires.short.2) c.node_at-parent.result c.node_at-parent.ensures) (sym (c.has_enough.ensures c.requires.short.2.short.keys (roots c.requires.short.0 c.requires.short.2.short.children) (short_node (work g.C.Cells c.args.cells.now) c.args.at c.requires.short.0 c.args.place c.requires.short.1 c.requires.short.2 c.keys_of-versions.result.now c.children_of-children.result.now (c.keys_of-versions.ensures ∙ node_keys (reading (work g.C.Cells c.args.cells.now)) c.args.at c.requires.short.1.keys (roots (suc c.requires.short.0) c.requires.short.1.children) (parent_node (work g.C.Cells c.args.cells.now) c.args.at c.requires.short.0 c.args.place c.requires.short.1 c.requires.short.2) c.node_at-parent.result c.node_at-parent.ensures) (c.children_of-children.ensures ∙ node_children (reading (work g.C.Cells c.args.cells.now)) c.args.at c.requires.short.1.keys (roots (suc c.requires.short.0) c.requires.short.1.children) (parent_node (work g.C.Cells c.args.cells.now) c.args.at c.requires.short.0 c.args.place c.requires.short.1 c.requires.short.2) c.node_at-parent.result c.node_at-parent.ensures) (record { number = 0 }))) ∙ c.if-has_enough.false) some, left_node (work g.C.Cells c.args.cells.now) c.args.at c.requires.short.0 c.args.place c.requires.short.1 c.requires.short.2 c.keys_of-versions.result.now c.children_of-children.result.now (c.keys_of-versions.ensures ∙ node_keys (reading (work g.C.Cells c.args.cells.now)) c.args.at c.requires.short.1.keys (roots (suc c.requires.short.0) c.requires.short.1.children) (parent_node (work g.C.Cells c.args.cells.now) c.args.at c.requires.short.0 c.args.place c.requires.short.1 c.requires.short.2) c.node_at-parent.result c.node_at-parent.ensures) (c.children_of-children.ensures ∙ node_children (reading (work g.C.Cells c.args.cells.now)) c.args.at c.requires.short.1.keys (roots (suc c.requires.short.0) c.requires.short.1.children) (parent_node (work g.C.Cells c.args.cells.now) c.args.at c.requires.short.0 c.args.place c.requires.short.1 c.requires.short.2) c.node_at-parent.result c.node_at-parent.ensures) (sym (c.has_enough.ensures c.requires.short.2.short.keys (roots c.requires.short.0 c.requires.short.2.short.children) (short_node (work g.C.Cells c.args.cells.now) c.args.at c.requires.short.0 c.args.place c.requires.short.1 c.requires.short.2 c.keys_of-versions.result.now c.children_of-children.result.now (c.keys_of-versions.ensures ∙ node_keys (reading (work g.C.Cells c.args.cells.now)) c.args.at c.requires.short.1.keys (roots (suc c.requires.short.0) c.requires.short.1.children) (parent_node (work g.C.Cells c.args.cells.now) c.args.at c.requires.short.0 c.args.place c.requires.short.1 c.requires.short.2) c.node_at-parent.result c.node_at-parent.ensures) (c.children_of-children.ensures ∙ node_children (reading (work g.C.Cells c.args.cells.now)) c.args.at c.requires.short.1.keys (roots (suc c.requires.short.0) c.requires.short.1.children) (parent_node (work g.C.Cells c.args.cells.now) c.args.at c.requires.short.0 c.args.place c.requires.short.1 c.requires.short.2) c.node_at-parent.result c.node_at-parent.ensures) (record { number = 0 }))) ∙ c.if-has_enough.false) some (record { number = 0 }))

pub share_from_left-requires-clause-siblings : goal.share_from_left-requires-clause-siblings
share_from_left-requires-clause-siblings g c =
    let some : 0 < c.args.place = (let far = c.if-place-eq0.false in omega arith) in left_siblings (work g.C.Cells c.args.cells.now) c.args.at c.requires.short.0 c.args.place c.requires.short.1 c.requires.short.2 c.keys_of-versions.result.now c.children_of-children.result.now (c.keys_of-versions.ensures ∙ node_keys (reading (work g.C.Cells c.args.cells.now)) c.args.at c.requires.short.1.keys (roots (suc c.requires.short.0) c.requires.short.1.children) (parent_node (work g.C.Cells c.args.cells.now) c.args.at c.requires.short.0 c.args.place c.requires.short.1 c.requires.short.2) c.node_at-parent.result c.node_at-parent.ensures) (c.children_of-children.ensures ∙ node_children (reading (work g.C.Cells c.args.cells.now)) c.args.at c.requires.short.1.keys (roots (suc c.requires.short.0) c.requires.short.1.children) (parent_node (work g.C.Cells c.args.cells.now) c.args.at c.requires.short.0 c.args.place c.requires.short.1 c.requires.short.2) c.node_at-parent.result c.node_at-parent.ensures) (sym (c.has_enough.ensures c.requires.short.2.short.keys (roots c.requires.short.0 c.requires.short.2.short.children) (short_node (work g.C.Cells c.args.cells.now) c.args.at c.requires.short.0 c.args.place c.requires.short.1 c.requires.short.2 c.keys_of-versions.result.now c.children_of-children.result.now (c.keys_of-versions.ensures ∙ node_keys (reading (work g.C.Cells c.args.cells.now)) c.args.at c.requires.short.1.keys (roots (suc c.requires.short.0) c.requires.short.1.children) (parent_node (work g.C.Cells c.args.cells.now) c.args.at c.requires.short.0 c.args.place c.requires.short.1 c.requires.short.2) c.node_at-parent.result c.node_at-parent.ensures) (c.children_of-children.ensures ∙ node_children (reading (work g.C.Cells c.args.cells.now)) c.args.at c.requires.short.1.keys (roots (suc c.requires.short.0) c.requires.short.1.children) (parent_node (work g.C.Cells c.args.cells.now) c.args.at c.requires.short.0 c.args.place c.requires.short.1 c.requires.short.2) c.node_at-parent.result c.node_at-parent.ensures) (record { number = 0 }))) ∙ c.if-has_enough.false) some (sym (c.can_spare-2.ensures (left_keys (work g.C.Cells c.args.cells.now) c.args.at c.requires.short.0 c.args.place c.requires.short.1 c.requires.short.2 c.keys_of-versions.result.now c.children_of-children.result.now (c.keys_of-versions.ensures ∙ node_keys (reading (work g.C.Cells c.args.cells.now)) c.args.at c.requires.short.1.keys (roots (suc c.requires.short.0) c.requires.short.1.children) (parent_node (work g.C.Cells c.args.cells.now) c.args.at c.requires.short.0 c.args.place c.requires.short.1 c.requires.short.2) c.node_at-parent.result c.node_at-parent.ensures) (c.children_of-children.ensures ∙ node_children (reading (work g.C.Cells c.args.cells.now)) c.args.at c.requires.short.1.keys (roots (suc c.requires.short.0) c.requires.short.1.children) (parent_node (work g.C.Cells c.args.cells.now) c.args.at c.requires.short.0 c.args.place c.requires.short.1 c.requires.short.2) c.node_at-parent.result c.node_at-parent.ensures) (sym (c.has_enough.ensures c.requires.short.2.short.keys (roots c.requires.short.0 c.requires.short.2.short.children) (short_node (work g.C.Cells c.args.cells.now) c.args.at c.requires.short.0 c.args.place c.requires.short.1 c.requires.short.2 c.keys_of-versions.result.now c.children_of-children.result.now (c.keys_of-versions.ensures ∙ node_keys (reading (work g.C.Cells c.args.cells.now)) c.args.at c.requires.short.1.keys (roots (suc c.requires.short.0) c.requires.short.1.children) (parent_node (work g.C.Cells c.args.cells.now) c.args.at c.requires.short.0 c.args.place c.requires.short.1 c.requires.short.2) c.node_at-parent.result c.node_at-parent.ensures) (c.children_of-children.ensures ∙ node_children (reading (work g.C.Cells c.args.cells.now)) c.args.at c.requires.short.1.keys (roots (suc c.requires.short.0) c.requires.short.1.children) (parent_node (work g.C.Cells c.args.cells.now) c.args.at c.requires.short.0 c.args.place c.requires.short.1 c.requires.short.2) c.node_at-parent.result c.node_at-parent.ensures) (record { number = 0 }))) ∙ c.if-has_enough.false) some) (left_children (work g.C.Cells c.args.cells.now) c.args.at c.requires.short.0 c.args.place c.requires.short.1 c.requires.short.2 c.keys_of-versions.result.now c.children_of-children.result.now (c.keys_of-versions.ensures ∙ node_keys (reading (work g.C.Cells c.args.cells.now)) c.args.at c.requires.short.1.keys (roots (suc c.requires.short.0) c.requires.short.1.children) (parent_node (work g.C.Cells c.args.cells.now) c.args.at c.requires.short.0 c.args.place c.requires.short.1 c.requires.short.2) c.node_at-parent.result c.node_at-parent.ensures) (c.children_of-children.ensures ∙ node_children (reading (work g.C.Cells c.args.cells.now)) c.args.at c.requires.short.1.keys (roots (suc c.requires.short.0) c.requires.short.1.children) (parent_node (work g.C.Cells c.args.cells.now) c.args.at c.requires.short.0 c.args.place c.requires.short.1 c.requires.short.2) c.node_at-parent.result c.node_at-parent.ensures) (sym (c.has_enough.ensures c.requires.short.2.short.keys (roots c.requires.short.0 c.requires.short.2.short.children) (short_node (work g.C.Cells c.args.cells.now) c.args.at c.requires.short.0 c.args.place c.requires.short.1 c.requires.short.2 c.keys_of-versions.result.now c.children_of-children.result.now (c.keys_of-versions.ensures ∙ node_keys (reading (work g.C.Cells c.args.cells.now)) c.args.at c.requires.short.1.keys (roots (suc c.requires.short.0) c.requires.short.1.children) (parent_node (work g.C.Cells c.args.cells.now) c.args.at c.requires.short.0 c.args.place c.requires.short.1 c.requires.short.2) c.node_at-parent.result c.node_at-parent.ensures) (c.children_of-children.ensures ∙ node_children (reading (work g.C.Cells c.args.cells.now)) c.args.at c.requires.short.1.keys (roots (suc c.requires.short.0) c.requires.short.1.children) (parent_node (work g.C.Cells c.args.cells.now) c.args.at c.requires.short.0 c.args.place c.requires.short.1 c.requires.short.2) c.node_at-parent.result c.node_at-parent.ensures) (record { number = 0 }))) ∙ c.if-has_enough.false) some) (left_node (work g.C.Cells c.args.cells.now) c.args.at c.requires.short.0 c.args.place c.requires.short.1 c.requires.short.2 c.keys_of-versions.result.now c.children_of-children.result.now (c.keys_of-versions.ensures ∙ node_keys (reading (work g.C.Cells c.args.cells.now)) c.args.at c.requires.short.1.keys (roots (suc c.requires.short.0) c.requires.short.1.children) (parent_node (work g.C.Cells c.args.cells.now) c.args.at c.requires.short.0 c.args.place c.requires.short.1 c.requires.short.2) c.node_at-parent.result c.node_at-parent.ensures) (c.children_of-children.ensures ∙ node_children (reading (work g.C.Cells c.args.cells.now)) c.args.at c.requires.short.1.keys (roots (suc c.requires.short.0) c.requires.short.1.children) (parent_node (work g.C.Cells c.args.cells.now) c.args.at c.requires.short.0 c.args.place c.requires.short.1 c.requires.short.2) c.node_at-parent.result c.node_at-parent.ensures) (sym (c.has_enough.ensures c.requires.short.2.short.keys (roots c.requires.short.0 c.requires.short.2.short.children) (short_node (work g.C.Cells c.args.cells.now) c.args.at c.requires.short.0 c.args.place c.requires.short.1 c.requires.short.2 c.keys_of-versions.result.now c.children_of-children.result.now (c.keys_of-versions.ensures ∙ node_keys (reading (work g.C.Cells c.args.cells.now)) c.args.at c.requires.short.1.keys (roots (suc c.requires.short.0) c.requires.short.1.children) (parent_node (work g.C.Cells c.args.cells.now) c.args.at c.requires.short.0 c.args.place c.requires.short.1 c.requires.short.2) c.node_at-parent.result c.node_at-parent.ensures) (c.children_of-children.ensures ∙ node_children (reading (work g.C.Cells c.args.cells.now)) c.args.at c.requires.short.1.keys (roots (suc c.requires.short.0) c.requires.short.1.children) (parent_node (work g.C.Cells c.args.cells.now) c.args.at c.requires.short.0 c.args.place c.requires.short.1 c.requires.short.2) c.node_at-parent.result c.node_at-parent.ensures) (record { number = 0 }))) ∙ c.if-has_enough.false) some (record { number = 0 }))) ∙ c.if-can_spare-2.true)

pub returns-then-can_spare-2-clause-mended : goal.returns-then-can_spare-2-clause-mended
returns-then-can_spare-2-clause-mended g c =
    let some : 0 < c.args.place = (let far = c.if-place-eq0.false in omega arith) in λ h t s. left_shared (work g.C.Cells c.args.cells.now) c.args.at h c.args.place t s c.keys_of-versions.result.now c.children_of-children.result.now (c.keys_of-versions.ensures ∙ node_keys (reading (work g.C.Cells c.args.cells.now)) c.args.at t.keys (roots (suc h) t.children) (parent_node (work g.C.Cells c.args.cells.now) c.args.at h c.args.place t s) c.node_at-parent.result c.node_at-parent.ensures) (c.children_of-children.ensures ∙ node_children (reading (work g.C.Cells c.args.cells.now)) c.args.at t.keys (roots (suc h) t.children) (parent_node (work g.C.Cells c.args.cells.now) c.args.at h c.args.place t s) c.node_at-parent.result c.node_at-parent.ensures) (sym (c.has_enough.ensures s.short.keys (roots h s.short.children) (short_node (work g.C.Cells c.args.cells.now) c.args.at h c.args.place t s c.keys_of-versions.result.now c.children_of-children.result.now (c.keys_of-versions.ensures ∙ node_keys (reading (work g.C.Cells c.args.cells.now)) c.args.at t.keys (roots (suc h) t.children) (parent_node (work g.C.Cells c.args.cells.now) c.args.at h c.args.place t s) c.node_at-parent.result c.node_at-parent.ensures) (c.children_of-children.ensures ∙ node_children (reading (work g.C.Cells c.args.cells.now)) c.args.at t.keys (roots (suc h) t.children) (parent_node (work g.C.Cells c.args.cells.now) c.args.at h c.args.place t s) c.node_at-parent.result c.node_at-parent.ensures) (record { number = 0 }))) ∙ c.if-has_enough.false) some (sym (c.can_spare-2.ensures (left_keys (work g.C.Cells c.args.cells.now) c.args.at h c.args.place t s c.keys_of-versions.result.now c.children_of-children.result.now (c.keys_of-versions.ensures ∙ node_keys (reading (work g.C.Cells c.args.cells.now)) c.args.at t.keys (roots (suc h) t.children) (parent_node (work g.C.Cells c.args.cells.now) c.args.at h c.args.place t s) c.node_at-parent.result c.node_at-parent.ensures) (c.children_of-children.ensures ∙ node_children (reading (work g.C.Cells c.args.cells.now)) c.args.at t.keys (roots (suc h) t.children) (parent_node (work g.C.Cells c.args.cells.now) c.args.at h c.args.place t s) c.node_at-parent.result c.node_at-parent.ensures) (sym (c.has_enough.ensures s.short.keys (roots h s.short.children) (short_node (work g.C.Cells c.args.cells.now) c.args.at h c.args.place t s c.keys_of-versions.result.now c.children_of-children.result.now (c.keys_of-versions.ensures ∙ node_keys (reading (work g.C.Cells c.args.cells.now)) c.args.at t.keys (roots (suc h) t.children) (parent_node (work g.C.Cells c.args.cells.now) c.args.at h c.args.place t s) c.node_at-parent.result c.node_at-parent.ensures) (c.children_of-children.ensures ∙ node_children (reading (work g.C.Cells c.args.cells.now)) c.args.at t.keys (roots (suc h) t.children) (parent_node (work g.C.Cells c.args.cells.now) c.args.at h c.args.place t s) c.node_at-parent.result c.node_at-parent.ensures) (record { number = 0 }))) ∙ c.if-has_enough.false) some) (left_children (work g.C.Cells c.args.cells.now) c.args.at h c.args.place t s c.keys_of-versions.result.now c.children_of-children.result.now (c.keys_of-versions.ensures ∙ node_keys (reading (work g.C.Cells c.args.cells.now)) c.args.at t.keys (roots (suc h) t.children) (parent_node (work g.C.Cells c.args.cells.now) c.args.at h c.args.place t s) c.node_at-parent.result c.node_at-parent.ensures) (c.children_of-children.ensures ∙ node_children (reading (work g.C.Cells c.args.cells.now)) c.args.at t.keys (roots (suc h) t.children) (parent_node (work g.C.Cells c.args.cells.now) c.args.at h c.args.place t s) c.node_at-parent.result c.node_at-parent.ensures) (sym (c.has_enough.ensures s.short.keys (roots h s.short.children) (short_node (work g.C.Cells c.args.cells.now) c.args.at h c.args.place t s c.keys_of-versions.result.now c.children_of-children.result.now (c.keys_of-versions.ensures ∙ node_keys (reading (work g.C.Cells c.args.cells.now)) c.args.at t.keys (roots (suc h) t.children) (parent_node (work g.C.Cells c.args.cells.now) c.args.at h c.args.place t s) c.node_at-parent.result c.node_at-parent.ensures) (c.children_of-children.ensures ∙ node_children (reading (work g.C.Cells c.args.cells.now)) c.args.at t.keys (roots (suc h) t.children) (parent_node (work g.C.Cells c.args.cells.now) c.args.at h c.args.place t s) c.node_at-parent.result c.node_at-parent.ensures) (record { number = 0 }))) ∙ c.if-has_enough.false) some) (left_node (work g.C.Cells c.args.cells.now) c.args.at h c.args.place t s c.keys_of-versions.result.now c.children_of-children.result.now (c.keys_of-versions.ensures ∙ node_keys (reading (work g.C.Cells c.args.cells.now)) c.args.at t.keys (roots (suc h) t.children) (parent_node (work g.C.Cells c.args.cells.now) c.args.at h c.args.place t s) c.node_at-parent.result c.node_at-parent.ensures) (c.children_of-children.ensures ∙ node_children (reading (work g.C.Cells c.args.cells.now)) c.args.at t.keys (roots (suc h) t.children) (parent_node (work g.C.Cells c.args.cells.now) c.args.at h c.args.place t s) c.node_at-parent.result c.node_at-parent.ensures) (sym (c.has_enough.ensures s.short.keys (roots h s.short.children) (short_node (work g.C.Cells c.args.cells.now) c.args.at h c.args.place t s c.keys_of-versions.result.now c.children_of-children.result.now (c.keys_of-versions.ensures ∙ node_keys (reading (work g.C.Cells c.args.cells.now)) c.args.at t.keys (roots (suc h) t.children) (parent_node (work g.C.Cells c.args.cells.now) c.args.at h c.args.place t s) c.node_at-parent.result c.node_at-parent.ensures) (c.children_of-children.ensures ∙ node_children (reading (work g.C.Cells c.args.cells.now)) c.args.at t.keys (roots (suc h) t.children) (parent_node (work g.C.Cells c.args.cells.now) c.args.at h c.args.place t s) c.node_at-parent.result c.node_at-parent.ensures) (record { number = 0 }))) ∙ c.if-has_enough.false) some (record { number = 0 }))) ∙ c.if-can_spare-2.true) (work g.C.Cells c.share_from_left.new.cells) c.share_from_left.ensures.work

pub merge-requires-then-place-versions-clause-siblings : goal.merge-requires-then-place-versions-clause-siblings
merge-requires-then-place-versions-clause-siblings g c =
    let some : 0 < c.args.place = (let far = c.if-place-eq0.false in omega arith) in left_merge_siblings (work g.C.Cells c.args.cells.now) c.args.at c.requires.short.0 c.args.place c.requires.short.1 c.requires.short.2 c.keys_of-versions.result.now c.children_of-children.result.now (c.keys_of-versions.ensures ∙ node_keys (reading (work g.C.Cells c.args.cells.now)) c.args.at c.requires.short.1.keys (roots (suc c.requires.short.0) c.requires.short.1.children) (parent_node (work g.C.Cells c.args.cells.now) c.args.at c.requires.short.0 c.args.place c.requires.short.1 c.requires.short.2) c.node_at-parent.result c.node_at-parent.ensures) (c.children_of-children.ensures ∙ node_children (reading (work g.C.Cells c.args.cells.now)) c.args.at c.requires.short.1.keys (roots (suc c.requires.short.0) c.requires.short.1.children) (parent_node (work g.C.Cells c.args.cells.now) c.args.at c.requires.short.0 c.args.place c.requires.short.1 c.requires.short.2) c.node_at-parent.result c.node_at-parent.ensures) (sym (c.has_enough.ensures c.requires.short.2.short.keys (roots c.requires.short.0 c.requires.short.2.short.children) (short_node (work g.C.Cells c.args.cells.now) c.args.at c.requires.short.0 c.args.place c.requires.short.1 c.requires.short.2 c.keys_of-versions.result.now c.children_of-children.result.now (c.keys_of-versions.ensures ∙ node_keys (reading (work g.C.Cells c.args.cells.now)) c.args.at c.requires.short.1.keys (roots (suc c.requires.short.0) c.requires.short.1.children) (parent_node (work g.C.Cells c.args.cells.now) c.args.at c.requires.short.0 c.args.place c.requires.short.1 c.requires.short.2) c.node_at-parent.result c.node_at-parent.ensures) (c.children_of-children.ensures ∙ node_children (reading (work g.C.Cells c.args.cells.now)) c.args.at c.requires.short.1.keys (roots (suc c.requires.short.0) c.requires.short.1.children) (parent_node (work g.C.Cells c.args.cells.now) c.args.at c.requires.short.0 c.args.place c.requires.short.1 c.requires.short.2) c.node_at-parent.result c.node_at-parent.ensures) (record { number = 0 }))) ∙ c.if-has_enough.false) some (sym (c.can_spare-2.ensures (left_keys (work g.C.Cells c.args.cells.now) c.args.at c.requires.short.0 c.args.place c.requires.short.1 c.requires.short.2 c.keys_of-versions.result.now c.children_of-children.result.now (c.keys_of-versions.ensures ∙ node_keys (reading (work g.C.Cells c.args.cells.now)) c.args.at c.requires.short.1.keys (roots (suc c.requires.short.0) c.requires.short.1.children) (parent_node (work g.C.Cells c.args.cells.now) c.args.at c.requires.short.0 c.args.place c.requires.short.1 c.requires.short.2) c.node_at-parent.result c.node_at-parent.ensures) (c.children_of-children.ensures ∙ node_children (reading (work g.C.Cells c.args.cells.now)) c.args.at c.requires.short.1.keys (roots (suc c.requires.short.0) c.requires.short.1.children) (parent_node (work g.C.Cells c.args.cells.now) c.args.at c.requires.short.0 c.args.place c.requires.short.1 c.requires.short.2) c.node_at-parent.result c.node_at-parent.ensures) (sym (c.has_enough.ensures c.requires.short.2.short.keys (roots c.requires.short.0 c.requires.short.2.short.children) (short_node (work g.C.Cells c.args.cells.now) c.args.at c.requires.short.0 c.args.place c.requires.short.1 c.requires.short.2 c.keys_of-versions.result.now c.children_of-children.result.now (c.keys_of-versions.ensures ∙ node_keys (reading (work g.C.Cells c.args.cells.now)) c.args.at c.requires.short.1.keys (roots (suc c.requires.short.0) c.requires.short.1.children) (parent_node (work g.C.Cells c.args.cells.now) c.args.at c.requires.short.0 c.args.place c.requires.short.1 c.requires.short.2) c.node_at-parent.result c.node_at-parent.ensures) (c.children_of-children.ensures ∙ node_children (reading (work g.C.Cells c.args.cells.now)) c.args.at c.requires.short.1.keys (roots (suc c.requires.short.0) c.requires.short.1.children) (parent_node (work g.C.Cells c.args.cells.now) c.args.at c.requires.short.0 c.args.place c.requires.short.1 c.requires.short.2) c.node_at-parent.result c.node_at-parent.ensures) (record { number = 0 }))) ∙ c.if-has_enough.false) some) (left_children (work g.C.Cells c.args.cells.now) c.args.at c.requires.short.0 c.args.place c.requires.short.1 c.requires.short.2 c.keys_of-versions.result.now c.children_of-children.result.now (c.keys_of-versions.ensures ∙ node_keys (reading (work g.C.Cells c.args.cells.now)) c.args.at c.requires.short.1.keys (roots (suc c.requires.short.0) c.requires.short.1.children) (parent_node (work g.C.Cells c.args.cells.now) c.args.at c.requires.short.0 c.args.place c.requires.short.1 c.requires.short.2) c.node_at-parent.result c.node_at-parent.ensures) (c.children_of-children.ensures ∙ node_children (reading (work g.C.Cells c.args.cells.now)) c.args.at c.requires.short.1.keys (roots (suc c.requires.short.0) c.requires.short.1.children) (parent_node (work g.C.Cells c.args.cells.now) c.args.at c.requires.short.0 c.args.place c.requires.short.1 c.requires.short.2) c.node_at-parent.result c.node_at-parent.ensures) (sym (c.has_enough.ensures c.requires.short.2.short.keys (roots c.requires.short.0 c.requires.short.2.short.children) (short_node (work g.C.Cells c.args.cells.now) c.args.at c.requires.short.0 c.args.place c.requires.short.1 c.requires.short.2 c.keys_of-versions.result.now c.children_of-children.result.now (c.keys_of-versions.ensures ∙ node_keys (reading (work g.C.Cells c.args.cells.now)) c.args.at c.requires.short.1.keys (roots (suc c.requires.short.0) c.requires.short.1.children) (parent_node (work g.C.Cells c.args.cells.now) c.args.at c.requires.short.0 c.args.place c.requires.short.1 c.requires.short.2) c.node_at-parent.result c.node_at-parent.ensures) (c.children_of-children.ensures ∙ node_children (reading (work g.C.Cells c.args.cells.now)) c.args.at c.requires.short.1.keys (roots (suc c.requires.short.0) c.requires.short.1.children) (parent_node (work g.C.Cells c.args.cells.now) c.args.at c.requires.short.0 c.args.place c.requires.short.1 c.requires.short.2) c.node_at-parent.result c.node_at-parent.ensures) (record { number = 0 }))) ∙ c.if-has_enough.false) some) (left_node (work g.C.Cells c.args.cells.now) c.args.at c.requires.short.0 c.args.place c.requires.short.1 c.requires.short.2 c.keys_of-versions.result.now c.children_of-children.result.now (c.keys_of-versions.ensures ∙ node_keys (reading (work g.C.Cells c.args.cells.now)) c.args.at c.requires.short.1.keys (roots (suc c.requires.short.0) c.requires.short.1.children) (parent_node (work g.C.Cells c.args.cells.now) c.args.at c.requires.short.0 c.args.place c.requires.short.1 c.requires.short.2) c.node_at-parent.result c.node_at-parent.ensures) (c.children_of-children.ensures ∙ node_children (reading (work g.C.Cells c.args.cells.now)) c.args.at c.requires.short.1.keys (roots (suc c.requires.short.0) c.requires.short.1.children) (parent_node (work g.C.Cells c.args.cells.now) c.args.at c.requires.short.0 c.args.place c.requires.short.1 c.requires.short.2) c.node_at-parent.result c.node_at-parent.ensures) (sym (c.has_enough.ensures c.requires.short.2.short.keys (roots c.requires.short.0 c.requires.short.2.short.children) (short_node (work g.C.Cells c.args.cells.now) c.args.at c.requires.short.0 c.args.place c.requires.short.1 c.requires.short.2 c.keys_of-versions.result.now c.children_of-children.result.now (c.keys_of-versions.ensures ∙ node_keys (reading (work g.C.Cells c.args.cells.now)) c.args.at c.requires.short.1.keys (roots (suc c.requires.short.0) c.requires.short.1.children) (parent_node (work g.C.Cells c.args.cells.now) c.args.at c.requires.short.0 c.args.place c.requires.short.1 c.requires.short.2) c.node_at-parent.result c.node_at-parent.ensures) (c.children_of-children.ensures ∙ node_children (reading (work g.C.Cells c.args.cells.now)) c.args.at c.requires.short.1.keys (roots (suc c.requires.short.0) c.requires.short.1.children) (parent_node (work g.C.Cells c.args.cells.now) c.args.at c.requires.short.0 c.args.place c.requires.short.1 c.requires.short.2) c.node_at-parent.result c.node_at-parent.ensures) (record { number = 0 }))) ∙ c.if-has_enough.false) some (record { number = 0 }))) ∙ c.if-can_spare-2.false)

pub returns-then-place-versions-clause-mended : goal.returns-then-place-versions-clause-mended
returns-then-place-versions-clause-mended g c =
    let some : 0 < c.args.place = (let far = c.if-place-eq0.false in omega arith) in λ h t s. left_merged (work g.C.Cells c.args.cells.now) c.args.at h c.args.place t s c.keys_of-versions.result.now c.children_of-children.result.now (c.keys_of-versions.ensures ∙ node_keys (reading (work g.C.Cells c.args.cells.now)) c.args.at t.keys (roots (suc h) t.children) (parent_node (work g.C.Cells c.args.cells.now) c.args.at h c.args.place t s) c.node_at-parent.result c.node_at-parent.ensures) (c.children_of-children.ensures ∙ node_children (reading (work g.C.Cells c.args.cells.now)) c.args.at t.keys (roots (suc h) t.children) (parent_node (work g.C.Cells c.args.cells.now) c.args.at h c.args.place t s) c.node_at-parent.result c.node_at-parent.ensures) (sym (c.has_enough.ensures s.short.keys (roots h s.short.children) (short_node (work g.C.Cells c.args.cells.now) c.args.at h c.args.place t s c.keys_of-versions.result.now c.children_of-children.result.now (c.keys_of-versions.ensures ∙ node_keys (reading (work g.C.Cells c.args.cells.now)) c.args.at t.keys (roots (suc h) t.children) (parent_node (work g.C.Cells c.args.cells.now) c.args.at h c.args.place t s) c.node_at-parent.result c.node_at-parent.ensures) (c.children_of-children.ensures ∙ node_children (reading (work g.C.Cells c.args.cells.now)) c.args.at t.keys (roots (suc h) t.children) (parent_node (work g.C.Cells c.args.cells.now) c.args.at h c.args.place t s) c.node_at-parent.result c.node_at-parent.ensures) (record { number = 0 }))) ∙ c.if-has_enough.false) some (sym (c.can_spare-2.ensures (left_keys (work g.C.Cells c.args.cells.now) c.args.at h c.args.place t s c.keys_of-versions.result.now c.children_of-children.result.now (c.keys_of-versions.ensures ∙ node_keys (reading (work g.C.Cells c.args.cells.now)) c.args.at t.keys (roots (suc h) t.children) (parent_node (work g.C.Cells c.args.cells.now) c.args.at h c.args.place t s) c.node_at-parent.result c.node_at-parent.ensures) (c.children_of-children.ensures ∙ node_children (reading (work g.C.Cells c.args.cells.now)) c.args.at t.keys (roots (suc h) t.children) (parent_node (work g.C.Cells c.args.cells.now) c.args.at h c.args.place t s) c.node_at-parent.result c.node_at-parent.ensures) (sym (c.has_enough.ensures s.short.keys (roots h s.short.children) (short_node (work g.C.Cells c.args.cells.now) c.args.at h c.args.place t s c.keys_of-versions.result.now c.children_of-children.result.now (c.keys_of-versions.ensures ∙ node_keys (reading (work g.C.Cells c.args.cells.now)) c.args.at t.keys (roots (suc h) t.children) (parent_node (work g.C.Cells c.args.cells.now) c.args.at h c.args.place t s) c.node_at-parent.result c.node_at-parent.ensures) (c.children_of-children.ensures ∙ node_children (reading (work g.C.Cells c.args.cells.now)) c.args.at t.keys (roots (suc h) t.children) (parent_node (work g.C.Cells c.args.cells.now) c.args.at h c.args.place t s) c.node_at-parent.result c.node_at-parent.ensures) (record { number = 0 }))) ∙ c.if-has_enough.false) some) (left_children (work g.C.Cells c.args.cells.now) c.args.at h c.args.place t s c.keys_of-versions.result.now c.children_of-children.result.now (c.keys_of-versions.ensures ∙ node_keys (reading (work g.C.Cells c.args.cells.now)) c.args.at t.keys (roots (suc h) t.children) (parent_node (work g.C.Cells c.args.cells.now) c.args.at h c.args.place t s) c.node_at-parent.result c.node_at-parent.ensures) (c.children_of-children.ensures ∙ node_children (reading (work g.C.Cells c.args.cells.now)) c.args.at t.keys (roots (suc h) t.children) (parent_node (work g.C.Cells c.args.cells.now) c.args.at h c.args.place t s) c.node_at-parent.result c.node_at-parent.ensures) (sym (c.has_enough.ensures s.short.keys (roots h s.short.children) (short_node (work g.C.Cells c.args.cells.now) c.args.at h c.args.place t s c.keys_of-versions.result.now c.children_of-children.result.now (c.keys_of-versions.ensures ∙ node_keys (reading (work g.C.Cells c.args.cells.now)) c.args.at t.keys (roots (suc h) t.children) (parent_node (work g.C.Cells c.args.cells.now) c.args.at h c.args.place t s) c.node_at-parent.result c.node_at-parent.ensures) (c.children_of-children.ensures ∙ node_children (reading (work g.C.Cells c.args.cells.now)) c.args.at t.keys (roots (suc h) t.children) (parent_node (work g.C.Cells c.args.cells.now) c.args.at h c.args.place t s) c.node_at-parent.result c.node_at-parent.ensures) (record { number = 0 }))) ∙ c.if-has_enough.false) some) (left_node (work g.C.Cells c.args.cells.now) c.args.at h c.args.place t s c.keys_of-versions.result.now c.children_of-children.result.now (c.keys_of-versions.ensures ∙ node_keys (reading (work g.C.Cells c.args.cells.now)) c.args.at t.keys (roots (suc h) t.children) (parent_node (work g.C.Cells c.args.cells.now) c.args.at h c.args.place t s) c.node_at-parent.result c.node_at-parent.ensures) (c.children_of-children.ensures ∙ node_children (reading (work g.C.Cells c.args.cells.now)) c.args.at t.keys (roots (suc h) t.children) (parent_node (work g.C.Cells c.args.cells.now) c.args.at h c.args.place t s) c.node_at-parent.result c.node_at-parent.ensures) (sym (c.has_enough.ensures s.short.keys (roots h s.short.children) (short_node (work g.C.Cells c.args.cells.now) c.args.at h c.args.place t s c.keys_of-versions.result.now c.children_of-children.result.now (c.keys_of-versions.ensures ∙ node_keys (reading (work g.C.Cells c.args.cells.now)) c.args.at t.keys (roots (suc h) t.children) (parent_node (work g.C.Cells c.args.cells.now) c.args.at h c.args.place t s) c.node_at-parent.result c.node_at-parent.ensures) (c.children_of-children.ensures ∙ node_children (reading (work g.C.Cells c.args.cells.now)) c.args.at t.keys (roots (suc h) t.children) (parent_node (work g.C.Cells c.args.cells.now) c.args.at h c.args.place t s) c.node_at-parent.result c.node_at-parent.ensures) (record { number = 0 }))) ∙ c.if-has_enough.false) some (record { number = 0 }))) ∙ c.if-can_spare-2.false) (work g.C.Cells c.merge-then-place-versions.new.cells) c.merge-then-place-versions.ensures.work

pub bounds-children-place-3 : goal.bounds-children-place-3
bounds-children-place-3 g c =
    let below = inner_below (work g.C.Cells c.args.cells.now) c.args.at c.requires.short.0 c.args.place c.requires.short.1 c.requires.short.2 c.keys_of-versions.result.now c.children_of-children.result.now (c.keys_of-versions.ensures ∙ node_keys (reading (work g.C.Cells c.args.cells.now)) c.args.at c.requires.short.1.keys (roots (suc c.requires.short.0) c.requires.short.1.children) (parent_node (work g.C.Cells c.args.cells.now) c.args.at c.requires.short.0 c.args.place c.requires.short.1 c.requires.short.2) c.node_at-parent.result c.node_at-parent.ensures) (c.children_of-children.ensures ∙ node_children (reading (work g.C.Cells c.args.cells.now)) c.args.at c.requires.short.1.keys (roots (suc c.requires.short.0) c.requires.short.1.children) (parent_node (work g.C.Cells c.args.cells.now) c.args.at c.requires.short.0 c.args.place c.requires.short.1 c.requires.short.2) c.node_at-parent.result c.node_at-parent.ensures) c.if-place-versions.false in let keys = ap (length {A = CellRef}) (c.keys_of-versions.ensures ∙ node_keys (reading (work g.C.Cells c.args.cells.now)) c.args.at c.requires.short.1.keys (roots (suc c.requires.short.0) c.requires.short.1.children) (parent_node (work g.C.Cells c.args.cells.now) c.args.at c.requires.short.0 c.args.place c.requires.short.1 c.requires.short.2) c.node_at-parent.result c.node_at-parent.ensures) in let children = ap (length {A = CellRef}) (c.children_of-children.ensures ∙ node_children (reading (work g.C.Cells c.args.cells.now)) c.args.at c.requires.short.1.keys (roots (suc c.requires.short.0) c.requires.short.1.children) (parent_node (work g.C.Cells c.args.cells.now) c.args.at c.requires.short.0 c.args.place c.requires.short.1 c.requires.short.2) c.node_at-parent.result c.node_at-parent.ensures) in let many = c.requires.short.2.many in let count = length_map (λ (x : BTree c.requires.short.0). x.at) c.requires.short.1.children in omega arith

pub can_spare-requires-3 : goal.can_spare-requires-3
can_spare-requires-3 g c =
    ((behind_there (work g.C.Cells c.args.cells.now) c.args.at c.requires.short.0 c.args.place c.requires.short.1 c.requires.short.2 c.keys_of-versions.result.now c.children_of-children.result.now (c.keys_of-versions.ensures ∙ node_keys (reading (work g.C.Cells c.args.cells.now)) c.args.at c.requires.short.1.keys (roots (suc c.requires.short.0) c.requires.short.1.children) (parent_node (work g.C.Cells c.args.cells.now) c.args.at c.requires.short.0 c.args.place c.requires.short.1 c.requires.short.2) c.node_at-parent.result c.node_at-parent.ensures) (c.children_of-children.ensures ∙ node_children (reading (work g.C.Cells c.args.cells.now)) c.args.at c.requires.short.1.keys (roots (suc c.requires.short.0) c.requires.short.1.children) (parent_node (work g.C.Cells c.args.cells.now) c.args.at c.requires.short.0 c.args.place c.requires.short.1 c.requires.short.2) c.node_at-parent.result c.node_at-parent.ensures) (inner_below (work g.C.Cells c.args.cells.now) c.args.at c.requires.short.0 c.args.place c.requires.short.1 c.requires.short.2 c.keys_of-versions.result.now c.children_of-children.result.now (c.keys_of-versions.ensures ∙ node_keys (reading (work g.C.Cells c.args.cells.now)) c.args.at c.requires.short.1.keys (roots (suc c.requires.short.0) c.requires.short.1.children) (parent_node (work g.C.Cells c.args.cells.now) c.args.at c.requires.short.0 c.args.place c.requires.short.1 c.requires.short.2) c.node_at-parent.result c.node_at-parent.ensures) (c.children_of-children.ensures ∙ node_children (reading (work g.C.Cells c.args.cells.now)) c.args.at c.requires.short.1.keys (roots (suc c.requires.short.0) c.requires.short.1.children) (parent_node (work g.C.Cells c.args.cells.now) c.args.at c.requires.short.0 c.args.place c.requires.short.1 c.requires.short.2) c.node_at-parent.result c.node_at-parent.ensures) c.if-place-versions.false)).0.keys, roots c.requires.short.0 (behind_there (work g.C.Cells c.args.cells.now) c.args.at c.requires.short.0 c.args.place c.requires.short.1 c.requires.short.2 c.keys_of-versions.result.now c.children_of-children.result.now (c.keys_of-versions.ensures ∙ node_keys (reading (work g.C.Cells c.args.cells.now)) c.args.at c.requires.short.1.keys (roots (suc c.requires.short.0) c.requires.short.1.children) (parent_node (work g.C.Cells c.args.cells.now) c.args.at c.requires.short.0 c.args.place c.requires.short.1 c.requires.short.2) c.node_at-parent.result c.node_at-parent.ensures) (c.children_of-children.ensures ∙ node_children (reading (work g.C.Cells c.args.cells.now)) c.args.at c.requires.short.1.keys (roots (suc c.requires.short.0) c.requires.short.1.children) (parent_node (work g.C.Cells c.args.cells.now) c.args.at c.requires.short.0 c.args.place c.requires.short.1 c.requires.short.2) c.node_at-parent.result c.node_at-parent.ensures) (inner_below (work g.C.Cells c.args.cells.now) c.args.at c.requires.short.0 c.args.place c.requires.short.1 c.requires.short.2 c.keys_of-versions.result.now c.children_of-children.result.now (c.keys_of-versions.ensures ∙ node_keys (reading (work g.C.Cells c.args.cells.now)) c.args.at c.requires.short.1.keys (roots (suc c.requires.short.0) c.requires.short.1.children) (parent_node (work g.C.Cells c.args.cells.now) c.args.at c.requires.short.0 c.args.place c.requires.short.1 c.requires.short.2) c.node_at-parent.result c.node_at-parent.ensures) (c.children_of-children.ensures ∙ node_children (reading (work g.C.Cells c.args.cells.now)) c.args.at c.requires.short.1.keys (roots (suc c.requires.short.0) c.requires.short.1.children) (parent_node (work g.C.Cells c.args.cells.now) c.args.at c.requires.short.0 c.args.place c.requires.short.1 c.requires.short.2) c.node_at-parent.result c.node_at-parent.ensures) c.if-place-versions.false)).0.children, right_node (work g.C.Cells c.args.cells.now) c.args.at c.requires.short.0 c.args.place c.requires.short.1 c.requires.short.2 c.keys_of-versions.result.now c.children_of-children.result.now (c.keys_of-versions.ensures ∙ node_keys (reading (work g.C.Cells c.args.cells.now)) c.args.at c.requires.short.1.keys (roots (suc c.requires.short.0) c.requires.short.1.children) (parent_node (work g.C.Cells c.args.cells.now) c.args.at c.requires.short.0 c.args.place c.requires.short.1 c.requires.short.2) c.node_at-parent.result c.node_at-parent.ensures) (c.children_of-children.ensures ∙ node_children (reading (work g.C.Cells c.args.cells.now)) c.args.at c.requires.short.1.keys (roots (suc c.requires.short.0) c.requires.short.1.children) (parent_node (work g.C.Cells c.args.cells.now) c.args.at c.requires.short.0 c.args.place c.requires.short.1 c.requires.short.2) c.node_at-parent.result c.node_at-parent.ensures) (sym (c.has_enough.ensures c.requires.short.2.short.keys (roots c.requires.short.0 c.requires.short.2.short.children) (short_node (work g.C.Cells c.args.cells.now) c.args.at c.requires.short.0 c.args.place c.requires.short.1 c.requires.short.2 c.keys_of-versions.result.now c.children_of-children.result.now (c.keys_of-versions.ensures ∙ node_keys (reading (work g.C.Cells c.args.cells.now)) c.args.at c.requires.short.1.keys (roots (suc c.requires.short.0) c.requires.short.1.children) (parent_node (work g.C.Cells c.args.cells.now) c.args.at c.requires.short.0 c.args.place c.requires.short.1 c.requires.short.2) c.node_at-parent.result c.node_at-parent.ensures) (c.children_of-children.ensures ∙ node_children (reading (work g.C.Cells c.args.cells.now)) c.args.at c.requires.short.1.keys (roots (suc c.requires.short.0) c.requires.short.1.children) (parent_node (work g.C.Cells c.args.cells.now) c.args.at c.requires.short.0 c.args.place c.requires.short.1 c.requires.short.2) c.node_at-parent.result c.node_at-parent.ensures) (record { number = 0 }))) ∙ c.if-has_enough.false) (behind_there (work g.C.Cells c.args.cells.now) c.args.at c.requires.short.0 c.args.place c.requires.short.1 c.requires.short.2 c.keys_of-versions.result.now c.children_of-children.result.now (c.keys_of-versions.ensures ∙ node_keys (reading (work g.C.Cells c.args.cells.now)) c.args.at c.requires.short.1.keys (roots (suc c.requires.short.0) c.requires.short.1.children) (parent_node (work g.C.Cells c.args.cells.now) c.args.at c.requires.short.0 c.args.place c.requires.short.1 c.requires.short.2) c.node_at-parent.result c.node_at-parent.ensures) (c.children_of-children.ensures ∙ node_children (reading (work g.C.Cells c.args.cells.now)) c.args.at c.requires.short.1.keys (roots (suc c.requires.short.0) c.requires.short.1.children) (parent_node (work g.C.Cells c.args.cells.now) c.args.at c.requires.short.0 c.args.place c.requires.short.1 c.requires.short.2) c.node_at-parent.result c.node_at-parent.ensures) (inner_below (work g.C.Cells c.args.cells.now) c.args.at c.requires.short.0 c.args.place c.requires.short.1 c.requires.short.2 c.keys_of-versions.result.now c.children_of-children.result.now (c.keys_of-versions.ensures ∙ node_keys (reading (work g.C.Cells c.args.cells.now)) c.args.at c.requires.short.1.keys (roots (suc c.requires.short.0) c.requires.short.1.children) (parent_node (work g.C.Cells c.args.cells.now) c.args.at c.requires.short.0 c.args.place c.requires.short.1 c.requires.short.2) c.node_at-parent.result c.node_at-parent.ensures) (c.children_of-children.ensures ∙ node_children (reading (work g.C.Cells c.args.cells.now)) c.args.at c.requires.short.1.keys (roots (suc c.requires.short.0) c.requires.short.1.children) (parent_node (work g.C.Cells c.args.cells.now) c.args.at c.requires.short.0 c.args.place c.requires.short.1 c.requires.short.2) c.node_at-parent.result c.node_at-parent.ensures) c.if-place-versions.false)).0 (behind_there (work g.C.Cells c.args.cells.now) c.args.at c.requires.short.0 c.args.place c.requires.short.1 c.requires.short.2 c.keys_of-versions.result.now c.children_of-children.result.now (c.keys_of-versions.ensures ∙ node_keys (reading (work g.C.Cells c.args.cells.now)) c.args.at c.requires.short.1.keys (roots (suc c.requires.short.0) c.requires.short.1.children) (parent_node (work g.C.Cells c.args.cells.now) c.args.at c.requires.short.0 c.args.place c.requires.short.1 c.requires.short.2) c.node_at-parent.result c.node_at-parent.ensures) (c.children_of-children.ensures ∙ node_children (reading (work g.C.Cells c.args.cells.now)) c.args.at c.requires.short.1.keys (roots (suc c.requires.short.0) c.requires.short.1.children) (parent_node (work g.C.Cells c.args.cells.now) c.args.at c.requires.short.0 c.args.place c.requires.short.1 c.requires.short.2) c.node_at-parent.result c.node_at-parent.ensures) (inner_below (work g.C.Cells c.args.cells.now) c.args.at c.requires.short.0 c.args.place c.requires.short.1 c.requires.short.2 c.keys_of-versions.result.now c.children_of-children.result.now (c.keys_of-versions.ensures ∙ node_keys (reading (work g.C.Cells c.args.cells.now)) c.args.at c.requires.short.1.keys (roots (suc c.requires.short.0) c.requires.short.1.children) (parent_node (work g.C.Cells c.args.cells.now) c.args.at c.requires.short.0 c.args.place c.requires.short.1 c.requires.short.2) c.node_at-parent.result c.node_at-parent.ensures) (c.children_of-children.ensures ∙ node_children (reading (work g.C.Cells c.args.cells.now)) c.args.at c.requires.short.1.keys (roots (suc c.requires.short.0) c.requires.short.1.children) (parent_node (work g.C.Cells c.args.cells.now) c.args.at c.requires.short.0 c.args.place c.requires.short.1 c.requires.short.2) c.node_at-parent.result c.node_at-parent.ensures) c.if-place-versions.false)).1 (behind_there (work g.C.Cells c.args.cells.now) c.args.at c.requires.short.0 c.args.place c.requires.short.1 c.requires.short.2 c.keys_of-versions.result.now c.children_of-children.result.now (c.keys_of-versions.ensures ∙ node_keys (reading (work g.C.Cells c.args.cells.now)) c.args.at c.requires.short.1.keys (roots (suc c.requires.short.0) c.requires.short.1.children) (parent_node (work g.C.Cells c.args.cells.now) c.args.at c.requires.short.0 c.args.place c.requires.short.1 c.requires.short.2) c.node_at-parent.result c.node_at-parent.ensures) (c.children_of-children.ensures ∙ node_children (reading (work g.C.Cells c.args.cells.now)) c.args.at c.requires.short.1.keys (roots (suc c.requires.short.0) c.requires.short.1.children) (parent_node (work g.C.Cells c.args.cells.now) c.args.at c.requires.short.0 c.args.place c.requires.short.1 c.requires.short.2) c.node_at-parent.result c.node_at-parent.ensures) (inner_below (work g.C.Cells c.args.cells.now) c.args.at c.requires.short.0 c.args.place c.requires.short.1 c.requires.short.2 c.keys_of-versions.result.now c.children_of-children.result.now (c.keys_of-versions.ensures ∙ node_keys (reading (work g.C.Cells c.args.cells.now)) c.args.at c.requires.short.1.keys (roots (suc c.requires.short.0) c.requires.short.1.children) (parent_node (work g.C.Cells c.args.cells.now) c.args.at c.requires.short.0 c.args.place c.requires.short.1 c.requires.short.2) c.node_at-parent.result c.node_at-parent.ensures) (c.children_of-children.ensures ∙ node_children (reading (work g.C.Cells c.args.cells.now)) c.args.at c.requires.short.1.keys (roots (suc c.requires.short.0) c.requires.short.1.children) (parent_node (work g.C.Cells c.args.cells.now) c.args.at c.requires.short.0 c.args.place c.requires.short.1 c.requires.short.2) c.node_at-parent.result c.node_at-parent.ensures) c.if-place-versions.false)).2 (record { number = 0 }))

pub share_from_right-requires-then-can_spare-3-clause-children : goal.share_from_right-requires-then-can_spare-3-clause-children
share_from_right-requires-then-can_spare-3-clause-children g c =
    children_few (work g.C.Cells c.args.cells.now) c.args.at c.requires.short.0 c.args.place c.requires.short.1 c.requires.short.2 c.keys_of-versions.result.now c.children_of-children.result.now (c.keys_of-versions.ensures ∙ node_keys (reading (work g.C.Cells c.args.cells.now)) c.args.at c.requires.short.1.keys (roots (suc c.requires.short.0) c.requires.short.1.children) (parent_node (work g.C.Cells c.args.cells.now) c.args.at c.requires.short.0 c.args.place c.requires.short.1 c.requires.short.2) c.node_at-parent.result c.node_at-parent.ensures) (c.children_of-children.ensures ∙ node_children (reading (work g.C.Cells c.args.cells.now)) c.args.at c.requires.short.1.keys (roots (suc c.requires.short.0) c.requires.short.1.children) (parent_node (work g.C.Cells c.args.cells.now) c.args.at c.requires.short.0 c.args.place c.requires.short.1 c.requires.short.2) c.node_at-parent.result c.node_at-parent.ensures)

pub share_from_right-requires-then-can_spare-3-clause-siblings : goal.share_from_right-requires-then-can_spare-3-clause-siblings
share_from_right-requires-then-can_spare-3-clause-siblings g c =
    right_siblings (work g.C.Cells c.args.cells.now) c.args.at c.requires.short.0 c.args.place c.requires.short.1 c.requires.short.2 c.keys_of-versions.result.now c.children_of-children.result.now (c.keys_of-versions.ensures ∙ node_keys (reading (work g.C.Cells c.args.cells.now)) c.args.at c.requires.short.1.keys (roots (suc c.requires.short.0) c.requires.short.1.children) (parent_node (work g.C.Cells c.args.cells.now) c.args.at c.requires.short.0 c.args.place c.requires.short.1 c.requires.short.2) c.node_at-parent.result c.node_at-parent.ensures) (c.children_of-children.ensures ∙ node_children (reading (work g.C.Cells c.args.cells.now)) c.args.at c.requires.short.1.keys (roots (suc c.requires.short.0) c.requires.short.1.children) (parent_node (work g.C.Cells c.args.cells.now) c.args.at c.requires.short.0 c.args.place c.requires.short.1 c.requires.short.2) c.node_at-parent.result c.node_at-parent.ensures) (sym (c.has_enough.ensures c.requires.short.2.short.keys (roots c.requires.short.0 c.requires.short.2.short.children) (short_node (work g.C.Cells c.args.cells.now) c.args.at c.requires.short.0 c.args.place c.requires.short.1 c.requires.short.2 c.keys_of-versions.result.now c.children_of-children.result.now (c.keys_of-versions.ensures ∙ node_keys (reading (work g.C.Cells c.args.cells.now)) c.args.at c.requires.short.1.keys (roots (suc c.requires.short.0) c.requires.short.1.children) (parent_node (work g.C.Cells c.args.cells.now) c.args.at c.requires.short.0 c.args.place c.requires.short.1 c.requires.short.2) c.node_at-parent.result c.node_at-parent.ensures) (c.children_of-children.ensures ∙ node_children (reading (work g.C.Cells c.args.cells.now)) c.args.at c.requires.short.1.keys (roots (suc c.requires.short.0) c.requires.short.1.children) (parent_node (work g.C.Cells c.args.cells.now) c.args.at c.requires.short.0 c.args.place c.requires.short.1 c.requires.short.2) c.node_at-parent.result c.node_at-parent.ensures) (record { number = 0 }))) ∙ c.if-has_enough.false) (behind_there (work g.C.Cells c.args.cells.now) c.args.at c.requires.short.0 c.args.place c.requires.short.1 c.requires.short.2 c.keys_of-versions.result.now c.children_of-children.result.now (c.keys_of-versions.ensures ∙ node_keys (reading (work g.C.Cells c.args.cells.now)) c.args.at c.requires.short.1.keys (roots (suc c.requires.short.0) c.requires.short.1.children) (parent_node (work g.C.Cells c.args.cells.now) c.args.at c.requires.short.0 c.args.place c.requires.short.1 c.requires.short.2) c.node_at-parent.result c.node_at-parent.ensures) (c.children_of-children.ensures ∙ node_children (reading (work g.C.Cells c.args.cells.now)) c.args.at c.requires.short.1.keys (roots (suc c.requires.short.0) c.requires.short.1.children) (parent_node (work g.C.Cells c.args.cells.now) c.args.at c.requires.short.0 c.args.place c.requires.short.1 c.requires.short.2) c.node_at-parent.result c.node_at-parent.ensures) (inner_below (work g.C.Cells c.args.cells.now) c.args.at c.requires.short.0 c.args.place c.requires.short.1 c.requires.short.2 c.keys_of-versions.result.now c.children_of-children.result.now (c.keys_of-versions.ensures ∙ node_keys (reading (work g.C.Cells c.args.cells.now)) c.args.at c.requires.short.1.keys (roots (suc c.requires.short.0) c.requires.short.1.children) (parent_node (work g.C.Cells c.args.cells.now) c.args.at c.requires.short.0 c.args.place c.requires.short.1 c.requires.short.2) c.node_at-parent.result c.node_at-parent.ensures) (c.children_of-children.ensures ∙ node_children (reading (work g.C.Cells c.args.cells.now)) c.args.at c.requires.short.1.keys (roots (suc c.requires.short.0) c.requires.short.1.children) (parent_node (work g.C.Cells c.args.cells.now) c.args.at c.requires.short.0 c.args.place c.requires.short.1 c.requires.short.2) c.node_at-parent.result c.node_at-parent.ensures) c.if-place-versions.false)).0 (behind_there (work g.C.Cells c.args.cells.now) c.args.at c.requires.short.0 c.args.place c.requires.short.1 c.requires.short.2 c.keys_of-versions.result.now c.children_of-children.result.now (c.keys_of-versions.ensures ∙ node_keys (reading (work g.C.Cells c.args.cells.now)) c.args.at c.requires.short.1.keys (roots (suc c.requires.short.0) c.requires.short.1.children) (parent_node (work g.C.Cells c.args.cells.now) c.args.at c.requires.short.0 c.args.place c.requires.short.1 c.requires.short.2) c.node_at-parent.result c.node_at-parent.ensures) (c.children_of-children.ensures ∙ node_children (reading (work g.C.Cells c.args.cells.now)) c.args.at c.requires.short.1.keys (roots (suc c.requires.short.0) c.requires.short.1.children) (parent_node (work g.C.Cells c.args.cells.now) c.args.at c.requires.short.0 c.args.place c.requires.short.1 c.requires.short.2) c.node_at-parent.result c.node_at-parent.ensures) (inner_below (work g.C.Cells c.args.cells.now) c.args.at c.requires.short.0 c.args.place c.requires.short.1 c.requires.short.2 c.keys_of-versions.result.now c.children_of-children.result.now (c.keys_of-versions.ensures ∙ node_keys (reading (work g.C.Cells c.args.cells.now)) c.args.at c.requires.short.1.keys (roots (suc c.requires.short.0) c.requires.short.1.children) (parent_node (work g.C.Cells c.args.cells.now) c.args.at c.requires.short.0 c.args.place c.requires.short.1 c.requires.short.2) c.node_at-parent.result c.node_at-parent.ensures) (c.children_of-children.ensures ∙ node_children (reading (work g.C.Cells c.args.cells.now)) c.args.at c.requires.short.1.keys (roots (suc c.requires.short.0) c.requires.short.1.children) (parent_node (work g.C.Cells c.args.cells.now) c.args.at c.requires.short.0 c.args.place c.requires.short.1 c.requires.short.2) c.node_at-parent.result c.node_at-parent.ensures) c.if-place-versions.false)).1 (behind_there (work g.C.Cells c.args.cells.now) c.args.at c.requires.short.0 c.args.place c.requires.short.1 c.requires.short.2 c.keys_of-versions.result.now c.children_of-children.result.now (c.keys_of-versions.ensures ∙ node_keys (reading (work g.C.Cells c.args.cells.now)) c.args.at c.requires.short.1.keys (roots (suc c.requires.short.0) c.requires.short.1.children) (parent_node (work g.C.Cells c.args.cells.now) c.args.at c.requires.short.0 c.args.place c.requires.short.1 c.requires.short.2) c.node_at-parent.result c.node_at-parent.ensures) (c.children_of-children.ensures ∙ node_children (reading (work g.C.Cells c.args.cells.now)) c.args.at c.requires.short.1.keys (roots (suc c.requires.short.0) c.requires.short.1.children) (parent_node (work g.C.Cells c.args.cells.now) c.args.at c.requires.short.0 c.args.place c.requires.short.1 c.requires.short.2) c.node_at-parent.result c.node_at-parent.ensures) (inner_below (work g.C.Cells c.args.cells.now) c.args.at c.requires.short.0 c.args.place c.requires.short.1 c.requires.short.2 c.keys_of-versions.result.now c.children_of-children.result.now (c.keys_of-versions.ensures ∙ node_keys (reading (work g.C.Cells c.args.cells.now)) c.args.at c.requires.short.1.keys (roots (suc c.requires.short.0) c.requires.short.1.children) (parent_node (work g.C.Cells c.args.cells.now) c.args.at c.requires.short.0 c.args.place c.requires.short.1 c.requires.short.2) c.node_at-parent.result c.node_at-parent.ensures) (c.children_of-children.ensures ∙ node_children (reading (work g.C.Cells c.args.cells.now)) c.args.at c.requires.short.1.keys (roots (suc c.requires.short.0) c.requires.short.1.children) (parent_node (work g.C.Cells c.args.cells.now) c.args.at c.requires.short.0 c.args.place c.requires.short.1 c.requires.short.2) c.node_at-parent.result c.node_at-parent.ensures) c.if-place-versions.false)).2 (sym (c.can_spare-3.ensures (behind_there (work g.C.Cells c.args.cells.now) c.args.at c.requires.short.0 c.args.place c.requires.short.1 c.requires.short.2 c.keys_of-versions.result.now c.children_of-children.result.now (c.keys_of-versions.ensures ∙ node_keys (reading (work g.C.Cells c.args.cells.now)) c.args.at c.requires.short.1.keys (roots (suc c.requires.short.0) c.requires.short.1.children) (parent_node (work g.C.Cells c.args.cells.now) c.args.at c.requires.short.0 c.args.place c.requires.short.1 c.requires.short.2) c.node_at-parent.result c.node_at-parent.ensures) (c.children_of-children.ensures ∙ node_children (reading (work g.C.Cells c.args.cells.now)) c.args.at c.requires.short.1.keys (roots (suc c.requires.short.0) c.requires.short.1.children) (parent_node (work g.C.Cells c.args.cells.now) c.args.at c.requires.short.0 c.args.place c.requires.short.1 c.requires.short.2) c.node_at-parent.result c.node_at-parent.ensures) (inner_below (work g.C.Cells c.args.cells.now) c.args.at c.requires.short.0 c.args.place c.requires.short.1 c.requires.short.2 c.keys_of-versions.result.now c.children_of-children.result.now (c.keys_of-versions.ensures ∙ node_keys (reading (work g.C.Cells c.args.cells.now)) c.args.at c.requires.short.1.keys (roots (suc c.requires.short.0) c.requires.short.1.children) (parent_node (work g.C.Cells c.args.cells.now) c.args.at c.requires.short.0 c.args.place c.requires.short.1 c.requires.short.2) c.node_at-parent.result c.node_at-parent.ensures) (c.children_of-children.ensures ∙ node_children (reading (work g.C.Cells c.args.cells.now)) c.args.at c.requires.short.1.keys (roots (suc c.requires.short.0) c.requires.short.1.children) (parent_node (work g.C.Cells c.args.cells.now) c.args.at c.requires.short.0 c.args.place c.requires.short.1 c.requires.short.2) c.node_at-parent.result c.node_at-parent.ensures) c.if-place-versions.false)).0.keys (roots c.requires.short.0 (behind_there (work g.C.Cells c.args.cells.now) c.args.at c.requires.short.0 c.args.place c.requires.short.1 c.requires.short.2 c.keys_of-versions.result.now c.children_of-children.result.now (c.keys_of-versions.ensures ∙ node_keys (reading (work g.C.Cells c.args.cells.now)) c.args.at c.requires.short.1.keys (roots (suc c.requires.short.0) c.requires.short.1.children) (parent_node (work g.C.Cells c.args.cells.now) c.args.at c.requires.short.0 c.args.place c.requires.short.1 c.requires.short.2) c.node_at-parent.result c.node_at-parent.ensures) (c.children_of-children.ensures ∙ node_children (reading (work g.C.Cells c.args.cells.now)) c.args.at c.requires.short.1.keys (roots (suc c.requires.short.0) c.requires.short.1.children) (parent_node (work g.C.Cells c.args.cells.now) c.args.at c.requires.short.0 c.args.place c.requires.short.1 c.requires.short.2) c.node_at-parent.result c.node_at-parent.ensures) (inner_below (work g.C.Cells c.args.cells.now) c.args.at c.requires.short.0 c.args.place c.requires.short.1 c.requires.short.2 c.keys_of-versions.result.now c.children_of-children.result.now (c.keys_of-versions.ensures ∙ node_keys (reading (work g.C.Cells c.args.cells.now)) c.args.at c.requires.short.1.keys (roots (suc c.requires.short.0) c.requires.short.1.children) (parent_node (work g.C.Cells c.args.cells.now) c.args.at c.requires.short.0 c.args.place c.requires.short.1 c.requires.short.2) c.node_at-parent.result c.node_at-parent.ensures) (c.children_of-children.ensures ∙ node_children (reading (work g.C.Cells c.args.cells.now)) c.args.at c.requires.short.1.keys (roots (suc c.requires.short.0) c.requires.short.1.children) (parent_node (work g.C.Cells c.args.cells.now) c.args.at c.requires.short.0 c.args.place c.requires.short.1 c.requires.short.2) c.node_at-parent.result c.node_at-parent.ensures) c.if-place-versions.false)).0.children) (right_node (work g.C.Cells c.args.cells.now) c.args.at c.requires.short.0 c.args.place c.requires.short.1 c.requires.short.2 c.keys_of-versions.result.now c.children_of-children.result.now (c.keys_of-versions.ensures ∙ node_keys (reading (work g.C.Cells c.args.cells.now)) c.args.at c.requires.short.1.keys (roots (suc c.requires.short.0) c.requires.short.1.children) (parent_node (work g.C.Cells c.args.cells.now) c.args.at c.requires.short.0 c.args.place c.requires.short.1 c.requires.short.2) c.node_at-parent.result c.node_at-parent.ensures) (c.children_of-children.ensures ∙ node_children (reading (work g.C.Cells c.args.cells.now)) c.args.at c.requires.short.1.keys (roots (suc c.requires.short.0) c.requires.short.1.children) (parent_node (work g.C.Cells c.args.cells.now) c.args.at c.requires.short.0 c.args.place c.requires.short.1 c.requires.short.2) c.node_at-parent.result c.node_at-parent.ensures) (sym (c.has_enough.ensures c.requires.short.2.short.keys (roots c.requires.short.0 c.requires.short.2.short.children) (short_node (work g.C.Cells c.args.cells.now) c.args.at c.requires.short.0 c.args.place c.requires.short.1 c.requires.short.2 c.keys_of-versions.result.now c.children_of-children.result.now (c.keys_of-versions.ensures ∙ node_keys (reading (work g.C.Cells c.args.cells.now)) c.args.at c.requires.short.1.keys (roots (suc c.requires.short.0) c.requires.short.1.children) (parent_node (work g.C.Cells c.args.cells.now) c.args.at c.requires.short.0 c.args.place c.requires.short.1 c.requires.short.2) c.node_at-parent.result c.node_at-parent.ensures) (c.children_of-children.ensures ∙ node_children (reading (work g.C.Cells c.args.cells.now)) c.args.at c.requires.short.1.keys (roots (suc c.requires.short.0) c.requires.short.1.children) (parent_node (work g.C.Cells c.args.cells.now) c.args.at c.requires.short.0 c.args.place c.requires.short.1 c.requires.short.2) c.node_at-parent.result c.node_at-parent.ensures) (record { number = 0 }))) ∙ c.if-has_enough.false) (behind_there (work g.C.Cells c.args.cells.now) c.args.at c.requires.short.0 c.args.place c.requires.short.1 c.requires.short.2 c.keys_of-versions.result.now c.children_of-children.result.now (c.keys_of-versions.ensures ∙ node_keys (reading (work g.C.Cells c.args.cells.now)) c.args.at c.requires.short.1.keys (roots (suc c.requires.short.0) c.requires.short.1.children) (parent_node (work g.C.Cells c.args.cells.now) c.args.at c.requires.short.0 c.args.place c.requires.short.1 c.requires.short.2) c.node_at-parent.result c.node_at-parent.ensures) (c.children_of-children.ensures ∙ node_children (reading (work g.C.Cells c.args.cells.now)) c.args.at c.requires.short.1.keys (roots (suc c.requires.short.0) c.requires.short.1.children) (parent_node (work g.C.Cells c.args.cells.now) c.args.at c.requires.short.0 c.args.place c.requires.short.1 c.requires.short.2) c.node_at-parent.result c.node_at-parent.ensures) (inner_below (work g.C.Cells c.args.cells.now) c.args.at c.requires.short.0 c.args.place c.requires.short.1 c.requires.short.2 c.keys_of-versions.result.now c.children_of-children.result.now (c.keys_of-versions.ensures ∙ node_keys (reading (work g.C.Cells c.args.cells.now)) c.args.at c.requires.short.1.keys (roots (suc c.requires.short.0) c.requires.short.1.children) (parent_node (work g.C.Cells c.args.cells.now) c.args.at c.requires.short.0 c.args.place c.requires.short.1 c.requires.short.2) c.node_at-parent.result c.node_at-parent.ensures) (c.children_of-children.ensures ∙ node_children (reading (work g.C.Cells c.args.cells.now)) c.args.at c.requires.short.1.keys (roots (suc c.requires.short.0) c.requires.short.1.children) (parent_node (work g.C.Cells c.args.cells.now) c.args.at c.requires.short.0 c.args.place c.requires.short.1 c.requires.short.2) c.node_at-parent.result c.node_at-parent.ensures) c.if-place-versions.false)).0 (behind_there (work g.C.Cells c.args.cells.now) c.args.at c.requires.short.0 c.args.place c.requires.short.1 c.requires.short.2 c.keys_of-versions.result.now c.children_of-children.result.now (c.keys_of-versions.ensures ∙ node_keys (reading (work g.C.Cells c.args.cells.now)) c.args.at c.requires.short.1.keys (roots (suc c.requires.short.0) c.requires.short.1.children) (parent_node (work g.C.Cells c.args.cells.now) c.args.at c.requires.short.0 c.args.place c.requires.short.1 c.requires.short.2) c.node_at-parent.result c.node_at-parent.ensures) (c.children_of-children.ensures ∙ node_children (reading (work g.C.Cells c.args.cells.now)) c.args.at c.requires.short.1.keys (roots (suc c.requires.short.0) c.requires.short.1.children) (parent_node (work g.C.Cells c.args.cells.now) c.args.at c.requires.short.0 c.args.place c.requires.short.1 c.requires.short.2) c.node_at-parent.result c.node_at-parent.ensures) (inner_below (work g.C.Cells c.args.cells.now) c.args.at c.requires.short.0 c.args.place c.requires.short.1 c.requires.short.2 c.keys_of-versions.result.now c.children_of-children.result.now (c.keys_of-versions.ensures ∙ node_keys (reading (work g.C.Cells c.args.cells.now)) c.args.at c.requires.short.1.keys (roots (suc c.requires.short.0) c.requires.short.1.children) (parent_node (work g.C.Cells c.args.cells.now) c.args.at c.requires.short.0 c.args.place c.requires.short.1 c.requires.short.2) c.node_at-parent.result c.node_at-parent.ensures) (c.children_of-children.ensures ∙ node_children (reading (work g.C.Cells c.args.cells.now)) c.args.at c.requires.short.1.keys (roots (suc c.requires.short.0) c.requires.short.1.children) (parent_node (work g.C.Cells c.args.cells.now) c.args.at c.requires.short.0 c.args.place c.requires.short.1 c.requires.short.2) c.node_at-parent.result c.node_at-parent.ensures) c.if-place-versions.false)).1 (behind_there (work g.C.Cells c.args.cells.now) c.args.at c.requires.short.0 c.args.place c.requires.short.1 c.requires.short.2 c.keys_of-versions.result.now c.children_of-children.result.now (c.keys_of-versions.ensures ∙ node_keys (reading (work g.C.Cells c.args.cells.now)) c.args.at c.requires.short.1.keys (roots (suc c.requires.short.0) c.requires.short.1.children) (parent_node (work g.C.Cells c.args.cells.now) c.args.at c.requires.short.0 c.args.place c.requires.short.1 c.requires.short.2) c.node_at-parent.result c.node_at-parent.ensures) (c.children_of-children.ensures ∙ node_children (reading (work g.C.Cells c.args.cells.now)) c.args.at c.requires.short.1.keys (roots (suc c.requires.short.0) c.requires.short.1.children) (parent_node (work g.C.Cells c.args.cells.now) c.args.at c.requires.short.0 c.args.place c.requires.short.1 c.requires.short.2) c.node_at-parent.result c.node_at-parent.ensures) (inner_below (work g.C.Cells c.args.cells.now) c.args.at c.requires.short.0 c.args.place c.requires.short.1 c.requires.short.2 c.keys_of-versions.result.now c.children_of-children.result.now (c.keys_of-versions.ensures ∙ node_keys (reading (work g.C.Cells c.args.cells.now)) c.args.at c.requires.short.1.keys (roots (suc c.requires.short.0) c.requires.short.1.children) (parent_node (work g.C.Cells c.args.cells.now) c.args.at c.requires.short.0 c.args.place c.requires.short.1 c.requires.short.2) c.node_at-parent.result c.node_at-parent.ensures) (c.children_of-children.ensures ∙ node_children (reading (work g.C.Cells c.args.cells.now)) c.args.at c.requires.short.1.keys (roots (suc c.requires.short.0) c.requires.short.1.children) (parent_node (work g.C.Cells c.args.cells.now) c.args.at c.requires.short.0 c.args.place c.requires.short.1 c.requires.short.2) c.node_at-parent.result c.node_at-parent.ensures) c.if-place-versions.false)).2 (record { number = 0 }))) ∙ c.if-can_spare-3.true)

pub returns-then-can_spare-3-clause-mended : goal.returns-then-can_spare-3-clause-mended
returns-then-can_spare-3-clause-mended g c =
    λ h t s. right_shared (work g.C.Cells c.args.cells.now) c.args.at h c.args.place t s c.keys_of-versions.result.now c.children_of-children.result.now (c.keys_of-versions.ensures ∙ node_keys (reading (work g.C.Cells c.args.cells.now)) c.args.at t.keys (roots (suc h) t.children) (parent_node (work g.C.Cells c.args.cells.now) c.args.at h c.args.place t s) c.node_at-parent.result c.node_at-parent.ensures) (c.children_of-children.ensures ∙ node_children (reading (work g.C.Cells c.args.cells.now)) c.args.at t.keys (roots (suc h) t.children) (parent_node (work g.C.Cells c.args.cells.now) c.args.at h c.args.place t s) c.node_at-parent.result c.node_at-parent.ensures) (sym (c.has_enough.ensures s.short.keys (roots h s.short.children) (short_node (work g.C.Cells c.args.cells.now) c.args.at h c.args.place t s c.keys_of-versions.result.now c.children_of-children.result.now (c.keys_of-versions.ensures ∙ node_keys (reading (work g.C.Cells c.args.cells.now)) c.args.at t.keys (roots (suc h) t.children) (parent_node (work g.C.Cells c.args.cells.now) c.args.at h c.args.place t s) c.node_at-parent.result c.node_at-parent.ensures) (c.children_of-children.ensures ∙ node_children (reading (work g.C.Cells c.args.cells.now)) c.args.at t.keys (roots (suc h) t.children) (parent_node (work g.C.Cells c.args.cells.now) c.args.at h c.args.place t s) c.node_at-parent.result c.node_at-parent.ensures) (record { number = 0 }))) ∙ c.if-has_enough.false) (behind_there (work g.C.Cells c.args.cells.now) c.args.at h c.args.place t s c.keys_of-versions.result.now c.children_of-children.result.now (c.keys_of-versions.ensures ∙ node_keys (reading (work g.C.Cells c.args.cells.now)) c.args.at t.keys (roots (suc h) t.children) (parent_node (work g.C.Cells c.args.cells.now) c.args.at h c.args.place t s) c.node_at-parent.result c.node_at-parent.ensures) (c.children_of-children.ensures ∙ node_children (reading (work g.C.Cells c.args.cells.now)) c.args.at t.keys (roots (suc h) t.children) (parent_node (work g.C.Cells c.args.cells.now) c.args.at h c.args.place t s) c.node_at-parent.result c.node_at-parent.ensures) (inner_below (work g.C.Cells c.args.cells.now) c.args.at h c.args.place t s c.keys_of-versions.result.now c.children_of-children.result.now (c.keys_of-versions.ensures ∙ node_keys (reading (work g.C.Cells c.args.cells.now)) c.args.at t.keys (roots (suc h) t.children) (parent_node (work g.C.Cells c.args.cells.now) c.args.at h c.args.place t s) c.node_at-parent.result c.node_at-parent.ensures) (c.children_of-children.ensures ∙ node_children (reading (work g.C.Cells c.args.cells.now)) c.args.at t.keys (roots (suc h) t.children) (parent_node (work g.C.Cells c.args.cells.now) c.args.at h c.args.place t s) c.node_at-parent.result c.node_at-parent.ensures) c.if-place-versions.false)).0 (behind_there (work g.C.Cells c.args.cells.now) c.args.at h c.args.place t s c.keys_of-versions.result.now c.children_of-children.result.now (c.keys_of-versions.ensures ∙ node_keys (reading (work g.C.Cells c.args.cells.now)) c.args.at t.keys (roots (suc h) t.children) (parent_node (work g.C.Cells c.args.cells.now) c.args.at h c.args.place t s) c.node_at-parent.result c.node_at-parent.ensures) (c.children_of-children.ensures ∙ node_children (reading (work g.C.Cells c.args.cells.now)) c.args.at t.keys (roots (suc h) t.children) (parent_node (work g.C.Cells c.args.cells.now) c.args.at h c.args.place t s) c.node_at-parent.result c.node_at-parent.ensures) (inner_below (work g.C.Cells c.args.cells.now) c.args.at h c.args.place t s c.keys_of-versions.result.now c.children_of-children.result.now (c.keys_of-versions.ensures ∙ node_keys (reading (work g.C.Cells c.args.cells.now)) c.args.at t.keys (roots (suc h) t.children) (parent_node (work g.C.Cells c.args.cells.now) c.args.at h c.args.place t s) c.node_at-parent.result c.node_at-parent.ensures) (c.children_of-children.ensures ∙ node_children (reading (work g.C.Cells c.args.cells.now)) c.args.at t.keys (roots (suc h) t.children) (parent_node (work g.C.Cells c.args.cells.now) c.args.at h c.args.place t s) c.node_at-parent.result c.node_at-parent.ensures) c.if-place-versions.false)).1 (behind_there (work g.C.Cells c.args.cells.now) c.args.at h c.args.place t s c.keys_of-versions.result.now c.children_of-children.result.now (c.keys_of-versions.ensures ∙ node_keys (reading (work g.C.Cells c.args.cells.now)) c.args.at t.keys (roots (suc h) t.children) (parent_node (work g.C.Cells c.args.cells.now) c.args.at h c.args.place t s) c.node_at-parent.result c.node_at-parent.ensures) (c.children_of-children.ensures ∙ node_children (reading (work g.C.Cells c.args.cells.now)) c.args.at t.keys (roots (suc h) t.children) (parent_node (work g.C.Cells c.args.cells.now) c.args.at h c.args.place t s) c.node_at-parent.result c.node_at-parent.ensures) (inner_below (work g.C.Cells c.args.cells.now) c.args.at h c.args.place t s c.keys_of-versions.result.now c.children_of-children.result.now (c.keys_of-versions.ensures ∙ node_keys (reading (work g.C.Cells c.args.cells.now)) c.args.at t.keys (roots (suc h) t.children) (parent_node (work g.C.Cells c.args.cells.now) c.args.at h c.args.place t s) c.node_at-parent.result c.node_at-parent.ensures) (c.children_of-children.ensures ∙ node_children (reading (work g.C.Cells c.args.cells.now)) c.args.at t.keys (roots (suc h) t.children) (parent_node (work g.C.Cells c.args.cells.now) c.args.at h c.args.place t s) c.node_at-parent.result c.node_at-parent.ensures) c.if-place-versions.false)).2 (sym (c.can_spare-3.ensures (behind_there (work g.C.Cells c.args.cells.now) c.args.at h c.args.place t s c.keys_of-versions.result.now c.children_of-children.result.now (c.keys_of-versions.ensures ∙ node_keys (reading (work g.C.Cells c.args.cells.now)) c.args.at t.keys (roots (suc h) t.children) (parent_node (work g.C.Cells c.args.cells.now) c.args.at h c.args.place t s) c.node_at-parent.result c.node_at-parent.ensures) (c.children_of-children.ensures ∙ node_children (reading (work g.C.Cells c.args.cells.now)) c.args.at t.keys (roots (suc h) t.children) (parent_node (work g.C.Cells c.args.cells.now) c.args.at h c.args.place t s) c.node_at-parent.result c.node_at-parent.ensures) (inner_below (work g.C.Cells c.args.cells.now) c.args.at h c.args.place t s c.keys_of-versions.result.now c.children_of-children.result.now (c.keys_of-versions.ensures ∙ node_keys (reading (work g.C.Cells c.args.cells.now)) c.args.at t.keys (roots (suc h) t.children) (parent_node (work g.C.Cells c.args.cells.now) c.args.at h c.args.place t s) c.node_at-parent.result c.node_at-parent.ensures) (c.children_of-children.ensures ∙ node_children (reading (work g.C.Cells c.args.cells.now)) c.args.at t.keys (roots (suc h) t.children) (parent_node (work g.C.Cells c.args.cells.now) c.args.at h c.args.place t s) c.node_at-parent.result c.node_at-parent.ensures) c.if-place-versions.false)).0.keys (roots h (behind_there (work g.C.Cells c.args.cells.now) c.args.at h c.args.place t s c.keys_of-versions.result.now c.children_of-children.result.now (c.keys_of-versions.ensures ∙ node_keys (reading (work g.C.Cells c.args.cells.now)) c.args.at t.keys (roots (suc h) t.children) (parent_node (work g.C.Cells c.args.cells.now) c.args.at h c.args.place t s) c.node_at-parent.result c.node_at-parent.ensures) (c.children_of-children.ensures ∙ node_children (reading (work g.C.Cells c.args.cells.now)) c.args.at t.keys (roots (suc h) t.children) (parent_node (work g.C.Cells c.args.cells.now) c.args.at h c.args.place t s) c.node_at-parent.result c.node_at-parent.ensures) (inner_below (work g.C.Cells c.args.cells.now) c.args.at h c.args.place t s c.keys_of-versions.result.now c.children_of-children.result.now (c.keys_of-versions.ensures ∙ node_keys (reading (work g.C.Cells c.args.cells.now)) c.args.at t.keys (roots (suc h) t.children) (parent_node (work g.C.Cells c.args.cells.now) c.args.at h c.args.place t s) c.node_at-parent.result c.node_at-parent.ensures) (c.children_of-children.ensures ∙ node_children (reading (work g.C.Cells c.args.cells.now)) c.args.at t.keys (roots (suc h) t.children) (parent_node (work g.C.Cells c.args.cells.now) c.args.at h c.args.place t s) c.node_at-parent.result c.node_at-parent.ensures) c.if-place-versions.false)).0.children) (right_node (work g.C.Cells c.args.cells.now) c.args.at h c.args.place t s c.keys_of-versions.result.now c.children_of-children.result.now (c.keys_of-versions.ensures ∙ node_keys (reading (work g.C.Cells c.args.cells.now)) c.args.at t.keys (roots (suc h) t.children) (parent_node (work g.C.Cells c.args.cells.now) c.args.at h c.args.place t s) c.node_at-parent.result c.node_at-parent.ensures) (c.children_of-children.ensures ∙ node_children (reading (work g.C.Cells c.args.cells.now)) c.args.at t.keys (roots (suc h) t.children) (parent_node (work g.C.Cells c.args.cells.now) c.args.at h c.args.place t s) c.node_at-parent.result c.node_at-parent.ensures) (sym (c.has_enough.ensures s.short.keys (roots h s.short.children) (short_node (work g.C.Cells c.args.cells.now) c.args.at h c.args.place t s c.keys_of-versions.result.now c.children_of-children.result.now (c.keys_of-versions.ensures ∙ node_keys (reading (work g.C.Cells c.args.cells.now)) c.args.at t.keys (roots (suc h) t.children) (parent_node (work g.C.Cells c.args.cells.now) c.args.at h c.args.place t s) c.node_at-parent.result c.node_at-parent.ensures) (c.children_of-children.ensures ∙ node_children (reading (work g.C.Cells c.args.cells.now)) c.args.at t.keys (roots (suc h) t.children) (parent_node (work g.C.Cells c.args.cells.now) c.args.at h c.args.place t s) c.node_at-parent.result c.node_at-parent.ensures) (record { number = 0 }))) ∙ c.if-has_enough.false) (behind_there (work g.C.Cells c.args.cells.now) c.args.at h c.args.place t s c.keys_of-versions.result.now c.children_of-children.result.now (c.keys_of-versions.ensures ∙ node_keys (reading (work g.C.Cells c.args.cells.now)) c.args.at t.keys (roots (suc h) t.children) (parent_node (work g.C.Cells c.args.cells.now) c.args.at h c.args.place t s) c.node_at-parent.result c.node_at-parent.ensures) (c.children_of-children.ensures ∙ node_children (reading (work g.C.Cells c.args.cells.now)) c.args.at t.keys (roots (suc h) t.children) (parent_node (work g.C.Cells c.args.cells.now) c.args.at h c.args.place t s) c.node_at-parent.result c.node_at-parent.ensures) (inner_below (work g.C.Cells c.args.cells.now) c.args.at h c.args.place t s c.keys_of-versions.result.now c.children_of-children.result.now (c.keys_of-versions.ensures ∙ node_keys (reading (work g.C.Cells c.args.cells.now)) c.args.at t.keys (roots (suc h) t.children) (parent_node (work g.C.Cells c.args.cells.now) c.args.at h c.args.place t s) c.node_at-parent.result c.node_at-parent.ensures) (c.children_of-children.ensures ∙ node_children (reading (work g.C.Cells c.args.cells.now)) c.args.at t.keys (roots (suc h) t.children) (parent_node (work g.C.Cells c.args.cells.now) c.args.at h c.args.place t s) c.node_at-parent.result c.node_at-parent.ensures) c.if-place-versions.false)).0 (behind_there (work g.C.Cells c.args.cells.now) c.args.at h c.args.place t s c.keys_of-versions.result.now c.children_of-children.result.now (c.keys_of-versions.ensures ∙ node_keys (reading (work g.C.Cells c.args.cells.now)) c.args.at t.keys (roots (suc h) t.children) (parent_node (work g.C.Cells c.args.cells.now) c.args.at h c.args.place t s) c.node_at-parent.result c.node_at-parent.ensures) (c.children_of-children.ensures ∙ node_children (reading (work g.C.Cells c.args.cells.now)) c.args.at t.keys (roots (suc h) t.children) (parent_node (work g.C.Cells c.args.cells.now) c.args.at h c.args.place t s) c.node_at-parent.result c.node_at-parent.ensures) (inner_below (work g.C.Cells c.args.cells.now) c.args.at h c.args.place t s c.keys_of-versions.result.now c.children_of-children.result.now (c.keys_of-versions.ensures ∙ node_keys (reading (work g.C.Cells c.args.cells.now)) c.args.at t.keys (roots (suc h) t.children) (parent_node (work g.C.Cells c.args.cells.now) c.args.at h c.args.place t s) c.node_at-parent.result c.node_at-parent.ensures) (c.children_of-children.ensures ∙ node_children (reading (work g.C.Cells c.args.cells.now)) c.args.at t.keys (roots (suc h) t.children) (parent_node (work g.C.Cells c.args.cells.now) c.args.at h c.args.place t s) c.node_at-parent.result c.node_at-parent.ensures) c.if-place-versions.false)).1 (behind_there (work g.C.Cells c.args.cells.now) c.args.at h c.args.place t s c.keys_of-versions.result.now c.children_of-children.result.now (c.keys_of-versions.ensures ∙ node_keys (reading (work g.C.Cells c.args.cells.now)) c.args.at t.keys (roots (suc h) t.children) (parent_node (work g.C.Cells c.args.cells.now) c.args.at h c.args.place t s) c.node_at-parent.result c.node_at-parent.ensures) (c.children_of-children.ensures ∙ node_children (reading (work g.C.Cells c.args.cells.now)) c.args.at t.keys (roots (suc h) t.children) (parent_node (work g.C.Cells c.args.cells.now) c.args.at h c.args.place t s) c.node_at-parent.result c.node_at-parent.ensures) (inner_below (work g.C.Cells c.args.cells.now) c.args.at h c.args.place t s c.keys_of-versions.result.now c.children_of-children.result.now (c.keys_of-versions.ensures ∙ node_keys (reading (work g.C.Cells c.args.cells.now)) c.args.at t.keys (roots (suc h) t.children) (parent_node (work g.C.Cells c.args.cells.now) c.args.at h c.args.place t s) c.node_at-parent.result c.node_at-parent.ensures) (c.children_of-children.ensures ∙ node_children (reading (work g.C.Cells c.args.cells.now)) c.args.at t.keys (roots (suc h) t.children) (parent_node (work g.C.Cells c.args.cells.now) c.args.at h c.args.place t s) c.node_at-parent.result c.node_at-parent.ensures) c.if-place-versions.false)).2 (record { number = 0 }))) ∙ c.if-can_spare-3.true) (work g.C.Cells c.share_from_right-then-can_spare-3.new.cells) c.share_from_right-then-can_spare-3.ensures.work

pub merge-requires-2-clause-children : goal.merge-requires-2-clause-children
merge-requires-2-clause-children g c =
    children_few (work g.C.Cells c.args.cells.now) c.args.at c.requires.short.0 c.args.place c.requires.short.1 c.requires.short.2 c.keys_of-versions.result.now c.children_of-children.result.now (c.keys_of-versions.ensures ∙ node_keys (reading (work g.C.Cells c.args.cells.now)) c.args.at c.requires.short.1.keys (roots (suc c.requires.short.0) c.requires.short.1.children) (parent_node (work g.C.Cells c.args.cells.now) c.args.at c.requires.short.0 c.args.place c.requires.short.1 c.requires.short.2) c.node_at-parent.result c.node_at-parent.ensures) (c.children_of-children.ensures ∙ node_children (reading (work g.C.Cells c.args.cells.now)) c.args.at c.requires.short.1.keys (roots (suc c.requires.short.0) c.requires.short.1.children) (parent_node (work g.C.Cells c.args.cells.now) c.args.at c.requires.short.0 c.args.place c.requires.short.1 c.requires.short.2) c.node_at-parent.result c.node_at-parent.ensures)

pub merge-requires-2-clause-siblings : goal.merge-requires-2-clause-siblings
merge-requires-2-clause-siblings g c =
    let some : 0 < c.args.place = (let far = c.if-place-eq0.false in omega arith) in left_merge_siblings (work g.C.Cells c.args.cells.now) c.args.at c.requires.short.0 c.args.place c.requires.short.1 c.requires.short.2 c.keys_of-versions.result.now c.children_of-children.result.now (c.keys_of-versions.ensures ∙ node_keys (reading (work g.C.Cells c.args.cells.now)) c.args.at c.requires.short.1.keys (roots (suc c.requires.short.0) c.requires.short.1.children) (parent_node (work g.C.Cells c.args.cells.now) c.args.at c.requires.short.0 c.args.place c.requires.short.1 c.requires.short.2) c.node_at-parent.result c.node_at-parent.ensures) (c.children_of-children.ensures ∙ node_children (reading (work g.C.Cells c.args.cells.now)) c.args.at c.requires.short.1.keys (roots (suc c.requires.short.0) c.requires.short.1.children) (parent_node (work g.C.Cells c.args.cells.now) c.args.at c.requires.short.0 c.args.place c.requires.short.1 c.requires.short.2) c.node_at-parent.result c.node_at-parent.ensures) (sym (c.has_enough.ensures c.requires.short.2.short.keys (roots c.requires.short.0 c.requires.short.2.short.children) (short_node (work g.C.Cells c.args.cells.now) c.args.at c.requires.short.0 c.args.place c.requires.short.1 c.requires.short.2 c.keys_of-versions.result.now c.children_of-children.result.now (c.keys_of-versions.ensures ∙ node_keys (reading (work g.C.Cells c.args.cells.now)) c.args.at c.requires.short.1.keys (roots (suc c.requires.short.0) c.requires.short.1.children) (parent_node (work g.C.Cells c.args.cells.now) c.args.at c.requires.short.0 c.args.place c.requires.short.1 c.requires.short.2) c.node_at-parent.result c.node_at-parent.ensures) (c.children_of-children.ensures ∙ node_children (reading (work g.C.Cells c.args.cells.now)) c.args.at c.requires.short.1.keys (roots (suc c.requires.short.0) c.requires.short.1.children) (parent_node (work g.C.Cells c.args.cells.now) c.args.at c.requires.short.0 c.args.place c.requires.short.1 c.requires.short.2) c.node_at-parent.result c.node_at-parent.ensures) (record { number = 0 }))) ∙ c.if-has_enough.false) some (sym (c.can_spare-2.ensures (left_keys (work g.C.Cells c.args.cells.now) c.args.at c.requires.short.0 c.args.place c.requires.short.1 c.requires.short.2 c.keys_of-versions.result.now c.children_of-children.result.now (c.keys_of-versions.ensures ∙ node_keys (reading (work g.C.Cells c.args.cells.now)) c.args.at c.requires.short.1.keys (roots (suc c.requires.short.0) c.requires.short.1.children) (parent_node (work g.C.Cells c.args.cells.now) c.args.at c.requires.short.0 c.args.place c.requires.short.1 c.requires.short.2) c.node_at-parent.result c.node_at-parent.ensures) (c.children_of-children.ensures ∙ node_children (reading (work g.C.Cells c.args.cells.now)) c.args.at c.requires.short.1.keys (roots (suc c.requires.short.0) c.requires.short.1.children) (parent_node (work g.C.Cells c.args.cells.now) c.args.at c.requires.short.0 c.args.place c.requires.short.1 c.requires.short.2) c.node_at-parent.result c.node_at-parent.ensures) (sym (c.has_enough.ensures c.requires.short.2.short.keys (roots c.requires.short.0 c.requires.short.2.short.children) (short_node (work g.C.Cells c.args.cells.now) c.args.at c.requires.short.0 c.args.place c.requires.short.1 c.requires.short.2 c.keys_of-versions.result.now c.children_of-children.result.now (c.keys_of-versions.ensures ∙ node_keys (reading (work g.C.Cells c.args.cells.now)) c.args.at c.requires.short.1.keys (roots (suc c.requires.short.0) c.requires.short.1.children) (parent_node (work g.C.Cells c.args.cells.now) c.args.at c.requires.short.0 c.args.place c.requires.short.1 c.requires.short.2) c.node_at-parent.result c.node_at-parent.ensures) (c.children_of-children.ensures ∙ node_children (reading (work g.C.Cells c.args.cells.now)) c.args.at c.requires.short.1.keys (roots (suc c.requires.short.0) c.requires.short.1.children) (parent_node (work g.C.Cells c.args.cells.now) c.args.at c.requires.short.0 c.args.place c.requires.short.1 c.requires.short.2) c.node_at-parent.result c.node_at-parent.ensures) (record { number = 0 }))) ∙ c.if-has_enough.false) some) (left_children (work g.C.Cells c.args.cells.now) c.args.at c.requires.short.0 c.args.place c.requires.short.1 c.requires.short.2 c.keys_of-versions.result.now c.children_of-children.result.now (c.keys_of-versions.ensures ∙ node_keys (reading (work g.C.Cells c.args.cells.now)) c.args.at c.requires.short.1.keys (roots (suc c.requires.short.0) c.requires.short.1.children) (parent_node (work g.C.Cells c.args.cells.now) c.args.at c.requires.short.0 c.args.place c.requires.short.1 c.requires.short.2) c.node_at-parent.result c.node_at-parent.ensures) (c.children_of-children.ensures ∙ node_children (reading (work g.C.Cells c.args.cells.now)) c.args.at c.requires.short.1.keys (roots (suc c.requires.short.0) c.requires.short.1.children) (parent_node (work g.C.Cells c.args.cells.now) c.args.at c.requires.short.0 c.args.place c.requires.short.1 c.requires.short.2) c.node_at-parent.result c.node_at-parent.ensures) (sym (c.has_enough.ensures c.requires.short.2.short.keys (roots c.requires.short.0 c.requires.short.2.short.children) (short_node (work g.C.Cells c.args.cells.now) c.args.at c.requires.short.0 c.args.place c.requires.short.1 c.requires.short.2 c.keys_of-versions.result.now c.children_of-children.result.now (c.keys_of-versions.ensures ∙ node_keys (reading (work g.C.Cells c.args.cells.now)) c.args.at c.requires.short.1.keys (roots (suc c.requires.short.0) c.requires.short.1.children) (parent_node (work g.C.Cells c.args.cells.now) c.args.at c.requires.short.0 c.args.place c.requires.short.1 c.requires.short.2) c.node_at-parent.result c.node_at-parent.ensures) (c.children_of-children.ensures ∙ node_children (reading (work g.C.Cells c.args.cells.now)) c.args.at c.requires.short.1.keys (roots (suc c.requires.short.0) c.requires.short.1.children) (parent_node (work g.C.Cells c.args.cells.now) c.args.at c.requires.short.0 c.args.place c.requires.short.1 c.requires.short.2) c.node_at-parent.result c.node_at-parent.ensures) (record { number = 0 }))) ∙ c.if-has_enough.false) some) (left_node (work g.C.Cells c.args.cells.now) c.args.at c.requires.short.0 c.args.place c.requires.short.1 c.requires.short.2 c.keys_of-versions.result.now c.children_of-children.result.now (c.keys_of-versions.ensures ∙ node_keys (reading (work g.C.Cells c.args.cells.now)) c.args.at c.requires.short.1.keys (roots (suc c.requires.short.0) c.requires.short.1.children) (parent_node (work g.C.Cells c.args.cells.now) c.args.at c.requires.short.0 c.args.place c.requires.short.1 c.requires.short.2) c.node_at-parent.result c.node_at-parent.ensures) (c.children_of-children.ensures ∙ node_children (reading (work g.C.Cells c.args.cells.now)) c.args.at c.requires.short.1.keys (roots (suc c.requires.short.0) c.requires.short.1.children) (parent_node (work g.C.Cells c.args.cells.now) c.args.at c.requires.short.0 c.args.place c.requires.short.1 c.requires.short.2) c.node_at-parent.result c.node_at-parent.ensures) (sym (c.has_enough.ensures c.requires.short.2.short.keys (roots c.requires.short.0 c.requires.short.2.short.children) (short_node (work g.C.Cells c.args.cells.now) c.args.at c.requires.short.0 c.args.place c.requires.short.1 c.requires.short.2 c.keys_of-versions.result.now c.children_of-children.result.now (c.keys_of-versions.ensures ∙ node_keys (reading (work g.C.Cells c.args.cells.now)) c.args.at c.requires.short.1.keys (roots (suc c.requires.short.0) c.requires.short.1.children) (parent_node (work g.C.Cells c.args.cells.now) c.args.at c.requires.short.0 c.args.place c.requires.short.1 c.requires.short.2) c.node_at-parent.result c.node_at-parent.ensures) (c.children_of-children.ensures ∙ node_children (reading (work g.C.Cells c.args.cells.now)) c.args.at c.requires.short.1.keys (roots (suc c.requires.short.0) c.requires.short.1.children) (parent_node (work g.C.Cells c.args.cells.now) c.args.at c.requires.short.0 c.args.place c.requires.short.1 c.requires.short.2) c.node_at-parent.result c.node_at-parent.ensures) (record { number = 0 }))) ∙ c.if-has_enough.false) some (record { number = 0 }))) ∙ c.if-can_spare-2.false)

pub returns-clause-mended : goal.returns-clause-mended
returns-clause-mended g c =
    let some : 0 < c.args.place = (let far = c.if-place-eq0.false in omega arith) in λ h t s. left_merged (work g.C.Cells c.args.cells.now) c.args.at h c.args.place t s c.keys_of-versions.result.now c.children_of-children.result.now (c.keys_of-versions.ensures ∙ node_keys (reading (work g.C.Cells c.args.cells.now)) c.args.at t.keys (roots (suc h) t.children) (parent_node (work g.C.Cells c.args.cells.now) c.args.at h c.args.place t s) c.node_at-parent.result c.node_at-parent.ensures) (c.children_of-children.ensures ∙ node_children (reading (work g.C.Cells c.args.cells.now)) c.args.at t.keys (roots (suc h) t.children) (parent_node (work g.C.Cells c.args.cells.now) c.args.at h c.args.place t s) c.node_at-parent.result c.node_at-parent.ensures) (sym (c.has_enough.ensures s.short.keys (roots h s.short.children) (short_node (work g.C.Cells c.args.cells.now) c.args.at h c.args.place t s c.keys_of-versions.result.now c.children_of-children.result.now (c.keys_of-versions.ensures ∙ node_keys (reading (work g.C.Cells c.args.cells.now)) c.args.at t.keys (roots (suc h) t.children) (parent_node (work g.C.Cells c.args.cells.now) c.args.at h c.args.place t s) c.node_at-parent.result c.node_at-parent.ensures) (c.children_of-children.ensures ∙ node_children (reading (work g.C.Cells c.args.cells.now)) c.args.at t.keys (roots (suc h) t.children) (parent_node (work g.C.Cells c.args.cells.now) c.args.at h c.args.place t s) c.node_at-parent.result c.node_at-parent.ensures) (record { number = 0 }))) ∙ c.if-has_enough.false) some (sym (c.can_spare-2.ensures (left_keys (work g.C.Cells c.args.cells.now) c.args.at h c.args.place t s c.keys_of-versions.result.now c.children_of-children.result.now (c.keys_of-versions.ensures ∙ node_keys (reading (work g.C.Cells c.args.cells.now)) c.args.at t.keys (roots (suc h) t.children) (parent_node (work g.C.Cells c.args.cells.now) c.args.at h c.args.place t s) c.node_at-parent.result c.node_at-parent.ensures) (c.children_of-children.ensures ∙ node_children (reading (work g.C.Cells c.args.cells.now)) c.args.at t.keys (roots (suc h) t.children) (parent_node (work g.C.Cells c.args.cells.now) c.args.at h c.args.place t s) c.node_at-parent.result c.node_at-parent.ensures) (sym (c.has_enough.ensures s.short.keys (roots h s.short.children) (short_node (work g.C.Cells c.args.cells.now) c.args.at h c.args.place t s c.keys_of-versions.result.now c.children_of-children.result.now (c.keys_of-versions.ensures ∙ node_keys (reading (work g.C.Cells c.args.cells.now)) c.args.at t.keys (roots (suc h) t.children) (parent_node (work g.C.Cells c.args.cells.now) c.args.at h c.args.place t s) c.node_at-parent.result c.node_at-parent.ensures) (c.children_of-children.ensures ∙ node_children (reading (work g.C.Cells c.args.cells.now)) c.args.at t.keys (roots (suc h) t.children) (parent_node (work g.C.Cells c.args.cells.now) c.args.at h c.args.place t s) c.node_at-parent.result c.node_at-parent.ensures) (record { number = 0 }))) ∙ c.if-has_enough.false) some) (left_children (work g.C.Cells c.args.cells.now) c.args.at h c.args.place t s c.keys_of-versions.result.now c.children_of-children.result.now (c.keys_of-versions.ensures ∙ node_keys (reading (work g.C.Cells c.args.cells.now)) c.args.at t.keys (roots (suc h) t.children) (parent_node (work g.C.Cells c.args.cells.now) c.args.at h c.args.place t s) c.node_at-parent.result c.node_at-parent.ensures) (c.children_of-children.ensures ∙ node_children (reading (work g.C.Cells c.args.cells.now)) c.args.at t.keys (roots (suc h) t.children) (parent_node (work g.C.Cells c.args.cells.now) c.args.at h c.args.place t s) c.node_at-parent.result c.node_at-parent.ensures) (sym (c.has_enough.ensures s.short.keys (roots h s.short.children) (short_node (work g.C.Cells c.args.cells.now) c.args.at h c.args.place t s c.keys_of-versions.result.now c.children_of-children.result.now (c.keys_of-versions.ensures ∙ node_keys (reading (work g.C.Cells c.args.cells.now)) c.args.at t.keys (roots (suc h) t.children) (parent_node (work g.C.Cells c.args.cells.now) c.args.at h c.args.place t s) c.node_at-parent.result c.node_at-parent.ensures) (c.children_of-children.ensures ∙ node_children (reading (work g.C.Cells c.args.cells.now)) c.args.at t.keys (roots (suc h) t.children) (parent_node (work g.C.Cells c.args.cells.now) c.args.at h c.args.place t s) c.node_at-parent.result c.node_at-parent.ensures) (record { number = 0 }))) ∙ c.if-has_enough.false) some) (left_node (work g.C.Cells c.args.cells.now) c.args.at h c.args.place t s c.keys_of-versions.result.now c.children_of-children.result.now (c.keys_of-versions.ensures ∙ node_keys (reading (work g.C.Cells c.args.cells.now)) c.args.at t.keys (roots (suc h) t.children) (parent_node (work g.C.Cells c.args.cells.now) c.args.at h c.args.place t s) c.node_at-parent.result c.node_at-parent.ensures) (c.children_of-children.ensures ∙ node_children (reading (work g.C.Cells c.args.cells.now)) c.args.at t.keys (roots (suc h) t.children) (parent_node (work g.C.Cells c.args.cells.now) c.args.at h c.args.place t s) c.node_at-parent.result c.node_at-parent.ensures) (sym (c.has_enough.ensures s.short.keys (roots h s.short.children) (short_node (work g.C.Cells c.args.cells.now) c.args.at h c.args.place t s c.keys_of-versions.result.now c.children_of-children.result.now (c.keys_of-versions.ensures ∙ node_keys (reading (work g.C.Cells c.args.cells.now)) c.args.at t.keys (roots (suc h) t.children) (parent_node (work g.C.Cells c.args.cells.now) c.args.at h c.args.place t s) c.node_at-parent.result c.node_at-parent.ensures) (c.children_of-children.ensures ∙ node_children (reading (work g.C.Cells c.args.cells.now)) c.args.at t.keys (roots (suc h) t.children) (parent_node (work g.C.Cells c.args.cells.now) c.args.at h c.args.place t s) c.node_at-parent.result c.node_at-parent.ensures) (record { number = 0 }))) ∙ c.if-has_enough.false) some (record { number = 0 }))) ∙ c.if-can_spare-2.false) (work g.C.Cells c.merge-2.new.cells) c.merge-2.ensures.work
