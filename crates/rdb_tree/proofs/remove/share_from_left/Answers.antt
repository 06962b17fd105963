use Rattle.std.proofs.Common.{◌≡◌, ◌-◌, ◌++◌, ◌∷◌, List, length, take, drop, get_or, ap, ap₂, ◌∙◌, arith}
use Rattle.rdb_pages.specs.declared.cell.CellRef.{CellRef}
use Rattle.rdb_cells.specs.Work.{Work, work, reading}
use Rattle.rdb_cells.specs.Words.{no_ref}
use Rattle.rdb_tree.specs.Changes.{with_cell, cell_of, replaced_at}
use Rattle.rdb_tree.proofs.ChangeLemmas.{key_below, first_dropped, length_replaced, left_moved, left_keys_read, left_children_read, right_keys_read, right_children_read}
use Rattle.rdb_tree.proofs.remove.share_from_left.Goals as goal

pub put_node-requires-2-clause-children : goal.put_node-requires-2-clause-children
put_node-requires-2-clause-children g c =
    let lk = c.keys_of-left.ensures ∙ left_keys_read (reading (work g.C.Cells c.args.cells.now)) c.args.versions.now c.args.children.now c.args.place c.requires.siblings.0 c.pair_at-pair.result.left c.pair_at-pair.result.right (c.pair_at-pair.ensures.left c.requires.siblings.0) in
    let lc = c.children_of-below.ensures ∙ left_children_read (reading (work g.C.Cells c.args.cells.now)) c.args.versions.now c.args.children.now c.args.place c.requires.siblings.0 c.pair_at-pair.result.left c.pair_at-pair.result.right (c.pair_at-pair.ensures.left c.requires.siblings.0) in
    let rk = c.keys_of.ensures ∙ right_keys_read (reading (work g.C.Cells c.args.cells.now)) c.args.versions.now c.args.children.now c.args.place c.requires.siblings.0 c.pair_at-pair.result.left c.pair_at-pair.result.right (c.pair_at-pair.ensures.right c.requires.siblings.0) in
    let rc = c.children_of.ensures ∙ right_children_read (reading (work g.C.Cells c.args.cells.now)) c.args.versions.now c.args.children.now c.args.place c.requires.siblings.0 c.pair_at-pair.result.left c.pair_at-pair.result.right (c.pair_at-pair.ensures.right c.requires.siblings.0) in
    let last : c.saturating_sub.result ≡ length c.requires.siblings.0.left_children - 1 = c.saturating_sub.ensures ∙ ap (λ (cs : List CellRef). length cs - 1) lc in
    let moved_children : c.split_at-2.result.1.now ≡ drop (length c.requires.siblings.0.left_children - 1) c.requires.siblings.0.left_children = c.split_at-2.ensures.back ∙ ap₂ drop last lc in
    let own_children : c.as_slice-2.result.now ≡ drop (length c.requires.siblings.0.left_children - 1) c.requires.siblings.0.left_children ++ c.requires.siblings.0.right_children = c.as_slice-2.ensures ∙ c.joined-own_children.ensures ∙ ap₂ (λ (xs ys : List CellRef). xs ++ ys) moved_children rc in
    let few = left_moved (reading (work g.C.Cells c.args.cells.now)) c.args.versions.now c.args.children.now c.args.place c.requires.siblings.0 c.requires.siblings.2 in
    let same = ap (length {A = CellRef}) own_children in
    omega arith

pub put_node-requires-3-clause-versions : goal.put_node-requires-3-clause-versions
put_node-requires-3-clause-versions g c =
    let same = ap (length {A = CellRef}) (c.as_slice-3.ensures ∙ c.with_other-between.ensures) in
    let many = length_replaced c.args.place (get_or c.split_at.result.1.now 0 no_ref) c.args.versions.now (key_below (reading (work g.C.Cells c.args.cells.now)) c.args.versions.now c.args.children.now c.args.place c.requires.siblings.0) in
    let few = c.requires.versions in
    omega arith

pub returns-clause-work : goal.returns-clause-work
returns-clause-work g c = λ s.
    let lk = c.keys_of-left.ensures ∙ left_keys_read (reading (work g.C.Cells c.args.cells.now)) c.args.versions.now c.args.children.now c.args.place s c.pair_at-pair.result.left c.pair_at-pair.result.right (c.pair_at-pair.ensures.left s) in
    let lc = c.children_of-below.ensures ∙ left_children_read (reading (work g.C.Cells c.args.cells.now)) c.args.versions.now c.args.children.now c.args.place s c.pair_at-pair.result.left c.pair_at-pair.result.right (c.pair_at-pair.ensures.left s) in
    let rk = c.keys_of.ensures ∙ right_keys_read (reading (work g.C.Cells c.args.cells.now)) c.args.versions.now c.args.children.now c.args.place s c.pair_at-pair.result.left c.pair_at-pair.result.right (c.pair_at-pair.ensures.right s) in
    let rc = c.children_of.ensures ∙ right_children_read (reading (work g.C.Cells c.args.cells.now)) c.args.versions.now c.args.children.now c.args.place s c.pair_at-pair.result.left c.pair_at-pair.result.right (c.pair_at-pair.ensures.right s) in
    let last : c.saturating_sub.result ≡ length s.left_children - 1 = c.saturating_sub.ensures ∙ ap (λ (cs : List CellRef). length cs - 1) lc in
    let moved_children : c.split_at-2.result.1.now ≡ drop (length s.left_children - 1) s.left_children = c.split_at-2.ensures.back ∙ ap₂ drop last lc in
    let own_children : c.as_slice-2.result.now ≡ drop (length s.left_children - 1) s.left_children ++ s.right_children = c.as_slice-2.ensures ∙ c.joined-own_children.ensures ∙ ap₂ (λ (xs ys : List CellRef). xs ++ ys) moved_children rc in
    let ends = c.pair_at-pair.ensures.ends s in
    let kept : c.split_at.result.0.now ≡ take (length s.left_keys - 1) s.left_keys = c.split_at.ensures.front ∙ ap (λ (ks : List CellRef). take (length ks - 1) ks) lk in
    let kept_children : c.split_at-2.result.0.now ≡ take (length s.left_children - 1) s.left_children = c.split_at-2.ensures.front ∙ ap₂ take last lc in
    let own : c.as_slice.result.now ≡ s.between ∷ s.right_keys = c.as_slice.ensures ∙ c.with_one-own.ensures ∙ ap₂ (λ (b : CellRef) (ks : List CellRef). b ∷ ks) ends.0 rk in
    let moved : get_or c.split_at.result.1.now 0 no_ref ≡ get_or s.left_keys (length s.left_keys - 1) no_ref =
    ap (λ (ks : List CellRef). get_or ks 0 no_ref) (c.split_at.ensures.back ∙ ap (λ (ks : List CellRef). drop (length ks - 1) ks) lk) ∙ first_dropped (length s.left_keys - 1) s.left_keys no_ref in
    let parent : c.as_slice-3.result.now ≡ replaced_at c.args.place (get_or s.left_keys (length s.left_keys - 1) no_ref) c.args.versions.now = c.as_slice-3.ensures ∙ c.with_other-between.ensures ∙ ap (λ (k : CellRef). replaced_at c.args.place k c.args.versions.now) moved in
    c.put_node-3.ensures.work
    ∙ ap (λ (v : Work). with_cell v c.args.at (cell_of c.as_slice-3.result.now c.args.children.now))
    (c.put_node-2.ensures.work ∙ ap (λ (v : Work). with_cell v c.pair_at-pair.result.right_at (cell_of c.as_slice.result.now c.as_slice-2.result.now)) c.put_node.ensures.work)
    ∙ (λ i. with_cell (with_cell (with_cell (work g.C.Cells c.args.cells.now) (ends.1 i) (cell_of (kept i) (kept_children i))) (ends.2 i) (cell_of (own i) (own_children i))) c.args.at (cell_of (parent i) c.args.children.now))
