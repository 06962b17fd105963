use Rattle.std.proofs.Common.{◌≡◌, ◌++◌, ◌∷◌, [], List, length, length-append, take, drop, get_or, ap, ap₂, ◌∙◌, arith}
use Rattle.rdb_pages.specs.declared.cell.CellRef.{CellRef}
use Rattle.rdb_cells.specs.Work.{Work, work, reading}
use Rattle.rdb_cells.specs.Words.{no_ref}
use Rattle.rdb_tree.specs.Changes.{with_cell, cell_of, replaced_at}
use Rattle.rdb_tree.proofs.ChangeLemmas.{key_below, length_replaced, right_moved, left_keys_read, left_children_read, right_keys_read, right_children_read}
use Rattle.rdb_tree.proofs.ChangeLemmas.{first_taken, rest_dropped, taken_first}
use Rattle.rdb_tree.proofs.remove.share_from_right.Goals as goal

pub put_node-requires-2-clause-versions : goal.put_node-requires-2-clause-versions
put_node-requires-2-clause-versions g c =
    let rk = c.keys_of-right.ensures ∙ right_keys_read (reading (work g.C.Cells c.args.cells.now)) c.args.versions.now c.args.children.now c.args.place c.requires.siblings.0 c.pair_at-pair.result.left c.pair_at-pair.result.right (c.pair_at-pair.ensures.right c.requires.siblings.0) in
    let rc = c.children_of-below.ensures ∙ right_children_read (reading (work g.C.Cells c.args.cells.now)) c.args.versions.now c.args.children.now c.args.place c.requires.siblings.0 c.pair_at-pair.result.left c.pair_at-pair.result.right (c.pair_at-pair.ensures.right c.requires.siblings.0) in
    let lk = c.keys_of.ensures ∙ left_keys_read (reading (work g.C.Cells c.args.cells.now)) c.args.versions.now c.args.children.now c.args.place c.requires.siblings.0 c.pair_at-pair.result.left c.pair_at-pair.result.right (c.pair_at-pair.ensures.left c.requires.siblings.0) in
    let lc = c.children_of.ensures ∙ left_children_read (reading (work g.C.Cells c.args.cells.now)) c.args.versions.now c.args.children.now c.args.place c.requires.siblings.0 c.pair_at-pair.result.left c.pair_at-pair.result.right (c.pair_at-pair.ensures.left c.requires.siblings.0) in
    let own : c.as_slice.result.now ≡ c.requires.siblings.0.left_keys ++ c.requires.siblings.0.between ∷ [] = c.as_slice.ensures ∙ c.joined-own.ensures ∙ ap₂ (λ (ks : List CellRef) (b : CellRef). ks ++ b ∷ []) lk (c.pair_at-pair.ensures.ends c.requires.siblings.0).0 in
    let moved_children : c.split_at-2.result.0.now ≡ take 1 c.requires.siblings.0.right_children = c.split_at-2.ensures.front ∙ ap₂ take (c.min.ensures) rc ∙ first_taken c.requires.siblings.0.right_children c.children_of-below.result.now rc in
    let own_children : c.as_slice-2.result.now ≡ c.requires.siblings.0.left_children ++ take 1 c.requires.siblings.0.right_children = c.as_slice-2.ensures ∙ c.joined-own_children.ensures ∙ ap₂ (λ (xs ys : List CellRef). xs ++ ys) lc moved_children in
    let same = ap (length {A = CellRef}) own in
    let both = length-append c.requires.siblings.0.left_keys (c.requires.siblings.0.between ∷ []) in
    let few = c.requires.siblings.2 in
    omega arith

pub put_node-requires-2-clause-children : goal.put_node-requires-2-clause-children
put_node-requires-2-clause-children g c =
    let rk = c.keys_of-right.ensures ∙ right_keys_read (reading (work g.C.Cells c.args.cells.now)) c.args.versions.now c.args.children.now c.args.place c.requires.siblings.0 c.pair_at-pair.result.left c.pair_at-pair.result.right (c.pair_at-pair.ensures.right c.requires.siblings.0) in
    let rc = c.children_of-below.ensures ∙ right_children_read (reading (work g.C.Cells c.args.cells.now)) c.args.versions.now c.args.children.now c.args.place c.requires.siblings.0 c.pair_at-pair.result.left c.pair_at-pair.result.right (c.pair_at-pair.ensures.right c.requires.siblings.0) in
    let lk = c.keys_of.ensures ∙ left_keys_read (reading (work g.C.Cells c.args.cells.now)) c.args.versions.now c.args.children.now c.args.place c.requires.siblings.0 c.pair_at-pair.result.left c.pair_at-pair.result.right (c.pair_at-pair.ensures.left c.requires.siblings.0) in
    let lc = c.children_of.ensures ∙ left_children_read (reading (work g.C.Cells c.args.cells.now)) c.args.versions.now c.args.children.now c.args.place c.requires.siblings.0 c.pair_at-pair.result.left c.pair_at-pair.result.right (c.pair_at-pair.ensures.left c.requires.siblings.0) in
    let own : c.as_slice.result.now ≡ c.requires.siblings.0.left_keys ++ c.requires.siblings.0.between ∷ [] = c.as_slice.ensures ∙ c.joined-own.ensures ∙ ap₂ (λ (ks : List CellRef) (b : CellRef). ks ++ b ∷ []) lk (c.pair_at-pair.ensures.ends c.requires.siblings.0).0 in
    let moved_children : c.split_at-2.result.0.now ≡ take 1 c.requires.siblings.0.right_children = c.split_at-2.ensures.front ∙ ap₂ take (c.min.ensures) rc ∙ first_taken c.requires.siblings.0.right_children c.children_of-below.result.now rc in
    let own_children : c.as_slice-2.result.now ≡ c.requires.siblings.0.left_children ++ take 1 c.requires.siblings.0.right_children = c.as_slice-2.ensures ∙ c.joined-own_children.ensures ∙ ap₂ (λ (xs ys : List CellRef). xs ++ ys) lc moved_children in
    let few = right_moved (reading (work g.C.Cells c.args.cells.now)) c.args.versions.now c.args.children.now c.args.place c.requires.siblings.0 c.requires.siblings.2 in
    let same = ap (length {A = CellRef}) own_children in
    omega arith

pub put_node-requires-3-clause-versions : goal.put_node-requires-3-clause-versions
put_node-requires-3-clause-versions g c =
    let same = ap (length {A = CellRef}) (c.as_slice-3.ensures ∙ c.with_other-between.ensures) in
    let many = length_replaced c.args.place (get_or c.split_at.result.0.now 0 no_ref) c.args.versions.now (key_below (reading (work g.C.Cells c.args.cells.now)) c.args.versions.now c.args.children.now c.args.place c.requires.siblings.0) in
    let few = c.requires.versions in
    omega arith

pub returns-clause-work : goal.returns-clause-work
returns-clause-work g c = λ s.
    let rk = c.keys_of-right.ensures ∙ right_keys_read (reading (work g.C.Cells c.args.cells.now)) c.args.versions.now c.args.children.now c.args.place s c.pair_at-pair.result.left c.pair_at-pair.result.right (c.pair_at-pair.ensures.right s) in
    let rc = c.children_of-below.ensures ∙ right_children_read (reading (work g.C.Cells c.args.cells.now)) c.args.versions.now c.args.children.now c.args.place s c.pair_at-pair.result.left c.pair_at-pair.result.right (c.pair_at-pair.ensures.right s) in
    let lk = c.keys_of.ensures ∙ left_keys_read (reading (work g.C.Cells c.args.cells.now)) c.args.versions.now c.args.children.now c.args.place s c.pair_at-pair.result.left c.pair_at-pair.result.right (c.pair_at-pair.ensures.left s) in
    let lc = c.children_of.ensures ∙ left_children_read (reading (work g.C.Cells c.args.cells.now)) c.args.versions.now c.args.children.now c.args.place s c.pair_at-pair.result.left c.pair_at-pair.result.right (c.pair_at-pair.ensures.left s) in
    let own : c.as_slice.result.now ≡ s.left_keys ++ s.between ∷ [] = c.as_slice.ensures ∙ c.joined-own.ensures ∙ ap₂ (λ (ks : List CellRef) (b : CellRef). ks ++ b ∷ []) lk (c.pair_at-pair.ensures.ends s).0 in
    let moved_children : c.split_at-2.result.0.now ≡ take 1 s.right_children = c.split_at-2.ensures.front ∙ ap₂ take (c.min.ensures) rc ∙ first_taken s.right_children c.children_of-below.result.now rc in
    let own_children : c.as_slice-2.result.now ≡ s.left_children ++ take 1 s.right_children = c.as_slice-2.ensures ∙ c.joined-own_children.ensures ∙ ap₂ (λ (xs ys : List CellRef). xs ++ ys) lc moved_children in
    let ends = c.pair_at-pair.ensures.ends s in
    let kept : c.split_at.result.1.now ≡ drop 1 s.right_keys = c.split_at.ensures.back ∙ ap (drop 1) rk in
    let kept_children : c.split_at-2.result.1.now ≡ drop 1 s.right_children = c.split_at-2.ensures.back ∙ ap₂ drop (c.min.ensures) rc ∙ rest_dropped s.right_children c.children_of-below.result.now rc in
    let moved : get_or c.split_at.result.0.now 0 no_ref ≡ get_or s.right_keys 0 no_ref = ap (λ (ks : List CellRef). get_or ks 0 no_ref) (c.split_at.ensures.front ∙ ap (take 1) rk) ∙ taken_first s.right_keys in
    let parent : c.as_slice-3.result.now ≡ replaced_at c.args.place (get_or s.right_keys 0 no_ref) c.args.versions.now = c.as_slice-3.ensures ∙ c.with_other-between.ensures ∙ ap (λ (k : CellRef). replaced_at c.args.place k c.args.versions.now) moved in
    c.put_node-3.ensures.work
    ∙ ap (λ (v : Work). with_cell v c.args.at (cell_of c.as_slice-3.result.now c.args.children.now))
    (c.put_node-2.ensures.work ∙ ap (λ (v : Work). with_cell v c.pair_at-pair.result.left_at (cell_of c.as_slice.result.now c.as_slice-2.result.now)) c.put_node.ensures.work)
    ∙ (λ i. with_cell (with_cell (with_cell (work g.C.Cells c.args.cells.now) (ends.2 i) (cell_of (kept i) (kept_children i))) (ends.1 i) (cell_of (own i) (own_children i))) c.args.at (cell_of (parent i) c.args.children.now))
