use Rattle.std.proofs.Common.{◌≡◌, ◌+◌, ◌++◌, ◌∷◌, ℕ, List, length, length-append, suc, ap, ap₂, ◌∙◌, arith}
use Rattle.rdb_pages.specs.Pages.{zero_cell}
use Rattle.rdb_pages.specs.declared.cell.CellRef.{CellRef}
use Rattle.rdb_cells.specs.Work.{Work, work, reading}
use Rattle.rdb_tree.specs.Changes.{with_cell, cell_of, without}
use Rattle.rdb_tree.proofs.ChangeLemmas.{key_below, child_below, length_without, all_children, left_keys_read, left_children_read, right_keys_read, right_children_read}
use Rattle.rdb_tree.proofs.remove.merge.Goals as goal

pub put_node-requires-clause-versions : goal.put_node-requires-clause-versions
put_node-requires-clause-versions g c =
    let lk = c.keys_of.ensures ∙ left_keys_read (reading (work g.C.Cells c.args.cells.now)) c.args.versions.now c.args.children.now c.args.place c.requires.siblings.0 c.pair_at-pair.result.left c.pair_at-pair.result.right (c.pair_at-pair.ensures.left c.requires.siblings.0) in
    let rk = c.keys_of-2.ensures ∙ right_keys_read (reading (work g.C.Cells c.args.cells.now)) c.args.versions.now c.args.children.now c.args.place c.requires.siblings.0 c.pair_at-pair.result.left c.pair_at-pair.result.right (c.pair_at-pair.ensures.right c.requires.siblings.0) in
    let lc = c.children_of.ensures ∙ left_children_read (reading (work g.C.Cells c.args.cells.now)) c.args.versions.now c.args.children.now c.args.place c.requires.siblings.0 c.pair_at-pair.result.left c.pair_at-pair.result.right (c.pair_at-pair.ensures.left c.requires.siblings.0) in
    let rc = c.children_of-2.ensures ∙ right_children_read (reading (work g.C.Cells c.args.cells.now)) c.args.versions.now c.args.children.now c.args.place c.requires.siblings.0 c.pair_at-pair.result.left c.pair_at-pair.result.right (c.pair_at-pair.ensures.right c.requires.siblings.0) in
    let ends = c.pair_at-pair.ensures.ends c.requires.siblings.0 in
    let own : c.as_slice.result.now ≡ c.requires.siblings.0.left_keys ++ c.requires.siblings.0.between ∷ c.requires.siblings.0.right_keys = c.as_slice.ensures ∙ c.joined-own.ensures ∙ (λ i. lk i ++ ends.0 i ∷ rk i) in
    let own_children : c.as_slice-2.result.now ≡ c.requires.siblings.0.left_children ++ c.requires.siblings.0.right_children = c.as_slice-2.ensures ∙ c.joined-own_children.ensures ∙ ap₂ (λ (xs ys : List CellRef). xs ++ ys) lc rc in
    let same = ap (length {A = CellRef}) own in
    let both = length-append c.requires.siblings.0.left_keys (c.requires.siblings.0.between ∷ c.requires.siblings.0.right_keys) in
    let few = c.requires.siblings.1 in
    omega arith

pub put_node-requires-clause-children : goal.put_node-requires-clause-children
put_node-requires-clause-children g c =
    let lk = c.keys_of.ensures ∙ left_keys_read (reading (work g.C.Cells c.args.cells.now)) c.args.versions.now c.args.children.now c.args.place c.requires.siblings.0 c.pair_at-pair.result.left c.pair_at-pair.result.right (c.pair_at-pair.ensures.left c.requires.siblings.0) in
    let rk = c.keys_of-2.ensures ∙ right_keys_read (reading (work g.C.Cells c.args.cells.now)) c.args.versions.now c.args.children.now c.args.place c.requires.siblings.0 c.pair_at-pair.result.left c.pair_at-pair.result.right (c.pair_at-pair.ensures.right c.requires.siblings.0) in
    let lc = c.children_of.ensures ∙ left_children_read (reading (work g.C.Cells c.args.cells.now)) c.args.versions.now c.args.children.now c.args.place c.requires.siblings.0 c.pair_at-pair.result.left c.pair_at-pair.result.right (c.pair_at-pair.ensures.left c.requires.siblings.0) in
    let rc = c.children_of-2.ensures ∙ right_children_read (reading (work g.C.Cells c.args.cells.now)) c.args.versions.now c.args.children.now c.args.place c.requires.siblings.0 c.pair_at-pair.result.left c.pair_at-pair.result.right (c.pair_at-pair.ensures.right c.requires.siblings.0) in
    let ends = c.pair_at-pair.ensures.ends c.requires.siblings.0 in
    let own : c.as_slice.result.now ≡ c.requires.siblings.0.left_keys ++ c.requires.siblings.0.between ∷ c.requires.siblings.0.right_keys = c.as_slice.ensures ∙ c.joined-own.ensures ∙ (λ i. lk i ++ ends.0 i ∷ rk i) in
    let own_children : c.as_slice-2.result.now ≡ c.requires.siblings.0.left_children ++ c.requires.siblings.0.right_children = c.as_slice-2.ensures ∙ c.joined-own_children.ensures ∙ ap₂ (λ (xs ys : List CellRef). xs ++ ys) lc rc in
    let same = ap (length {A = CellRef}) own_children in
    let few = all_children (reading (work g.C.Cells c.args.cells.now)) c.args.versions.now c.args.children.now c.args.place c.requires.siblings.0 c.requires.siblings.1 in
    omega arith

pub put_node-requires-2-clause-versions : goal.put_node-requires-2-clause-versions
put_node-requires-2-clause-versions g c =
    let same = ap (length {A = CellRef}) (c.as_slice-3.ensures ∙ c.without_one-rest.ensures) in
    let many = length_without c.args.place c.args.versions.now (key_below (reading (work g.C.Cells c.args.cells.now)) c.args.versions.now c.args.children.now c.args.place c.requires.siblings.0) in
    let few = c.requires.versions in
    omega arith

pub put_node-requires-2-clause-children : goal.put_node-requires-2-clause-children
put_node-requires-2-clause-children g c =
    let same = ap (length {A = CellRef}) (c.as_slice-4.ensures ∙ c.without_one-rest_children.ensures) in
    let many = length_without (c.args.place + 1) c.args.children.now (child_below (reading (work g.C.Cells c.args.cells.now)) c.args.versions.now c.args.children.now c.args.place c.requires.siblings.0) in
    let few = c.requires.children in
    omega arith

pub returns-clause-work : goal.returns-clause-work
returns-clause-work g c = λ s.
    let lk = c.keys_of.ensures ∙ left_keys_read (reading (work g.C.Cells c.args.cells.now)) c.args.versions.now c.args.children.now c.args.place s c.pair_at-pair.result.left c.pair_at-pair.result.right (c.pair_at-pair.ensures.left s) in
    let rk = c.keys_of-2.ensures ∙ right_keys_read (reading (work g.C.Cells c.args.cells.now)) c.args.versions.now c.args.children.now c.args.place s c.pair_at-pair.result.left c.pair_at-pair.result.right (c.pair_at-pair.ensures.right s) in
    let lc = c.children_of.ensures ∙ left_children_read (reading (work g.C.Cells c.args.cells.now)) c.args.versions.now c.args.children.now c.args.place s c.pair_at-pair.result.left c.pair_at-pair.result.right (c.pair_at-pair.ensures.left s) in
    let rc = c.children_of-2.ensures ∙ right_children_read (reading (work g.C.Cells c.args.cells.now)) c.args.versions.now c.args.children.now c.args.place s c.pair_at-pair.result.left c.pair_at-pair.result.right (c.pair_at-pair.ensures.right s) in
    let ends = c.pair_at-pair.ensures.ends s in
    let own : c.as_slice.result.now ≡ s.left_keys ++ s.between ∷ s.right_keys = c.as_slice.ensures ∙ c.joined-own.ensures ∙ (λ i. lk i ++ ends.0 i ∷ rk i) in
    let own_children : c.as_slice-2.result.now ≡ s.left_children ++ s.right_children = c.as_slice-2.ensures ∙ c.joined-own_children.ensures ∙ ap₂ (λ (xs ys : List CellRef). xs ++ ys) lc rc in
    let place : c.args.place + 1 ≡ suc c.args.place = omega arith in
    let rest : c.as_slice-3.result.now ≡ without c.args.place c.args.versions.now = c.as_slice-3.ensures ∙ c.without_one-rest.ensures in
    let rest_children : c.as_slice-4.result.now ≡ without (suc c.args.place) c.args.children.now = c.as_slice-4.ensures ∙ c.without_one-rest_children.ensures ∙ ap (λ (n : ℕ). without n c.args.children.now) place in
    c.put_node-2.ensures.work
    ∙ ap (λ (v : Work). with_cell v c.args.at (cell_of c.as_slice-3.result.now c.as_slice-4.result.now))
    (c.put_cell.ensures.work ∙ ap (λ (v : Work). with_cell v c.pair_at-pair.result.right_at zero_cell) c.put_node.ensures.work)
    ∙ (λ i. with_cell (with_cell (with_cell (work g.C.Cells c.args.cells.now) (ends.1 i) (cell_of (own i) (own_children i))) (ends.2 i) zero_cell) c.args.at (cell_of (rest i) (rest_children i)))
