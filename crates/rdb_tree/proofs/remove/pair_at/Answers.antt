use Rattle.std.proofs.Common.{sym, ap, subst, ◌∙◌, arith}
use Rattle.rdb_pages.specs.declared.cell.CellRef.{CellRef}
use Rattle.rdb_cells.specs.Images.{IsCell}
use Rattle.rdb_cells.specs.Work.{work, reading}
use Rattle.rdb_tree.proofs.ChangeLemmas.{key_below, child_below, between_is, left_is, right_is, node_cell, node_read, node_few}
use Rattle.rdb_tree.proofs.remove.pair_at.Goals as goal

pub bounds-children-place : goal.bounds-children-place
bounds-children-place g c = let below = child_below (reading (work g.C.Cells c.args.cells.now)) c.args.versions.now c.args.children.now c.args.place c.requires in omega arith

pub offset_bounds-children-place : goal.offset_bounds-children-place
offset_bounds-children-place g c = let below = child_below (reading (work g.C.Cells c.args.cells.now)) c.args.versions.now c.args.children.now c.args.place c.requires in omega arith

pub overflow_add-right_at : goal.overflow_add-right_at
overflow_add-right_at g c = let below = child_below (reading (work g.C.Cells c.args.cells.now)) c.args.versions.now c.args.children.now c.args.place c.requires in omega arith

pub bounds-children-place-2 : goal.bounds-children-place-2
bounds-children-place-2 g c = child_below (reading (work g.C.Cells c.args.cells.now)) c.args.versions.now c.args.children.now c.args.place c.requires

pub offset_bounds-children-place-2 : goal.offset_bounds-children-place-2
offset_bounds-children-place-2 g c = let below = child_below (reading (work g.C.Cells c.args.cells.now)) c.args.versions.now c.args.children.now c.args.place c.requires in omega arith

pub bounds-versions-place : goal.bounds-versions-place
bounds-versions-place g c = key_below (reading (work g.C.Cells c.args.cells.now)) c.args.versions.now c.args.children.now c.args.place c.requires

pub offset_bounds-versions-place : goal.offset_bounds-versions-place
offset_bounds-versions-place g c = let below = key_below (reading (work g.C.Cells c.args.cells.now)) c.args.versions.now c.args.children.now c.args.place c.requires in omega arith

pub node_at-requires : goal.node_at-requires
node_at-requires g c = let none : CellRef = record { number = 0 } in subst (λ (r : CellRef). IsCell (reading (work g.C.Cells c.args.cells.now)) r.number) (sym (left_is (reading (work g.C.Cells c.args.cells.now)) c.args.versions.now c.args.children.now c.args.place c.requires none)) (node_cell (reading (work g.C.Cells c.args.cells.now)) c.requires.left c.requires.left_keys c.requires.left_children c.requires.left_node)

pub node_at-requires-2 : goal.node_at-requires-2
node_at-requires-2 g c = let none : CellRef = record { number = 0 } in subst (λ (r : CellRef). IsCell (reading (work g.C.Cells c.args.cells.now)) r.number) (sym (right_is (reading (work g.C.Cells c.args.cells.now)) c.args.versions.now c.args.children.now c.args.place c.requires none)) (node_cell (reading (work g.C.Cells c.args.cells.now)) c.requires.right c.requires.right_keys c.requires.right_children c.requires.right_node)

pub returns-clause-ends : goal.returns-clause-ends
returns-clause-ends g c = λ s. let none : CellRef = record { number = 0 } in (between_is (reading (work g.C.Cells c.args.cells.now)) c.args.versions.now c.args.children.now c.args.place s none, left_is (reading (work g.C.Cells c.args.cells.now)) c.args.versions.now c.args.children.now c.args.place s none, right_is (reading (work g.C.Cells c.args.cells.now)) c.args.versions.now c.args.children.now c.args.place s none)

pub returns-clause-left : goal.returns-clause-left
returns-clause-left g c = λ s. let none : CellRef = record { number = 0 } in
    node_read (reading (work g.C.Cells c.args.cells.now)) s.left s.left_keys s.left_children s.left_node c.node_at.result (λ n is here. c.node_at.ensures n is (ap (λ (r : CellRef). (reading (work g.C.Cells c.args.cells.now)) r.number) (left_is (reading (work g.C.Cells c.args.cells.now)) c.args.versions.now c.args.children.now c.args.place s none) ∙ here))

pub returns-clause-right : goal.returns-clause-right
returns-clause-right g c = λ s. let none : CellRef = record { number = 0 } in
    node_read (reading (work g.C.Cells c.args.cells.now)) s.right s.right_keys s.right_children s.right_node c.node_at-2.result (λ n is here. c.node_at-2.ensures n is (ap (λ (r : CellRef). (reading (work g.C.Cells c.args.cells.now)) r.number) (right_is (reading (work g.C.Cells c.args.cells.now)) c.args.versions.now c.args.children.now c.args.place s none) ∙ here))

pub returns-clause-few : goal.returns-clause-few
returns-clause-few g c = let none : CellRef = record { number = 0 } in (
  node_few (reading (work g.C.Cells c.args.cells.now)) c.requires.left c.requires.left_keys c.requires.left_children c.requires.left_node c.node_at.result (λ n is here. c.node_at.ensures n is (ap (λ (r : CellRef). (reading (work g.C.Cells c.args.cells.now)) r.number) (left_is (reading (work g.C.Cells c.args.cells.now)) c.args.versions.now c.args.children.now c.args.place c.requires none) ∙ here)),
  node_few (reading (work g.C.Cells c.args.cells.now)) c.requires.right c.requires.right_keys c.requires.right_children c.requires.right_node c.node_at-2.result (λ n is here. c.node_at-2.ensures n is (ap (λ (r : CellRef). (reading (work g.C.Cells c.args.cells.now)) r.number) (right_is (reading (work g.C.Cells c.args.cells.now)) c.args.versions.now c.args.children.now c.args.place c.requires none) ∙ here)),
)

pub returns-clause-cells : goal.returns-clause-cells
returns-clause-cells g c = let none : CellRef = record { number = 0 } in (
  subst (λ (r : CellRef). IsCell (reading (work g.C.Cells c.args.cells.now)) r.number) (sym (left_is (reading (work g.C.Cells c.args.cells.now)) c.args.versions.now c.args.children.now c.args.place c.requires none)) (node_cell (reading (work g.C.Cells c.args.cells.now)) c.requires.left c.requires.left_keys c.requires.left_children c.requires.left_node),
  subst (λ (r : CellRef). IsCell (reading (work g.C.Cells c.args.cells.now)) r.number) (sym (right_is (reading (work g.C.Cells c.args.cells.now)) c.args.versions.now c.args.children.now c.args.place c.requires none)) (node_cell (reading (work g.C.Cells c.args.cells.now)) c.requires.right c.requires.right_keys c.requires.right_children c.requires.right_node),
)

pub returns-clause-place : goal.returns-clause-place
returns-clause-place g c = (key_below (reading (work g.C.Cells c.args.cells.now)) c.args.versions.now c.args.children.now c.args.place c.requires, child_below (reading (work g.C.Cells c.args.cells.now)) c.args.versions.now c.args.children.now c.args.place c.requires)
