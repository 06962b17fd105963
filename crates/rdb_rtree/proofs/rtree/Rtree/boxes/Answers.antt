use Rattle.std.proofs.Common.{◌++◌, List, suc, refl, sym, ap, ◌∙◌}
use borrow.Author.Tests.{eqb-true, eqb-false}
use Rattle.rdb_pages.specs.declared.cell.CellRef.{CellRef}
use Rattle.rdb_cells.specs.HeadFormat.{index_head_cell, rooted_head}
use Rattle.rdb_cells.specs.Keys.{says}
use Rattle.rdb_rtree.specs.Lookups.{found_in}
use Rattle.rdb_rtree.specs.Trees.{root_of, versions}
use Rattle.rdb_rtree.proofs.NodeLemmas.{cell_there}
use Rattle.rdb_rtree.proofs.WholeLemmas.{root_read, tree_at, no_tree, whole_keyed}
use Rattle.rdb_rtree.proofs.rtree.Rtree.boxes.Goals as goal

pub read-requires : goal.read-requires
read-requires g c = cell_there (g.C.Cells.image c.args.cells.now) c.args.self.now.head.number (index_head_cell (rooted_head (root_of c.requires.2.tree))) c.requires.2.leads

pub returns-then-eq : goal.returns-then-eq
returns-then-eq g c = λ listed nodes is.
    c.new-refs.ensures ∙ ap (found_in (says (g.K.Keys.meaning c.args.keys.now) (g.C.Cells.image c.args.cells.now)) c.args.rect.now c.args.inside) (sym (no_tree c.args.self.now.head.number (says (g.K.Keys.meaning c.args.keys.now) (g.C.Cells.image c.args.cells.now)) (g.C.Cells.image c.args.cells.now) listed nodes is c.root_in-root.result (root_read (g.C.Cells.image c.args.cells.now) c.args.self.now.head.number (root_of is.tree) c.root_in-root.result c.read.result.now is.leads c.read.ensures c.root_in-root.ensures) (eqb-true c.root_in-root.result.number 0 (sym c.eq.ensures ∙ c.if-eq.true))))

pub gather_boxes-requires : goal.gather_boxes-requires
gather_boxes-requires g c =
    let said = says (g.K.Keys.meaning c.args.keys.now) (g.C.Cells.image c.args.cells.now) in
    let whole = tree_at c.args.self.now.head.number (says (g.K.Keys.meaning c.args.keys.now) (g.C.Cells.image c.args.cells.now)) (g.C.Cells.image c.args.cells.now) c.requires.0 c.requires.1 c.requires.2 c.root_in-root.result (root_read (g.C.Cells.image c.args.cells.now) c.args.self.now.head.number (root_of c.requires.2.tree) c.root_in-root.result c.read.result.now c.requires.2.leads c.read.ensures c.root_in-root.ensures) (eqb-false c.root_in-root.result.number 0 (sym c.eq.ensures ∙ c.if-eq.false)) in
    (says (g.K.Keys.meaning c.args.keys.now) (g.C.Cells.image c.args.cells.now), whole.h, whole.t, whole_keyed (says (g.K.Keys.meaning c.args.keys.now) (g.C.Cells.image c.args.cells.now)) (g.C.Cells.image c.args.cells.now) c.requires.0 c.root_in-root.result whole c.node_at-level.result c.node_at-level.ensures (g.K.Keys.meaning c.args.keys.now) (λ n. refl))

pub returns : goal.returns
returns g c = λ listed nodes is.
    let whole = tree_at c.args.self.now.head.number (says (g.K.Keys.meaning c.args.keys.now) (g.C.Cells.image c.args.cells.now)) (g.C.Cells.image c.args.cells.now) listed nodes is c.root_in-root.result (root_read (g.C.Cells.image c.args.cells.now) c.args.self.now.head.number (root_of is.tree) c.root_in-root.result c.read.result.now is.leads c.read.ensures c.root_in-root.ensures) (eqb-false c.root_in-root.result.number 0 (sym c.eq.ensures ∙ c.if-eq.false)) in
    c.in_ok-gather_boxes.ensures (says (g.K.Keys.meaning c.args.keys.now) (g.C.Cells.image c.args.cells.now)) whole.h whole.t (whole_keyed (says (g.K.Keys.meaning c.args.keys.now) (g.C.Cells.image c.args.cells.now)) (g.C.Cells.image c.args.cells.now) listed c.root_in-root.result whole c.node_at-level.result c.node_at-level.ensures (g.K.Keys.meaning c.args.keys.now) (λ n. refl))
    ∙ ap (λ (rs : List CellRef). rs ++ found_in (says (g.K.Keys.meaning c.args.keys.now) (g.C.Cells.image c.args.cells.now)) c.args.rect.now c.args.inside (versions (suc whole.h) whole.t)) c.new-refs.ensures
    ∙ ap (found_in (says (g.K.Keys.meaning c.args.keys.now) (g.C.Cells.image c.args.cells.now)) c.args.rect.now c.args.inside) (sym whole.listed_is)
