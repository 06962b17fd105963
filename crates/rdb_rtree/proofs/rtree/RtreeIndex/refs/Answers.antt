use Rattle.std.proofs.Common.{◌++◌, List, suc, sym, ap, subst, ◌∙◌}
use Rattle.std.proofs.lemmas.List.Sorted.{IsPermutation-refl}
use Rattle.std.specs.Prelude.{IsPermutation}
use borrow.Author.Tests.{eqb-true, eqb-false}
use Rattle.rdb_pages.specs.declared.cell.CellRef.{CellRef}
use Rattle.rdb_rtree.specs.Trees.{root_of, versions}
use Rattle.rdb_rtree.proofs.WholeLemmas.{root_read, tree_at, no_tree, whole_tree}
use Rattle.rdb_rtree.proofs.rtree.RtreeIndex.refs.Goals as goal

pub returns-then-eq : goal.returns-then-eq
returns-then-eq g c = λ said listed nodes is.
    subst (λ (rs : List CellRef). IsPermutation c.new-refs.result rs) (c.new-refs.ensures ∙ sym (no_tree c.args.self.now.head.number said (g.C.Cells.image c.args.cells.now) listed nodes is c.root_in-root.result (root_read (g.C.Cells.image c.args.cells.now) c.args.self.now.head.number (root_of is.tree) c.root_in-root.result c.read.result.now is.leads c.read.ensures c.root_in-root.ensures) (eqb-true c.root_in-root.result.number 0 (sym c.eq.ensures ∙ c.if-eq.true)))) (IsPermutation-refl c.new-refs.result)

pub gather_versions-requires : goal.gather_versions-requires
gather_versions-requires g c =
    let whole = tree_at c.args.self.now.head.number c.requires.0 (g.C.Cells.image c.args.cells.now) c.requires.1 c.requires.2 c.requires.3 c.root_in-root.result (root_read (g.C.Cells.image c.args.cells.now) c.args.self.now.head.number (root_of c.requires.3.tree) c.root_in-root.result c.read.result.now c.requires.3.leads c.read.ensures c.root_in-root.ensures) (eqb-false c.root_in-root.result.number 0 (sym c.eq.ensures ∙ c.if-eq.false)) in
    (whole.h, whole.t, whole_tree c.requires.0 (g.C.Cells.image c.args.cells.now) c.requires.1 c.root_in-root.result whole c.node_at-level.result c.node_at-level.ensures)

pub returns : goal.returns
returns g c = λ said listed nodes is.
    let whole = tree_at c.args.self.now.head.number said (g.C.Cells.image c.args.cells.now) listed nodes is c.root_in-root.result (root_read (g.C.Cells.image c.args.cells.now) c.args.self.now.head.number (root_of is.tree) c.root_in-root.result c.read.result.now is.leads c.read.ensures c.root_in-root.ensures) (eqb-false c.root_in-root.result.number 0 (sym c.eq.ensures ∙ c.if-eq.false)) in
    let same = c.in_ok-gather_versions.ensures whole.h whole.t (whole_tree said (g.C.Cells.image c.args.cells.now) listed c.root_in-root.result whole c.node_at-level.result c.node_at-level.ensures)
    ∙ ap (λ (rs : List CellRef). rs ++ versions (suc whole.h) whole.t) c.new-refs.ensures
    ∙ sym whole.listed_is in
    subst (λ (rs : List CellRef). IsPermutation c.gather_versions.new.refs rs) same (IsPermutation-refl c.gather_versions.new.refs)
