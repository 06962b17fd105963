use Rattle.std.proofs.Common.{◌++◌, List, sym, ap, subst, ◌∙◌}
use Rattle.std.proofs.lemmas.List.Sorted.{IsPermutation-refl}
use Rattle.std.specs.Prelude.{IsPermutation}
use borrow.Author.Tests.{eqb-true, eqb-false}
use Rattle.rdb_pages.specs.declared.cell.CellRef.{CellRef}
use Rattle.rdb_cells.specs.HeadFormat.{index_head_cell, rooted_head}
use Rattle.rdb_tree.specs.Trees.{root_of, versions}
use Rattle.rdb_tree.proofs.HeadLemmas.{root_read}
use Rattle.rdb_tree.proofs.NodeLemmas.{cell_there}
use Rattle.rdb_tree.proofs.WholeLemmas.{tree_at, no_tree}
use Rattle.rdb_tree.proofs.tree.TreeIndex.refs.Goals as goal

pub read-requires : goal.read-requires
read-requires g c = cell_there (g.C.Cells.image c.args.cells.now) c.args.self.now.head.number (index_head_cell (rooted_head (root_of c.requires.3.tree))) c.requires.3.leads

pub returns-then-eq : goal.returns-then-eq
returns-then-eq g c = λ said listed nodes is.
    subst (λ (rs : List CellRef). IsPermutation c.new-refs.result rs) (c.new-refs.ensures ∙ sym (no_tree c.args.self.now.head.number said (g.C.Cells.image c.args.cells.now) listed nodes is c.root_in-root.result (root_read (g.C.Cells.image c.args.cells.now) c.args.self.now.head.number (root_of is.tree) c.root_in-root.result c.read.result.now is.leads c.read.ensures c.root_in-root.ensures) (eqb-true c.root_in-root.result.number 0 (sym c.eq.ensures ∙ c.if-eq.true)))) (IsPermutation-refl c.new-refs.result)

pub gather_versions-requires : goal.gather_versions-requires
gather_versions-requires g c =
    let whole = tree_at c.args.self.now.head.number c.requires.0 (g.C.Cells.image c.args.cells.now) c.requires.1 c.requires.2 c.requires.3 c.root_in-root.result (root_read (g.C.Cells.image c.args.cells.now) c.args.self.now.head.number (root_of c.requires.3.tree) c.root_in-root.result c.read.result.now c.requires.3.leads c.read.ensures c.root_in-root.ensures) (eqb-false c.root_in-root.result.number 0 (sym c.eq.ensures ∙ c.if-eq.false)) in
    (whole.h, whole.t, whole.is)

pub returns : goal.returns
returns g c = λ said listed nodes is.
    let whole = tree_at c.args.self.now.head.number said (g.C.Cells.image c.args.cells.now) listed nodes is c.root_in-root.result (root_read (g.C.Cells.image c.args.cells.now) c.args.self.now.head.number (root_of is.tree) c.root_in-root.result c.read.result.now is.leads c.read.ensures c.root_in-root.ensures) (eqb-false c.root_in-root.result.number 0 (sym c.eq.ensures ∙ c.if-eq.false)) in
    let same = c.in_ok-gather_versions.ensures whole.h whole.t whole.is
    ∙ ap (λ (rs : List CellRef). rs ++ versions whole.h whole.t) c.new-refs.ensures
    ∙ sym whole.listed_is in
    subst (λ (rs : List CellRef). IsPermutation c.gather_versions.new.refs rs) same (IsPermutation-refl c.gather_versions.new.refs)
