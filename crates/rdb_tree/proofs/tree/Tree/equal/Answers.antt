use Rattle.std.proofs.Common.{◌++◌, List, sym, ap, ◌∙◌}
use Rattle.std.specs.List.{filter}
use borrow.Author.Tests.{eqb-true, eqb-false}
use Rattle.rdb_pages.specs.declared.cell.CellRef.{CellRef}
use Rattle.rdb_cells.specs.HeadFormat.{index_head_cell, rooted_head}
use Rattle.rdb_cells.specs.Keys.{says}
use Rattle.rdb_tree.specs.Lookups.{has_key}
use Rattle.rdb_tree.specs.Trees.{root_of, versions}
use Rattle.rdb_tree.proofs.HeadLemmas.{root_read}
use Rattle.rdb_tree.proofs.NodeLemmas.{cell_there}
use Rattle.rdb_tree.proofs.WholeLemmas.{tree_at, no_tree}
use Rattle.rdb_tree.proofs.tree.Tree.equal.Goals as goal

pub read-requires : goal.read-requires
read-requires g c = cell_there (g.C.Cells.image c.args.cells.now) c.args.self.now.head.number (index_head_cell (rooted_head (root_of c.requires.standing.2.tree))) c.requires.standing.2.leads

pub returns-then-eq : goal.returns-then-eq
returns-then-eq g c = λ listed nodes is.
    c.new-refs.ensures ∙ ap (filter (has_key (says (g.K.Keys.meaning c.args.keys.now) (g.C.Cells.image c.args.cells.now)) c.args.key.now)) (sym (no_tree c.args.self.now.head.number (says (g.K.Keys.meaning c.args.keys.now) (g.C.Cells.image c.args.cells.now)) (g.C.Cells.image c.args.cells.now) listed nodes is c.root_in-root.result (root_read (g.C.Cells.image c.args.cells.now) c.args.self.now.head.number (root_of is.tree) c.root_in-root.result c.read.result.now is.leads c.read.ensures c.root_in-root.ensures) (eqb-true c.root_in-root.result.number 0 (sym c.eq.ensures ∙ c.if-eq.true))))

pub gather_equal-requires-clause-tree : goal.gather_equal-requires-clause-tree
gather_equal-requires-clause-tree g c =
    let whole = tree_at c.args.self.now.head.number (says (g.K.Keys.meaning c.args.keys.now) (g.C.Cells.image c.args.cells.now)) (g.C.Cells.image c.args.cells.now) c.requires.standing.0 c.requires.standing.1 c.requires.standing.2 c.root_in-root.result (root_read (g.C.Cells.image c.args.cells.now) c.args.self.now.head.number (root_of c.requires.standing.2.tree) c.root_in-root.result c.read.result.now c.requires.standing.2.leads c.read.ensures c.root_in-root.ensures) (eqb-false c.root_in-root.result.number 0 (sym c.eq.ensures ∙ c.if-eq.false)) in
    (whole.h, whole.t, whole.is, whole.keyed)

pub returns : goal.returns
returns g c = λ listed nodes is.
    let whole = tree_at c.args.self.now.head.number (says (g.K.Keys.meaning c.args.keys.now) (g.C.Cells.image c.args.cells.now)) (g.C.Cells.image c.args.cells.now) listed nodes is c.root_in-root.result (root_read (g.C.Cells.image c.args.cells.now) c.args.self.now.head.number (root_of is.tree) c.root_in-root.result c.read.result.now is.leads c.read.ensures c.root_in-root.ensures) (eqb-false c.root_in-root.result.number 0 (sym c.eq.ensures ∙ c.if-eq.false)) in
    c.in_ok-gather_equal.ensures whole.h whole.t whole.is whole.keyed
    ∙ ap (λ (rs : List CellRef). rs ++ filter (has_key (says (g.K.Keys.meaning c.args.keys.now) (g.C.Cells.image c.args.cells.now)) c.args.key.now) (versions whole.h whole.t)) c.new-refs.ensures
    ∙ ap (filter (has_key (says (g.K.Keys.meaning c.args.keys.now) (g.C.Cells.image c.args.cells.now)) c.args.key.now)) (sym whole.listed_is)
