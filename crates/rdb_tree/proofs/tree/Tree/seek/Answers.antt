use Rattle.std.proofs.Common.{List, length, sym, ap, subst, ◌∙◌}
use Rattle.rdb_pages.specs.declared.cell.CellRef.{CellRef}
use Rattle.rdb_cells.specs.HeadFormat.{index_head_cell, rooted_head}
use Rattle.rdb_cells.specs.Keys.{says}
use Rattle.rdb_tree.specs.Lookups.{first_past}
use Rattle.rdb_tree.specs.Trees.{AreLevels, levels_of, root_of}
use Rattle.rdb_tree.proofs.HeadLemmas.{root_read}
use Rattle.rdb_tree.proofs.LevelLemmas.{tree_rooted, are_levels}
use Rattle.rdb_tree.proofs.NodeLemmas.{cell_there}
use Rattle.rdb_tree.proofs.tree.Tree.seek.Goals as goal

pub read-requires : goal.read-requires
read-requires g c = cell_there (g.C.Cells.image c.args.cells.now) c.args.self.now.head.number (index_head_cell (rooted_head (root_of c.requires.standing.2.tree))) c.requires.standing.2.leads

pub seek_from-requires-clause-rooted : goal.seek_from-requires-clause-rooted
seek_from-requires-clause-rooted g c = (c.requires.standing.2.tree, tree_rooted c.args.self.now.head.number (says (g.K.Keys.meaning c.args.keys.now) (g.C.Cells.image c.args.cells.now)) (g.C.Cells.image c.args.cells.now) c.requires.standing.0 c.requires.standing.1 c.requires.standing.2 c.root_in-root.result (root_read (g.C.Cells.image c.args.cells.now) c.args.self.now.head.number (root_of c.requires.standing.2.tree) c.root_in-root.result c.read.result.now c.requires.standing.2.leads c.read.ensures c.root_in-root.ensures))

pub returns-clause-first : goal.returns-clause-first
returns-clause-first g c = λ listed nodes is.
    c.seek_from.ensures.first is.tree (tree_rooted c.args.self.now.head.number (says (g.K.Keys.meaning c.args.keys.now) (g.C.Cells.image c.args.cells.now)) (g.C.Cells.image c.args.cells.now) listed nodes is c.root_in-root.result (root_read (g.C.Cells.image c.args.cells.now) c.args.self.now.head.number (root_of is.tree) c.root_in-root.result c.read.result.now is.leads c.read.ensures c.root_in-root.ensures))
    ∙ ap (first_past (says (g.K.Keys.meaning c.args.keys.now) (g.C.Cells.image c.args.cells.now)) c.args.place.now c.args.up) (sym is.listed_is)

pub returns-clause-bound : goal.returns-clause-bound
returns-clause-bound g c = λ listed nodes is. (
  levels_of is.tree,
  subst (λ (rs : List CellRef). AreLevels (levels_of is.tree) (length rs)) (sym is.listed_is) (are_levels is.tree is.shape),
  c.seek_from.ensures.bound is.tree (tree_rooted c.args.self.now.head.number (says (g.K.Keys.meaning c.args.keys.now) (g.C.Cells.image c.args.cells.now)) (g.C.Cells.image c.args.cells.now) listed nodes is c.root_in-root.result (root_read (g.C.Cells.image c.args.cells.now) c.args.self.now.head.number (root_of is.tree) c.root_in-root.result c.read.result.now is.leads c.read.ensures c.root_in-root.ensures)),
)
