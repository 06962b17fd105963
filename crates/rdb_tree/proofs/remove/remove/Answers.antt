use Rattle.rdb_cells.specs.HeadFormat.{index_head_cell, rooted_head}
use Rattle.rdb_cells.specs.Keys.{says}
use Rattle.rdb_cells.specs.Work.{work, reading}
use Rattle.rdb_tree.specs.Trees.{root_of}
use Rattle.rdb_tree.proofs.HeadLemmas.{root_read}
use Rattle.rdb_tree.proofs.NodeLemmas.{cell_there}
use Rattle.rdb_tree.proofs.RemoveLemmas.{removal_home, removal_lower, removal_ends}
use Rattle.rdb_tree.proofs.remove.remove.Goals as goal

pub planned-requires : goal.planned-requires
planned-requires g c =
    cell_there (reading (work g.C.Cells c.args.cells.now)) c.args.tree.now.head.number (index_head_cell (rooted_head (root_of c.requires.standing.2.tree))) c.requires.standing.2.leads

pub take_out-requires-clause-tree : goal.take_out-requires-clause-tree
take_out-requires-clause-tree g c =
    removal_home (work g.C.Cells c.args.cells.now) c.args.tree.now.head (says (g.K.Keys.meaning c.args.keys.now) (reading (work g.C.Cells c.args.cells.now))) c.args.version c.root_in-root.result c.requires.standing.0 c.requires.standing.1 c.requires.standing.2 (root_read (reading (work g.C.Cells c.args.cells.now)) c.args.tree.now.head.number (root_of c.requires.standing.2.tree) c.root_in-root.result c.planned.result.now c.requires.standing.2.leads c.planned.ensures.planned c.root_in-root.ensures) c.requires.standing.3

pub lower_root-requires-clause-root : goal.lower_root-requires-clause-root
lower_root-requires-clause-root g c =
    let lower = (removal_lower (work g.C.Cells c.args.cells.now) c.args.tree.now.head (says (g.K.Keys.meaning c.args.keys.now) (reading (work g.C.Cells c.args.cells.now))) c.args.version c.root_in-root.result c.requires.standing.0 c.requires.standing.1 c.requires.standing.2 (root_read (reading (work g.C.Cells c.args.cells.now)) c.args.tree.now.head.number (root_of c.requires.standing.2.tree) c.root_in-root.result c.planned.result.now c.requires.standing.2.leads c.planned.ensures.planned c.root_in-root.ensures) c.requires.standing.3 (work g.C.Cells c.take_out.new.cells) c.take_out.ensures.lost) in (lower.keys, lower.children, lower.node)

pub lower_root-requires-clause-head : goal.lower_root-requires-clause-head
lower_root-requires-clause-head g c =
    (removal_lower (work g.C.Cells c.args.cells.now) c.args.tree.now.head (says (g.K.Keys.meaning c.args.keys.now) (reading (work g.C.Cells c.args.cells.now))) c.args.version c.root_in-root.result c.requires.standing.0 c.requires.standing.1 c.requires.standing.2 (root_read (reading (work g.C.Cells c.args.cells.now)) c.args.tree.now.head.number (root_of c.requires.standing.2.tree) c.root_in-root.result c.planned.result.now c.requires.standing.2.leads c.planned.ensures.planned c.root_in-root.ensures) c.requires.standing.3 (work g.C.Cells c.take_out.new.cells) c.take_out.ensures.lost).head_cell

pub lower_root-requires-clause-places : goal.lower_root-requires-clause-places
lower_root-requires-clause-places g c =
    (removal_lower (work g.C.Cells c.args.cells.now) c.args.tree.now.head (says (g.K.Keys.meaning c.args.keys.now) (reading (work g.C.Cells c.args.cells.now))) c.args.version c.root_in-root.result c.requires.standing.0 c.requires.standing.1 c.requires.standing.2 (root_read (reading (work g.C.Cells c.args.cells.now)) c.args.tree.now.head.number (root_of c.requires.standing.2.tree) c.root_in-root.result c.planned.result.now c.requires.standing.2.leads c.planned.ensures.planned c.root_in-root.ensures) c.requires.standing.3 (work g.C.Cells c.take_out.new.cells) c.take_out.ensures.lost).room c.requires.places

pub returns-clause-removed : goal.returns-clause-removed
returns-clause-removed g c =
    λ listed nodes is within. removal_ends (work g.C.Cells c.args.cells.now) c.args.tree.now.head (says (g.K.Keys.meaning c.args.keys.now) (reading (work g.C.Cells c.args.cells.now))) c.args.version c.root_in-root.result listed nodes is (root_read (reading (work g.C.Cells c.args.cells.now)) c.args.tree.now.head.number (root_of is.tree) c.root_in-root.result c.planned.result.now is.leads c.planned.ensures.planned c.root_in-root.ensures) within (work g.C.Cells c.take_out.new.cells) c.take_out.ensures.lost (work g.C.Cells c.lower_root.new.cells) c.lower_root.ensures.lowers
