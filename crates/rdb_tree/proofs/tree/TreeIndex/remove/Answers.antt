use Rattle.std.proofs.Common.{[], List, subst, arith}
use Rattle.std.specs.List.{Contains}
use Rattle.rdb_pages.specs.declared.cell.CellRef.{CellRef}
use Rattle.rdb_cells.specs.Keys.{says}
use Rattle.rdb_cells.specs.Work.{work, reading}
use Rattle.rdb_tree.proofs.ChangedLemmas.{version_cells, own_alone}
use Rattle.rdb_tree.proofs.RemoveLaws.{removes}
use Rattle.rdb_tree.proofs.OneTree.{same_listed}
use Rattle.rdb_tree.proofs.tree.TreeIndex.remove.Goals as goal

pub remove-requires-clause-standing : goal.remove-requires-clause-standing
remove-requires-clause-standing g c = (c.requires.has.listed, c.requires.has.nodes, c.requires.has.lists, c.requires.has.within)

pub remove-requires-clause-places : goal.remove-requires-clause-places
remove-requires-clause-places g c = let room = c.requires.places in omega arith

pub returns-clause-removes : goal.returns-clause-removes
returns-clause-removes g c = λ listed nodes is within.
    removes c.args.self.now.class c.args.self.now.head.number (g.K.Keys.meaning c.args.keys.now) (work g.C.Cells c.args.cells.now) (work g.C.Cells c.remove.new.cells) c.args.version listed nodes is (c.remove.ensures.removed listed nodes is within) (g.met.K.Keys.rests_on_versions c.args.keys.now)

pub returns-clause-own : goal.returns-clause-own
returns-clause-own g c = λ listed nodes is.
    let has = c.requires.has in
    let said = says (g.K.Keys.meaning c.args.keys.now) (reading (work g.C.Cells c.args.cells.now)) in
    let same = same_listed c.args.self.now.head.number said said (reading (work g.C.Cells c.args.cells.now)) has.listed has.nodes has.lists listed nodes is in
    let removed = c.remove.ensures.removed listed nodes is (subst (λ (rs : List CellRef). Contains rs c.args.version) same has.within) in
    own_alone c.args.self.now.class c.args.self.now.head.number (g.K.Keys.meaning c.args.keys.now) (work g.C.Cells c.args.cells.now) (work g.C.Cells c.remove.new.cells) listed nodes is [] removed.now removed.changed

pub returns-clause-versions : goal.returns-clause-versions
returns-clause-versions g c =
    let has = c.requires.has in
    let removed = c.remove.ensures.removed has.listed has.nodes has.lists has.within in
    version_cells c.args.self.now.class c.args.self.now.head.number (g.K.Keys.meaning c.args.keys.now) (work g.C.Cells c.args.cells.now) (work g.C.Cells c.remove.new.cells) has.listed has.nodes has.lists [] removed.now removed.changed

pub returns-clause-takes_none : goal.returns-clause-takes_none
returns-clause-takes_none g c = (c.remove.ensures.removed c.requires.has.listed c.requires.has.nodes c.requires.has.lists c.requires.has.within).none

pub returns-clause-places : goal.returns-clause-places
returns-clause-places g c =
    let removed = c.remove.ensures.removed c.requires.has.listed c.requires.has.nodes c.requires.has.lists c.requires.has.within in
    let places = removed.places in
    omega arith

pub returns-clause-room : goal.returns-clause-room
returns-clause-room g c = (c.remove.ensures.removed c.requires.has.listed c.requires.has.nodes c.requires.has.lists c.requires.has.within).changed.goes_on.room
