use Rattle.std.proofs.Common.{[], List, inl, refl, subst, arith}
use Rattle.std.specs.List.{Contains}
use Rattle.rdb_pages.specs.declared.cell.CellRef.{CellRef}
use Rattle.rdb_cells.specs.Keys.{says}
use Rattle.rdb_cells.specs.Work.{work, reading}
use Rattle.rdb_rtree.proofs.ChangedLemmas.{own_alone, removes, takes_nothing}
use Rattle.rdb_rtree.proofs.OneTree.{same_listed}
use Rattle.rdb_rtree.proofs.rtree.RtreeIndex.remove.Goals as goal

pub returns-clause-removes : goal.returns-clause-removes
returns-clause-removes g c = λ listed nodes is within.
    removes c.args.self.now.class c.args.self.now.head.number (g.K.Keys.meaning c.args.keys.now) (work g.C.Cells c.args.cells.now) (work g.C.Cells c.remove.new.cells) c.args.version listed nodes is (c.remove.ensures.removed listed nodes is within) (g.met.K.Keys.rests_on_versions c.args.keys.now)

pub returns-clause-own : goal.returns-clause-own
returns-clause-own g c = λ listed nodes is.
    let same = same_listed c.args.self.now.head.number (says (g.K.Keys.meaning c.args.keys.now) (reading (work g.C.Cells c.args.cells.now))) (says (g.K.Keys.meaning c.args.keys.now) (reading (work g.C.Cells c.args.cells.now))) (reading (work g.C.Cells c.args.cells.now)) c.requires.has.listed listed c.requires.has.nodes nodes c.requires.has.lists is in
    let removed = c.remove.ensures.removed listed nodes is (subst (λ (rs : List CellRef). Contains rs c.args.version) same c.requires.has.within) in
    own_alone c.args.self.now.class c.args.self.now.head.number (g.K.Keys.meaning c.args.keys.now) (work g.C.Cells c.args.cells.now) (work g.C.Cells c.remove.new.cells) listed nodes is [] removed.gone 24 removed.now removed.changed (inl refl)

pub returns-clause-versions : goal.returns-clause-versions
returns-clause-versions g c =
    (c.remove.ensures.removed c.requires.has.listed c.requires.has.nodes c.requires.has.lists c.requires.has.within).changed.account.versions

pub returns-clause-takes_none : goal.returns-clause-takes_none
returns-clause-takes_none g c =
    takes_nothing (work g.C.Cells c.args.cells.now) (work g.C.Cells c.remove.new.cells) (c.remove.ensures.removed c.requires.has.listed c.requires.has.nodes c.requires.has.lists c.requires.has.within).changed.account.lowest

pub returns-clause-places : goal.returns-clause-places
returns-clause-places g c =
    let removed = (c.remove.ensures.removed c.requires.has.listed c.requires.has.nodes c.requires.has.lists c.requires.has.within) in
    let places = removed.changed.account.places in
    omega arith

pub returns-clause-room : goal.returns-clause-room
returns-clause-room g c =
    (c.remove.ensures.removed c.requires.has.listed c.requires.has.nodes c.requires.has.lists c.requires.has.within).changed.account.goes_on.room
