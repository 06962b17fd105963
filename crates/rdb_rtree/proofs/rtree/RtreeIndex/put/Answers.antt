use Rattle.std.proofs.Common.{[], length, inr, refl, arith}
use Rattle.rdb_cells.specs.Keys.{says}
use Rattle.rdb_cells.specs.Work.{work, reading}
use Rattle.rdb_rtree.proofs.ChangedLemmas.{own_alone, puts, takes_more}
use Rattle.rdb_rtree.proofs.RootLemmas.{taken_box}
use Rattle.rdb_rtree.proofs.rtree.RtreeIndex.put.Goals as goal

pub put-requires-clause-standing : goal.put-requires-clause-standing
put-requires-clause-standing g c = (c.requires.lacks.listed, c.requires.lacks.nodes, c.requires.lacks.lists)

pub put-requires-clause-version : goal.put-requires-clause-version
put-requires-clause-version g c = taken_box (says (g.K.Keys.meaning c.args.keys.now) (reading (work g.C.Cells c.args.cells.now))) c.args.version c.requires.lacks.unlisted.keyed c.requires.lacks.taken

pub put-requires-clause-places : goal.put-requires-clause-places
put-requires-clause-places g c = let room = c.requires.places in omega arith

pub returns-clause-puts : goal.returns-clause-puts
returns-clause-puts g c = λ listed nodes is unlisted.
    puts c.args.self.now.class c.args.self.now.head.number (g.K.Keys.meaning c.args.keys.now) (work g.C.Cells c.args.cells.now) (work g.C.Cells c.put.new.cells) c.args.version listed nodes is (c.put.ensures.put listed nodes is) unlisted (g.met.K.Keys.rests_on_versions c.args.keys.now)

pub returns-clause-own : goal.returns-clause-own
returns-clause-own g c = λ listed nodes is.
    let put = c.put.ensures.put listed nodes is in
    own_alone c.args.self.now.class c.args.self.now.head.number (g.K.Keys.meaning c.args.keys.now) (work g.C.Cells c.args.cells.now) (work g.C.Cells c.put.new.cells) listed nodes is put.fresh [] 24 put.now put.changed (inr refl)

pub returns-clause-versions : goal.returns-clause-versions
returns-clause-versions g c = (c.put.ensures.put c.requires.lacks.listed c.requires.lacks.nodes c.requires.lacks.lists).changed.account.versions

pub returns-clause-takes : goal.returns-clause-takes
returns-clause-takes g c =
    let put = c.put.ensures.put c.requires.lacks.listed c.requires.lacks.nodes c.requires.lacks.lists in
    takes_more (work g.C.Cells c.args.cells.now) (work g.C.Cells c.put.new.cells) (length put.fresh) 12 put.few put.changed.account.most

pub returns-clause-places : goal.returns-clause-places
returns-clause-places g c =
    let put = c.put.ensures.put c.requires.lacks.listed c.requires.lacks.nodes c.requires.lacks.lists in
    let places = put.changed.account.places in
    omega arith

pub returns-clause-room : goal.returns-clause-room
returns-clause-room g c = (c.put.ensures.put c.requires.lacks.listed c.requires.lacks.nodes c.requires.lacks.lists).changed.account.goes_on.room
