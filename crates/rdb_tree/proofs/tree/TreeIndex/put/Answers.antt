use Rattle.std.proofs.Common.{length, arith}
use Rattle.rdb_cells.specs.Work.{work}
use Rattle.rdb_tree.proofs.ChangedLemmas.{version_cells, own_alone}
use Rattle.rdb_tree.proofs.PutLaws.{puts, takes_more}
use Rattle.rdb_tree.proofs.tree.TreeIndex.put.Goals as goal

pub put-requires-clause-standing : goal.put-requires-clause-standing
put-requires-clause-standing g c = (c.requires.lacks.listed, c.requires.lacks.nodes, c.requires.lacks.lists)

pub put-requires-clause-places : goal.put-requires-clause-places
put-requires-clause-places g c = let room = c.requires.places in omega arith

pub returns-clause-puts : goal.returns-clause-puts
returns-clause-puts g c = λ listed nodes is unlisted.
    puts c.args.self.now.class c.args.self.now.head.number (g.K.Keys.meaning c.args.keys.now) (work g.C.Cells c.args.cells.now) (work g.C.Cells c.put.new.cells) c.args.version listed nodes is (c.put.ensures.put listed nodes is) unlisted (g.met.K.Keys.rests_on_versions c.args.keys.now)

pub returns-clause-own : goal.returns-clause-own
returns-clause-own g c = λ listed nodes is.
    let put = c.put.ensures.put listed nodes is in
    own_alone c.args.self.now.class c.args.self.now.head.number (g.K.Keys.meaning c.args.keys.now) (work g.C.Cells c.args.cells.now) (work g.C.Cells c.put.new.cells) listed nodes is put.fresh put.now put.changed

pub returns-clause-versions : goal.returns-clause-versions
returns-clause-versions g c =
    let lacks = c.requires.lacks in
    let put = c.put.ensures.put lacks.listed lacks.nodes lacks.lists in
    version_cells c.args.self.now.class c.args.self.now.head.number (g.K.Keys.meaning c.args.keys.now) (work g.C.Cells c.args.cells.now) (work g.C.Cells c.put.new.cells) lacks.listed lacks.nodes lacks.lists put.fresh put.now put.changed

pub returns-clause-takes : goal.returns-clause-takes
returns-clause-takes g c =
    let put = c.put.ensures.put c.requires.lacks.listed c.requires.lacks.nodes c.requires.lacks.lists in
    takes_more (work g.C.Cells c.args.cells.now) (work g.C.Cells c.put.new.cells) (length put.fresh) 12 put.few put.most

pub returns-clause-places : goal.returns-clause-places
returns-clause-places g c =
    let put = c.put.ensures.put c.requires.lacks.listed c.requires.lacks.nodes c.requires.lacks.lists in
    let places = put.places in
    omega arith

pub returns-clause-room : goal.returns-clause-room
returns-clause-room g c = (c.put.ensures.put c.requires.lacks.listed c.requires.lacks.nodes c.requires.lacks.lists).changed.goes_on.room
