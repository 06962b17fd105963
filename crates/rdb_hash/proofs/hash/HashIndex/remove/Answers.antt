use Rattle.rdb_cells.specs.Work.{work, reading}
use Rattle.rdb_hash.proofs.EqualLemmas.{has_entry}
use Rattle.rdb_hash.proofs.hash.HashIndex.remove.Goals as goal

pub hash-requires : goal.hash-requires
hash-requires g c = c.requires.has.lists.versions.keyed c.args.version c.requires.has.within

pub find-found-requires : goal.find-found-requires
find-found-requires g c =
    has_entry c.args.self.now.head.number (g.K.Keys.meaning c.args.keys.now) (reading (work g.C.Cells c.args.cells.now)) c.args.version c.hash.result c.of-bucket.result.table c.of-bucket.result.place c.first_of-first.result.number c.requires.has.listed c.requires.has.nodes c.requires.has.lists c.requires.has.within
    c.hash.ensures c.of-bucket.ensures.number c.of-bucket.ensures.table c.of-bucket.ensures.place c.first_of-first.ensures

pub returns-then-eq-clause-removes : goal.returns-then-eq-clause-removes
returns-then-eq-clause-removes g c = (c.take_first.ensures.removed (g.K.Keys.meaning c.args.keys.now) (g.met.K.Keys.rests_on_versions c.args.keys.now)).removes

pub returns-then-eq-clause-own : goal.returns-then-eq-clause-own
returns-then-eq-clause-own g c = (c.take_first.ensures.removed (g.K.Keys.meaning c.args.keys.now) (g.met.K.Keys.rests_on_versions c.args.keys.now)).own

pub returns-then-eq-clause-versions : goal.returns-then-eq-clause-versions
returns-then-eq-clause-versions g c = (c.take_first.ensures.removed (g.K.Keys.meaning c.args.keys.now) (g.met.K.Keys.rests_on_versions c.args.keys.now)).versions

pub returns-then-eq-clause-takes_none : goal.returns-then-eq-clause-takes_none
returns-then-eq-clause-takes_none g c = (c.take_first.ensures.removed (g.K.Keys.meaning c.args.keys.now) (g.met.K.Keys.rests_on_versions c.args.keys.now)).takes_none

pub returns-then-eq-clause-places : goal.returns-then-eq-clause-places
returns-then-eq-clause-places g c = (c.take_first.ensures.removed (g.K.Keys.meaning c.args.keys.now) (g.met.K.Keys.rests_on_versions c.args.keys.now)).places

pub returns-then-eq-clause-room : goal.returns-then-eq-clause-room
returns-then-eq-clause-room g c = (c.take_first.ensures.removed (g.K.Keys.meaning c.args.keys.now) (g.met.K.Keys.rests_on_versions c.args.keys.now)).room

pub returns-else-eq-clause-removes : goal.returns-else-eq-clause-removes
returns-else-eq-clause-removes g c = (c.take_behind.ensures.removed (g.K.Keys.meaning c.args.keys.now) (g.met.K.Keys.rests_on_versions c.args.keys.now)).removes

pub returns-else-eq-clause-own : goal.returns-else-eq-clause-own
returns-else-eq-clause-own g c = (c.take_behind.ensures.removed (g.K.Keys.meaning c.args.keys.now) (g.met.K.Keys.rests_on_versions c.args.keys.now)).own

pub returns-else-eq-clause-versions : goal.returns-else-eq-clause-versions
returns-else-eq-clause-versions g c = (c.take_behind.ensures.removed (g.K.Keys.meaning c.args.keys.now) (g.met.K.Keys.rests_on_versions c.args.keys.now)).versions

pub returns-else-eq-clause-takes_none : goal.returns-else-eq-clause-takes_none
returns-else-eq-clause-takes_none g c = (c.take_behind.ensures.removed (g.K.Keys.meaning c.args.keys.now) (g.met.K.Keys.rests_on_versions c.args.keys.now)).takes_none

pub returns-else-eq-clause-places : goal.returns-else-eq-clause-places
returns-else-eq-clause-places g c = (c.take_behind.ensures.removed (g.K.Keys.meaning c.args.keys.now) (g.met.K.Keys.rests_on_versions c.args.keys.now)).places

pub returns-else-eq-clause-room : goal.returns-else-eq-clause-room
returns-else-eq-clause-room g c = (c.take_behind.ensures.removed (g.K.Keys.meaning c.args.keys.now) (g.met.K.Keys.rests_on_versions c.args.keys.now)).room
