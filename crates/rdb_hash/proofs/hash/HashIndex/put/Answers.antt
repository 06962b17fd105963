use Rattle.rdb_cells.specs.Work.{work, reading}
use Rattle.rdb_hash.proofs.TableLemmas.{head_there, hashed_of}
use Rattle.rdb_hash.proofs.hash.HashIndex.put.Goals as goal

pub planned-requires : goal.planned-requires
planned-requires g c = head_there (reading (work g.C.Cells c.args.cells.now)) c.args.self.now.head.number (c.requires.lacks.lists.tables, c.requires.lacks.lists.stand)

pub returns-then-eq-clause-puts : goal.returns-then-eq-clause-puts
returns-then-eq-clause-puts g c =
    let keys = g.K.Keys.meaning c.args.keys.now in
    let hashed = hashed_of keys (reading (work g.C.Cells c.args.cells.now)) c.args.version c.hash-hash.result c.requires.lacks.unlisted.keyed c.hash-hash.ensures in
    (c.put_in_new_table.ensures.put keys (g.met.K.Keys.rests_on_versions c.args.keys.now) hashed).puts

pub returns-then-eq-clause-own : goal.returns-then-eq-clause-own
returns-then-eq-clause-own g c =
    let keys = g.K.Keys.meaning c.args.keys.now in
    let hashed = hashed_of keys (reading (work g.C.Cells c.args.cells.now)) c.args.version c.hash-hash.result c.requires.lacks.unlisted.keyed c.hash-hash.ensures in
    (c.put_in_new_table.ensures.put keys (g.met.K.Keys.rests_on_versions c.args.keys.now) hashed).own

pub returns-then-eq-clause-versions : goal.returns-then-eq-clause-versions
returns-then-eq-clause-versions g c =
    let keys = g.K.Keys.meaning c.args.keys.now in
    let hashed = hashed_of keys (reading (work g.C.Cells c.args.cells.now)) c.args.version c.hash-hash.result c.requires.lacks.unlisted.keyed c.hash-hash.ensures in
    (c.put_in_new_table.ensures.put keys (g.met.K.Keys.rests_on_versions c.args.keys.now) hashed).versions

pub returns-then-eq-clause-takes : goal.returns-then-eq-clause-takes
returns-then-eq-clause-takes g c =
    let keys = g.K.Keys.meaning c.args.keys.now in
    let hashed = hashed_of keys (reading (work g.C.Cells c.args.cells.now)) c.args.version c.hash-hash.result c.requires.lacks.unlisted.keyed c.hash-hash.ensures in
    (c.put_in_new_table.ensures.put keys (g.met.K.Keys.rests_on_versions c.args.keys.now) hashed).takes

pub returns-then-eq-clause-places : goal.returns-then-eq-clause-places
returns-then-eq-clause-places g c =
    let keys = g.K.Keys.meaning c.args.keys.now in
    let hashed = hashed_of keys (reading (work g.C.Cells c.args.cells.now)) c.args.version c.hash-hash.result c.requires.lacks.unlisted.keyed c.hash-hash.ensures in
    (c.put_in_new_table.ensures.put keys (g.met.K.Keys.rests_on_versions c.args.keys.now) hashed).places

pub returns-then-eq-clause-room : goal.returns-then-eq-clause-room
returns-then-eq-clause-room g c =
    let keys = g.K.Keys.meaning c.args.keys.now in
    let hashed = hashed_of keys (reading (work g.C.Cells c.args.cells.now)) c.args.version c.hash-hash.result c.requires.lacks.unlisted.keyed c.hash-hash.ensures in
    (c.put_in_new_table.ensures.put keys (g.met.K.Keys.rests_on_versions c.args.keys.now) hashed).room

pub returns-else-eq-clause-puts : goal.returns-else-eq-clause-puts
returns-else-eq-clause-puts g c =
    let keys = g.K.Keys.meaning c.args.keys.now in
    let hashed = hashed_of keys (reading (work g.C.Cells c.args.cells.now)) c.args.version c.hash-hash.result c.requires.lacks.unlisted.keyed c.hash-hash.ensures in
    (c.put_in_table.ensures.put keys (g.met.K.Keys.rests_on_versions c.args.keys.now) hashed).puts

pub returns-else-eq-clause-own : goal.returns-else-eq-clause-own
returns-else-eq-clause-own g c =
    let keys = g.K.Keys.meaning c.args.keys.now in
    let hashed = hashed_of keys (reading (work g.C.Cells c.args.cells.now)) c.args.version c.hash-hash.result c.requires.lacks.unlisted.keyed c.hash-hash.ensures in
    (c.put_in_table.ensures.put keys (g.met.K.Keys.rests_on_versions c.args.keys.now) hashed).own

pub returns-else-eq-clause-versions : goal.returns-else-eq-clause-versions
returns-else-eq-clause-versions g c =
    let keys = g.K.Keys.meaning c.args.keys.now in
    let hashed = hashed_of keys (reading (work g.C.Cells c.args.cells.now)) c.args.version c.hash-hash.result c.requires.lacks.unlisted.keyed c.hash-hash.ensures in
    (c.put_in_table.ensures.put keys (g.met.K.Keys.rests_on_versions c.args.keys.now) hashed).versions

pub returns-else-eq-clause-takes : goal.returns-else-eq-clause-takes
returns-else-eq-clause-takes g c =
    let keys = g.K.Keys.meaning c.args.keys.now in
    let hashed = hashed_of keys (reading (work g.C.Cells c.args.cells.now)) c.args.version c.hash-hash.result c.requires.lacks.unlisted.keyed c.hash-hash.ensures in
    (c.put_in_table.ensures.put keys (g.met.K.Keys.rests_on_versions c.args.keys.now) hashed).takes

pub returns-else-eq-clause-places : goal.returns-else-eq-clause-places
returns-else-eq-clause-places g c =
    let keys = g.K.Keys.meaning c.args.keys.now in
    let hashed = hashed_of keys (reading (work g.C.Cells c.args.cells.now)) c.args.version c.hash-hash.result c.requires.lacks.unlisted.keyed c.hash-hash.ensures in
    (c.put_in_table.ensures.put keys (g.met.K.Keys.rests_on_versions c.args.keys.now) hashed).places

pub returns-else-eq-clause-room : goal.returns-else-eq-clause-room
returns-else-eq-clause-room g c =
    let keys = g.K.Keys.meaning c.args.keys.now in
    let hashed = hashed_of keys (reading (work g.C.Cells c.args.cells.now)) c.args.version c.hash-hash.result c.requires.lacks.unlisted.keyed c.hash-hash.ensures in
    (c.put_in_table.ensures.put keys (g.met.K.Keys.rests_on_versions c.args.keys.now) hashed).room
