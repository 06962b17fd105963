use Rattle.std.proofs.Common.{◌≡◌, ◌≢◌, rules}
use Rattle.rdb_hash.proofs.TableLemmas.{first_of_none, first_of_table, head_there, is_there}
use Rattle.rdb_hash.proofs.hash.Hash.first_of.Goals as goal

pub read-requires : goal.read-requires
read-requires g c = head_there (g.C.Cells.image c.args.cells.now) c.args.self.now.head.number c.requires.tables

pub read-requires-2 : goal.read-requires-2
read-requires-2 g c =
    let some : c.root_in-table.result.number ≢ 0 = search rules in
    is_there (g.C.Cells.image c.args.cells.now) c.args.self.now.head.number c.read.result.now c.read.ensures c.args.bucket.table c.root_in-table.result c.root_in-table.ensures c.requires.table c.requires.tables some

pub returns-then-eq : goal.returns-then-eq
returns-then-eq g c =
    let none : c.root_in-table.result.number ≡ 0 = search rules in
    first_of_none (g.C.Cells.image c.args.cells.now) c.args.self.now.head.number c.read.result.now c.read.ensures c.args.bucket.table c.root_in-table.result c.root_in-table.ensures c.args.bucket.place none

pub returns : goal.returns
returns g c =
    let some : c.root_in-table.result.number ≢ 0 = search rules in
    first_of_table (g.C.Cells.image c.args.cells.now) c.args.self.now.head.number c.read.result.now c.read.ensures c.args.bucket.table c.root_in-table.result c.root_in-table.ensures c.args.bucket.place c.read-2.result.now c.bucket_in.result some c.read-2.ensures c.bucket_in.ensures
