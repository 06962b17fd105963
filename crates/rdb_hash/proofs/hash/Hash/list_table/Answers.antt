use Rattle.std.proofs.Common.{sym, arith}
use Rattle.std.proofs.lemmas.List.{append-nil}
use Rattle.rdb_hash.proofs.ListLemmas.{has_bucket, listed_bucket, table_listed}
use Rattle.rdb_hash.proofs.hash.Hash.list_table.Goals as goal

pub loop-place-init : goal.loop-place-init
loop-place-init g c = λ tables t are at. sym (append-nil c.args.refs.now)

pub list-requires : goal.list-requires
list-requires g c =
    has_bucket (g.C.Cells.image c.args.cells.now) c.args.self.now.head.number c.args.table c.loop-place.place c.first_of-first.result.number c.requires.tables.0 c.requires.tables.1 c.requires.table (omega arith) c.first_of-first.ensures

pub loop-place-preserved : goal.loop-place-preserved
loop-place-preserved g c = λ tables t are at.
    listed_bucket (g.C.Cells.image c.args.cells.now) c.args.self.now.head.number c.args.table c.loop-place.place c.first_of-first.result.number tables are c.requires.table (omega arith) c.first_of-first.ensures
    c.args.refs.now c.loop-place.refs c.list.new.refs t at (c.loop-place.invariant tables t are at) c.in_ok-list.ensures

pub returns : goal.returns
returns g c =
    let most = c.loop-place.auto.place-end in
    let least = c.loop-place-test.false in
    table_listed (g.C.Cells.image c.args.cells.now) c.args.self.now.head.number c.args.table c.args.refs.now c.loop-place.refs c.loop-place.place (omega arith) c.loop-place.invariant
