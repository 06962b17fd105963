use Rattle.std.proofs.Common.{arith}
use Rattle.rdb_hash.proofs.ListLemmas.{one_table_more, all_listed}
use Rattle.rdb_hash.proofs.hash.HashIndex.refs.Goals as goal

pub loop-table-init : goal.loop-table-init
loop-table-init g c = λ tables are. c.new-refs.ensures

pub list_table-requires-clause-tables : goal.list_table-requires-clause-tables
list_table-requires-clause-tables g c = (c.requires.3.tables, c.requires.3.stand)

pub loop-table-preserved : goal.loop-table-preserved
loop-table-preserved g c = one_table_more (g.C.Cells.image c.args.cells.now) c.args.self.now.head.number c.loop-table.refs c.list_table.new.refs c.loop-table.table (omega arith) c.loop-table.invariant c.in_ok-list_table.ensures

pub returns : goal.returns
returns g c =
    let most = c.loop-table.auto.table-end in
    let least = c.loop-table-test.false in
    all_listed (g.C.Cells.image c.args.cells.now) c.args.self.now.head.number c.args.self.now.class c.loop-table.refs c.loop-table.table (omega arith) c.loop-table.invariant
