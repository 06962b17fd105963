use Rattle.rdb_cells.proofs.KeyLemmas.{header_there, headers_ordered}
use Rattle.rdb_cells.proofs.doubles.one_key.OneKeyKeys.order.Goals as goal

pub read-left-requires : goal.read-left-requires
read-left-requires g c = header_there c.args.self.now.key (g.C.Cells.image c.args.cells.now c.args.a.number) c.requires.a

pub read-right-requires : goal.read-right-requires
read-right-requires g c = header_there c.args.self.now.key (g.C.Cells.image c.args.cells.now c.args.b.number) c.requires.b

pub returns : goal.returns
returns g c = headers_ordered c.args.self.now.key (g.C.Cells.image c.args.cells.now c.args.a.number) (g.C.Cells.image c.args.cells.now c.args.b.number) c.read-left.result.now c.read-right.result.now c.order_headers.result c.read-left.ensures c.read-right.ensures c.order_headers.ensures
