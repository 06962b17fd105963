use Rattle.rdb_cells.proofs.KeyLemmas.{header_there, against_key}
use Rattle.rdb_cells.proofs.doubles.one_key.OneKeyKeys.against.Goals as goal

pub read-header-requires : goal.read-header-requires
read-header-requires g c = header_there c.args.self.now.key (g.C.Cells.image c.args.cells.now c.args.version.number) c.requires.version

pub returns-clause-order : goal.returns-clause-order
returns-clause-order g c = against_key c.args.self.now.key (g.C.Cells.image c.args.cells.now c.args.version.number) c.read-header.result.now c.args.key.now c.args.id c.order_rows.result c.order_ids.result c.then.result c.read-header.ensures c.order_rows.ensures c.order_ids.ensures c.then.ensures
