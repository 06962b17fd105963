use Rattle.rdb_cells.proofs.SettledLemmas.{log_keeps}
use Rattle.rdb_cells.proofs.log.log_write.Goals as goal

pub returns-clause-settled : goal.returns-clause-settled
returns-clause-settled g c = log_keeps c.args.undo.now c.log.new.undo (g.C.Cells.image c.args.cells.now) (g.C.Cells.image c.write.new.self) c.args.at.number c.args.cell c.log.ensures c.write.ensures.written
