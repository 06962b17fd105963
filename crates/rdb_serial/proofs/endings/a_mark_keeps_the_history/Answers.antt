use Rattle.rdb_serial.proofs.MarkMoves.{marks_it}
use Rattle.rdb_serial.proofs.endings.a_mark_keeps_the_history.Goals as goal

pub returns : goal.returns
returns c = marks_it
