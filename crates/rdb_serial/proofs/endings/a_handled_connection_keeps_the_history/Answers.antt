use Rattle.rdb_serial.proofs.EndingMoves.{handled}
use Rattle.rdb_serial.proofs.endings.a_handled_connection_keeps_the_history.Goals as goal

pub returns : goal.returns
returns c = handled
