use Rattle.rdb_serial.proofs.EndingMoves.{closes}
use Rattle.rdb_serial.proofs.endings.a_closed_connection_keeps_the_history.Goals as goal

pub returns : goal.returns
returns c = closes
