use Rattle.rdb_serial.proofs.EndingMoves.{ends_read}
use Rattle.rdb_serial.proofs.endings.a_read_keeps_the_history.Goals as goal

pub returns : goal.returns
returns c = ends_read
