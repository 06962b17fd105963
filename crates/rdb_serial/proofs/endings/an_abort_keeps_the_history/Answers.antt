use Rattle.rdb_serial.proofs.EndingMoves.{ends_rolled_back}
use Rattle.rdb_serial.proofs.endings.an_abort_keeps_the_history.Goals as goal

pub returns : goal.returns
returns c = ends_rolled_back
