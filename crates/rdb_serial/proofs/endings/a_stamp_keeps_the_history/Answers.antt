use Rattle.rdb_serial.proofs.StampMoves.{stamps_version}
use Rattle.rdb_serial.proofs.endings.a_stamp_keeps_the_history.Goals as goal

pub returns : goal.returns
returns c = stamps_version
