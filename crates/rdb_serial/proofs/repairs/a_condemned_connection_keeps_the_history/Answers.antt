use Rattle.rdb_serial.proofs.StoryMoves.{condemned}
use Rattle.rdb_serial.proofs.repairs.a_condemned_connection_keeps_the_history.Goals as goal

pub returns : goal.returns
returns c = condemned
