use Rattle.rdb_serial.proofs.EmptyMoves.{empty}
use Rattle.rdb_serial.proofs.openings.an_empty_history_is_serial.Goals as goal

pub returns : goal.returns
returns c = empty
