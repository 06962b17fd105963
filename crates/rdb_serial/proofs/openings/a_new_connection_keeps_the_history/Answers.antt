use Rattle.rdb_serial.proofs.StoryMoves.{comes}
use Rattle.rdb_serial.proofs.openings.a_new_connection_keeps_the_history.Goals as goal

pub returns : goal.returns
returns c = comes
