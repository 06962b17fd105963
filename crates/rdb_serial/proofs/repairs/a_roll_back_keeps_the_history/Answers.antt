use Rattle.rdb_serial.proofs.StoryMoves.{rolls_back}
use Rattle.rdb_serial.proofs.repairs.a_roll_back_keeps_the_history.Goals as goal

pub returns : goal.returns
returns c = rolls_back
