use Rattle.rdb_serial.proofs.StoryMoves.{begin}
use Rattle.rdb_serial.proofs.openings.a_begin_keeps_the_history.Goals as goal

pub returns : goal.returns
returns c = begin
