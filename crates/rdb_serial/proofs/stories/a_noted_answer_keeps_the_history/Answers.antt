use Rattle.rdb_serial.proofs.StoryMoves.{notes}
use Rattle.rdb_serial.proofs.stories.a_noted_answer_keeps_the_history.Goals as goal

pub returns : goal.returns
returns c = notes
