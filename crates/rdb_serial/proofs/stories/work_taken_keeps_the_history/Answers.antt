use Rattle.rdb_serial.proofs.StoryMoves.{takes_work}
use Rattle.rdb_serial.proofs.stories.work_taken_keeps_the_history.Goals as goal

pub returns : goal.returns
returns c = takes_work
