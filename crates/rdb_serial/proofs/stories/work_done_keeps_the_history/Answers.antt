use Rattle.rdb_serial.proofs.StoryMoves.{finishes}
use Rattle.rdb_serial.proofs.stories.work_done_keeps_the_history.Goals as goal

pub returns : goal.returns
returns c = finishes
