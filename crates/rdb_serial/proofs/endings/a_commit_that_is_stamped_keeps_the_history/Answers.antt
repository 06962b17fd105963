use Rattle.rdb_serial.proofs.EndingMoves.{ends_committed}
use Rattle.rdb_serial.proofs.endings.a_commit_that_is_stamped_keeps_the_history.Goals as goal

pub returns : goal.returns
returns c = ends_committed
