use Rattle.rdb_serial.proofs.GivingMoves.{lays_down}
use Rattle.rdb_serial.proofs.repairs.work_laid_down_keeps_the_history.Goals as goal

pub returns : goal.returns
returns c = lays_down
