use Rattle.rdb_serial.proofs.GivingMoves.{garbage}
use Rattle.rdb_serial.proofs.plans.a_garbage_plan_keeps_the_history.Goals as goal

pub returns : goal.returns
returns c = garbage
