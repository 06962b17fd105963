use Rattle.rdb_serial.proofs.GivingMoves.{drops}
use Rattle.rdb_serial.proofs.plans.a_drop_plan_keeps_the_history.Goals as goal

pub returns : goal.returns
returns c = drops
