use Rattle.rdb_serial.proofs.SettlingMoves.{settles}
use Rattle.rdb_serial.proofs.plans.a_written_plan_keeps_the_history.Goals as goal

pub returns : goal.returns
returns c = settles
