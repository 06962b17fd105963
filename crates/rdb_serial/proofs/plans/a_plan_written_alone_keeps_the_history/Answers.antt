use Rattle.rdb_serial.proofs.SettlingMoves.{writes_out}
use Rattle.rdb_serial.proofs.plans.a_plan_written_alone_keeps_the_history.Goals as goal

pub returns : goal.returns
returns c = writes_out
