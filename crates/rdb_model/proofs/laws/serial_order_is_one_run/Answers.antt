-- Reads and commits in turn.
use Rattle.rdb_model.proofs.SerialReads.{serial_runs}
use Rattle.rdb_model.proofs.laws.serial_order_is_one_run.Goals as goal

pub returns : goal.returns
returns c = serial_runs
