use Rattle.rdb_serial.proofs.OwnPlans.{plans_own}
use Rattle.rdb_serial.proofs.plans.an_own_plan_keeps_the_history.Goals as goal

pub returns : goal.returns
returns c = plans_own
