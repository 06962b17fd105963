use Rattle.rdb_writes.proofs.ChangeLemmas.{latches_works, latches_settled}
use Rattle.rdb_writes.proofs.laws.latches_may_change.Goals as goal

pub returns-clause-works : goal.returns-clause-works
returns-clause-works call = λ before after slot seat latches works changes. latches_works before after slot seat latches changes works

pub returns-clause-settled : goal.returns-clause-settled
returns-clause-settled call = latches_settled
