use Rattle.rdb_writes.proofs.ChangeLemmas.{grown_works, grown_settled, grown_aimed, grown_new, grown_unplanned}
use Rattle.rdb_writes.proofs.laws.cells_may_come.Goals as goal

pub returns-clause-works : goal.returns-clause-works
returns-clause-works call = λ before after works grows. grown_works before after grows works

pub returns-clause-settled : goal.returns-clause-settled
returns-clause-settled call = λ before after n works grows there. grown_settled before after grows n there

pub returns-clause-aimed : goal.returns-clause-aimed
returns-clause-aimed call = λ before after hand n grows there. grown_aimed before after grows hand n there

pub returns-clause-new : goal.returns-clause-new
returns-clause-new call = λ before after n works grows none. grown_new before after grows n works none

pub returns-clause-unplanned : goal.returns-clause-unplanned
returns-clause-unplanned call = λ before after slot n seat works grows there none. grown_unplanned before after grows slot n seat works there none
