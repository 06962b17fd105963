use Rattle.rdb_writes.proofs.ChangeLemmas.{by_holder, by_nobody}
use Rattle.rdb_writes.proofs.laws.a_class_is_settled_by_its_holder.Goals as goal

pub returns-clause-holder : goal.returns-clause-holder
returns-clause-holder c = by_holder

pub returns-clause-nobody : goal.returns-clause-nobody
returns-clause-nobody c = by_nobody
