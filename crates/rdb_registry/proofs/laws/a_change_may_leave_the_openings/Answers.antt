-- By the slots of the list.
use Rattle.rdb_registry.proofs.RecordLaws.{changed_openings}
use Rattle.rdb_registry.proofs.laws.a_change_may_leave_the_openings.Goals as goal

pub returns : goal.returns
returns c = changed_openings
