-- By the slot of the connection.
use Rattle.rdb_registry.proofs.RecordLaws.{changed_own, changed_others}
use Rattle.rdb_registry.proofs.laws.a_change_is_seen_of_its_connection_alone.Goals as goal

pub returns-clause-own : goal.returns-clause-own
returns-clause-own c = changed_own

pub returns-clause-others : goal.returns-clause-others
returns-clause-others c = changed_others
