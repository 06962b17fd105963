use Rattle.rdb_history.proofs.EventLemmas.{event_written}
use Rattle.rdb_history.proofs.laws.events_by_rows_are_of_written_objects.Goals as goal

pub returns : goal.returns
returns c = event_written
