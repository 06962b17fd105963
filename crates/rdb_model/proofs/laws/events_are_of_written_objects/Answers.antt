-- What a commit didn't write stays.
use Rattle.rdb_model.proofs.EventLemmas.{events_written}
use Rattle.rdb_model.proofs.laws.events_are_of_written_objects.Goals as goal

pub returns : goal.returns
returns c = events_written
