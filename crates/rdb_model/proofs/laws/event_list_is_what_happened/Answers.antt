-- Commit by commit.
use Rattle.rdb_model.proofs.EventLists.{listed_iff}
use Rattle.rdb_model.proofs.laws.event_list_is_what_happened.Goals as goal

pub returns : goal.returns
returns c = listed_iff
