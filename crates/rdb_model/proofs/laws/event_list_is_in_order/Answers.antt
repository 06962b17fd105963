-- The ids of a commit rise, and its number is above those before.
use Rattle.rdb_model.proofs.EventLists.{listed_in_order}
use Rattle.rdb_model.proofs.laws.event_list_is_in_order.Goals as goal

pub returns : goal.returns
returns c = listed_in_order
