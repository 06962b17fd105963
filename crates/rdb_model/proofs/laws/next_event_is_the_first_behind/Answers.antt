-- By what is found in a list in order.
use Rattle.rdb_model.proofs.NextEvents.{next_is, none_is, listed_first}
use Rattle.rdb_model.proofs.laws.next_event_is_the_first_behind.Goals as goal

pub returns : goal.returns
returns c = record {
  found = next_is;
  none = none_is;
  first = listed_first;
}
