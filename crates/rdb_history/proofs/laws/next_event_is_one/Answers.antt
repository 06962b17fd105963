use Rattle.rdb_history.proofs.EventLemmas.{one_next, some_next}
use Rattle.rdb_history.proofs.laws.next_event_is_one.Goals as goal

pub returns : goal.returns
returns c = record { one = one_next; some = some_next }
