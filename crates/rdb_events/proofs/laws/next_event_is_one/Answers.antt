use Rattle.rdb_events.proofs.NextLemmas.{one_next_of}
use Rattle.rdb_events.proofs.laws.next_event_is_one.Goals as goal

pub returns : goal.returns
returns c = one_next_of
