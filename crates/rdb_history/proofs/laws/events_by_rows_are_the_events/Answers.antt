use Rattle.rdb_history.proofs.RowLaws.{event_is}
use Rattle.rdb_history.proofs.laws.events_by_rows_are_the_events.Goals as goal

pub returns : goal.returns
returns c = λ schema journal class kind pair numbers replies there. event_is schema journal numbers replies class kind pair there
