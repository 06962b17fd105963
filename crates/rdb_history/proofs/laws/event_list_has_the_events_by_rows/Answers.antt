use Rattle.rdb_history.proofs.RowLaws.{listed_is}
use Rattle.rdb_history.proofs.laws.event_list_has_the_events_by_rows.Goals as goal

pub returns : goal.returns
returns c = λ schema journal class event kind pair numbers replies is. listed_is schema journal numbers replies class event kind is pair
