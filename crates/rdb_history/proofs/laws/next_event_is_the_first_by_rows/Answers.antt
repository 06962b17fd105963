use Rattle.rdb_history.proofs.RowLaws.{next_listed, none_listed}
use Rattle.rdb_history.proofs.laws.next_event_is_the_first_by_rows.Goals as goal

pub returns : goal.returns
returns c = record {
  found = λ schema journal class event kind place next numbers replies is e. next_listed schema journal numbers replies class event kind is place next e;
  none = λ schema journal class event kind place numbers replies is e. none_listed schema journal numbers replies class event kind is place e;
}
