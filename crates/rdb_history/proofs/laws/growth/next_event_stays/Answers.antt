use Rattle.rdb_history.proofs.GrowthLemmas.{next_grown, none_grown}
use Rattle.rdb_history.proofs.laws.growth.next_event_stays.Goals as goal

pub returns : goal.returns
returns c = record {
  found = λ class kind front back place next is. next_grown front back class kind place next is;
  none = λ class kind front back place last within none. none_grown front back class kind place last within none;
}
