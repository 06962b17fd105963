use Rattle.rdb_history.proofs.GrowthLemmas.{happened_grown, events_grown, events_same}
use Rattle.rdb_history.proofs.laws.growth.first_events_stay.Goals as goal

pub returns : goal.returns
returns c = record {
  happened = λ class kind front back pair below. happened_grown front back class kind pair below;
  list = events_grown;
  same = events_same;
}
