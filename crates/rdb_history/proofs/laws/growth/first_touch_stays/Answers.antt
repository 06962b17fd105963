use Rattle.rdb_history.proofs.GrowthLemmas.{first_grown, untouched_grown}
use Rattle.rdb_history.proofs.laws.growth.first_touch_stays.Goals as goal

pub returns : goal.returns
returns c = record {
  found = λ schema front back story commit operation is. first_grown front back schema story commit operation is;
  none = λ schema front back story last within none. untouched_grown front back schema story last within none;
}
