use Rattle.rdb_history.proofs.GrowthLemmas.{commit_of, numbered}
use Rattle.rdb_history.proofs.laws.growth.each_number_has_its_commit.Goals as goal

pub returns : goal.returns
returns c = record {
  commit = λ journal n numbers positive below. commit_of journal numbers n positive below;
  number = λ journal own commit numbers stands. numbered journal numbers own commit stands;
}
