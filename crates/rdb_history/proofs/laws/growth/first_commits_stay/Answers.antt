use Rattle.rdb_history.proofs.GrowthLemmas.{commits_grown, no_more_commits, done_grown, fold_grown, row_grown}
use Rattle.rdb_history.proofs.laws.growth.first_commits_stay.Goals as goal

pub returns : goal.returns
returns c = record {
  commits = commits_grown;
  other = no_more_commits;
  done = done_grown;
  fold = λ schema front back n below. fold_grown front back schema n below;
  row = row_grown;
}
