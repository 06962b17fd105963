use Rattle.rdb_history.proofs.GrowthLemmas.{commits_next, done_next, fold_next, row_next}
use Rattle.rdb_history.proofs.laws.growth.appended_commit_is_the_next_step.Goals as goal

pub returns : goal.returns
returns c = record {
  commits = commits_next;
  done = done_next;
  fold = λ schema journal story number. fold_next journal story number schema;
  row = row_next;
}
