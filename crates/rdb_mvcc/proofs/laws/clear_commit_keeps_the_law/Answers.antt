use Rattle.rdb_mvcc.proofs.AnswerLemmas.{clear_keeps}
use Rattle.rdb_mvcc.proofs.laws.clear_commit_keeps_the_law.Goals as goal

pub returns : goal.returns
returns c = clear_keeps
