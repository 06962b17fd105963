use Rattle.rdb_mvcc.proofs.AnswerLemmas.{one_answer}
use Rattle.rdb_mvcc.proofs.laws.validation_has_one_answer.Goals as goal

pub returns : goal.returns
returns c = one_answer
