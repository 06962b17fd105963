-- By what each is and sees.
use Rattle.rdb_model.proofs.SerialBefore.{ended_before}
use Rattle.rdb_model.proofs.laws.ended_transactions_come_first.Goals as goal

pub returns : goal.returns
returns c = ended_before
