-- By recursion on the journal.
use Rattle.rdb_model.proofs.EndingLemmas.{since_push}
use Rattle.rdb_model.proofs.laws.stretch_goes_on.Goals as goal

pub returns : goal.returns
returns c = since_push
