use Rattle.rdb_history.proofs.LawLemmas.{law_more}
use Rattle.rdb_history.proofs.laws.growth.law_goes_on.Goals as goal

pub returns : goal.returns
returns c = law_more
