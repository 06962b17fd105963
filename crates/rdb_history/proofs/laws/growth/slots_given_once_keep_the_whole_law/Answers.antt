use Rattle.rdb_history.proofs.LawLemmas.{whole_law}
use Rattle.rdb_history.proofs.laws.growth.slots_given_once_keep_the_whole_law.Goals as goal

pub returns : goal.returns
returns c = whole_law
