use Rattle.rdb_history.proofs.FoldLemmas.{last_row_is}
use Rattle.rdb_history.proofs.laws.last_row_is_the_databases.Goals as goal

pub returns : goal.returns
returns c = last_row_is
