use Rattle.rdb_history.proofs.DatabaseLemmas.{one_database}
use Rattle.rdb_history.proofs.laws.databases.databases_of_the_same_rows_are_one.Goals as goal

pub returns : goal.returns
returns c = one_database
