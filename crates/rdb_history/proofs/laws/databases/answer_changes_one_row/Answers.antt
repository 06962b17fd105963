use Rattle.rdb_history.proofs.DatabaseLemmas.{one_row}
use Rattle.rdb_history.proofs.laws.databases.answer_changes_one_row.Goals as goal

pub returns : goal.returns
returns c = one_row
