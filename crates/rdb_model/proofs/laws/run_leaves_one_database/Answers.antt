-- By recursion on the operations.
use Rattle.rdb_model.proofs.LawsLemmas.{run_after}
use Rattle.rdb_model.proofs.laws.run_leaves_one_database.Goals as goal

pub returns : goal.returns
returns c = run_after
