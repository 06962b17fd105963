use Rattle.rdb_steps.proofs.TakenLemmas.{taken_none, taken_all}
use Rattle.rdb_steps.proofs.moves.what_is_taken_over.Goals as goal

pub returns-clause-nothing : goal.returns-clause-nothing
returns-clause-nothing call = taken_none

pub returns-clause-everything : goal.returns-clause-everything
returns-clause-everything call = taken_all
