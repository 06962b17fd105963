use Rattle.rdb_steps.proofs.ClosedLemmas.{closed_over, told_over, back_over}
use Rattle.rdb_steps.proofs.moves.a_closed_record_is_over.Goals as goal

pub returns-clause-closed : goal.returns-clause-closed
returns-clause-closed call = closed_over

pub returns-clause-told : goal.returns-clause-told
returns-clause-told call = told_over

pub returns-clause-at_once : goal.returns-clause-at_once
returns-clause-at_once call = back_over
