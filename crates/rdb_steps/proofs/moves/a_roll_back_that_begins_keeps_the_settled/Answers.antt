use Rattle.rdb_steps.proofs.WithoutLemmas.{back_kept}
use Rattle.rdb_steps.proofs.moves.a_roll_back_that_begins_keeps_the_settled.Goals as goal

pub returns : goal.returns
returns call = back_kept
