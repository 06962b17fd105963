use Rattle.rdb_steps.proofs.WithoutLemmas.{condemned_kept}
use Rattle.rdb_steps.proofs.moves.a_condemnation_keeps_the_settled.Goals as goal

pub returns : goal.returns
returns call = λ schema manager before after d seat condemned lawful changes live. condemned_kept schema manager before after d seat condemned lawful changes live
