use Rattle.rdb_steps.proofs.MarkLemmas.{marked_kept}
use Rattle.rdb_steps.proofs.moves.a_mark_keeps_what_it_settles.Goals as goal

pub returns : goal.returns
returns call = λ schema manager before after c seat commit lawful changes live runs. marked_kept schema manager before after c seat commit lawful changes live runs
