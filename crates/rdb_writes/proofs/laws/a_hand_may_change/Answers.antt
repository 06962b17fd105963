use Rattle.rdb_writes.proofs.ChangeLemmas.{hand_works, hand_same, hand_emptied, hand_others}
use Rattle.rdb_writes.proofs.laws.a_hand_may_change.Goals as goal

pub returns-clause-works : goal.returns-clause-works
returns-clause-works call = hand_works

pub returns-clause-same : goal.returns-clause-same
returns-clause-same call = hand_same

pub returns-clause-emptied : goal.returns-clause-emptied
returns-clause-emptied call = λ before after c seat hand n works one changes empty latched. hand_emptied before after c seat hand works one changes n empty latched

pub returns-clause-others : goal.returns-clause-others
returns-clause-others call = λ before after c seat hand n works one changes free. hand_others before after c seat hand works one changes n free
