use Rattle.std.proofs.Common.{rules}
use Rattle.rdb_turn.proofs.Kept.{marks}
use Rattle.rdb_turn.proofs.steps.mark.Goals as goal

pub compare_exchange-requires : goal.compare_exchange-requires
compare_exchange-requires g c = (search rules, search rules, marks g.T.Chronicle _ _ _ _ _ _)
