use Rattle.std.proofs.Common.{rules}
use Rattle.rdb_turn.proofs.Kept.{fronts}
use Rattle.rdb_turn.proofs.steps.look_front.Goals as goal

pub load-requires : goal.load-requires
load-requires g c = (search rules, search rules, fronts g.T.Chronicle _ _ _ _ _)
