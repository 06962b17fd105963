use Rattle.std.proofs.Common.{rules}
use Rattle.rdb_turn.proofs.Kept.{looks}
use Rattle.rdb_turn.proofs.steps.look.Goals as goal

pub load-requires : goal.load-requires
load-requires g c = (search rules, search rules, looks g.T.Chronicle _ _ _ _ _ c.requires.waits.0 c.requires.waits.1)
