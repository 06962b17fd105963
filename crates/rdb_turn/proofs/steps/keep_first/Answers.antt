use Rattle.std.proofs.Common.{rules}
use Rattle.rdb_turn.proofs.Kept.{keeps_first}
use Rattle.rdb_turn.proofs.steps.keep_first.Goals as goal

pub load-requires : goal.load-requires
load-requires g c = (search rules, search rules, keeps_first g.T.Chronicle _ _ _ _ _ c.requires.two.0 c.requires.two.1 c.requires.away c.requires.two.2 c.requires.two.3)
