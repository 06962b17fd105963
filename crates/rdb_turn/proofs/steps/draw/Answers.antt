use Rattle.std.proofs.Common.{rules}
use Rattle.rdb_turn.proofs.Kept.{draws}
use Rattle.rdb_turn.proofs.steps.draw.Goals as goal

pub fetch_add-requires : goal.fetch_add-requires
fetch_add-requires g c = (search rules, search rules, draws g.T.Chronicle _ _ _ _ _ c.requires.away.0 c.requires.away.1)
