use Rattle.std.proofs.Common.{rules}
use Rattle.rdb_turn.proofs.Kept.{joins}
use Rattle.rdb_turn.proofs.steps.unite.Goals as goal

pub join_seat-requires : goal.join_seat-requires
join_seat-requires g c = (search rules, search rules, search rules, search rules, joins g.T.Chronicle _ _ _ _ _ _ c.requires.away.0 c.requires.away.1)
