use Rattle.std.proofs.Common.{rules}
use Rattle.rdb_turn.proofs.Kept.{splits}
use Rattle.rdb_turn.proofs.steps.halve.Goals as goal

pub split_seat-requires : goal.split_seat-requires
split_seat-requires g c = (search rules, search rules, splits g.T.Chronicle _ _ _ _ c.requires.away)
