use Rattle.std.proofs.Common.{rules}
use Rattle.rdb_turn.proofs.Kept.{cuts}
use Rattle.rdb_turn.proofs.steps.cut_off.Goals as goal

pub split_seat-requires : goal.split_seat-requires
split_seat-requires g c = (search rules, search rules, cuts g.T.Chronicle _ _ _ _ c.requires.away c.requires.owns)
