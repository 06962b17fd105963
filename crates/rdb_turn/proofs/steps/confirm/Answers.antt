use Rattle.std.proofs.Common.{rules}
use Rattle.rdb_turn.proofs.Kept.{confirms}
use Rattle.rdb_turn.proofs.steps.confirm.Goals as goal

pub load-requires : goal.load-requires
load-requires g c =
    (search rules, search rules, confirms g.T.Chronicle _ _ _ _ _ g.met.T.Chronicle.later_again c.requires.boarded c.requires.may.0 c.requires.may.1 c.requires.may.2)
