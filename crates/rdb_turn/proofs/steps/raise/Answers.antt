use Rattle.std.proofs.Common.{rules}
use Rattle.rdb_turn.proofs.Kept.{raises}
use Rattle.rdb_turn.proofs.steps.raise.Goals as goal

pub store-requires : goal.store-requires
store-requires g c = (search rules, search rules, raises g.T.Chronicle _ _ _ _ _ g.met.T.Chronicle.later_again c.requires.boarded _ c.requires.may)
