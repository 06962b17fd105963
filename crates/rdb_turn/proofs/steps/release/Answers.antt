use Rattle.std.proofs.Common.{rules}
use Rattle.rdb_turn.proofs.Kept.{releases}
use Rattle.rdb_turn.proofs.steps.release.Goals as goal

pub store-requires : goal.store-requires
store-requires g c = (search rules, search rules, releases g.T.Chronicle _ _ _ _ _ _ c.requires.table.2 c.requires.may)
