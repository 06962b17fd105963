use Rattle.std.proofs.Common.{rules, bit_or}
use Rattle.rdb_turn.proofs.Kept.{signals}
use Rattle.rdb_turn.proofs.bells.announce.Goals as goal

pub fetch_or-requires : goal.fetch_or-requires
fetch_or-requires g c = (search rules, search rules, signals g.T.Chronicle _ _ _ _ _ _ (λ n. bit_or n 1) c.requires.bell.0)
