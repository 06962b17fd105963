use Rattle.std.proofs.Common.{rules, ◌+◌, ◌%◌, ◌^◌}
use Rattle.rdb_turn.proofs.Kept.{signals}
use Rattle.rdb_turn.proofs.bells.ring.Goals as goal

pub fetch_add-requires : goal.fetch_add-requires
fetch_add-requires g c = (search rules, search rules, signals g.T.Chronicle _ _ _ _ _ _ (λ n. (n + 1) % 2 ^ 64) c.requires.bell.0)
