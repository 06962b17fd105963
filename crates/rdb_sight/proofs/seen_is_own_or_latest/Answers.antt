use Rattle.rdb_sight.proofs.LatestLemmas.{seen_there, seen_found, seen_none}
use Rattle.rdb_sight.proofs.seen_is_own_or_latest.Goals as goal

pub returns : goal.returns
returns c = record { there = seen_there; found = seen_found; none = seen_none }
