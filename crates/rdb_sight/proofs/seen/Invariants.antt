use Rattle.std.proofs.Common.{Some, take}
use Rattle.rdb_sight.specs.Sight.{seen}
use Rattle.rdb_sight.proofs.BestLemmas.{IsBest}
use Rattle.rdb_sight.proofs.seen.Given as goal

-- the best so far is what is seen of the versions before the place
abbrev pub invariant-loop-place : goal.invariant-loop-place
invariant-loop-place l = IsBest l.versions (seen (λ v. v.stamp) l.snapshot (Some l.tx) (take l.place l.versions)) l.best
