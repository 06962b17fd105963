use Rattle.rdb_sight.specs.Versions.{counted}
use Rattle.rdb_sight.proofs.SightLemmas.{seen_more}
use Rattle.rdb_sight.proofs.seen_goes_on.Goals as goal

pub returns : goal.returns
returns c = λ marks snapshot own chain v. seen_more (λ w. counted marks w.stamp) snapshot own chain v
