use Rattle.rdb_rows.proofs.SpotLemmas.{skip_stand}
use Rattle.rdb_rows.proofs.spot.skip.Goals as goal

pub returns-clause-stand : goal.returns-clause-stand
returns-clause-stand c image bytes within stand = skip_stand image c.args.spot c.args.many bytes within stand
