use Rattle.rdb_rows.proofs.VersionPlans.{others_stay}
use Rattle.rdb_rows.proofs.laws.a_put_version_keeps_the_others.Goals as goal

pub returns : goal.returns
returns c before after at place v w cells puts holds = others_stay before after at place v w cells puts holds
