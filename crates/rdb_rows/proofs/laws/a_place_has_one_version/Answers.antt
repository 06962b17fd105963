use Rattle.rdb_rows.proofs.VersionLemmas.{one_version}
use Rattle.rdb_rows.proofs.laws.a_place_has_one_version.Goals as goal

pub returns : goal.returns
returns c image at v w cells others first second = one_version image at v w cells others first second
