use Rattle.rdb_rows.proofs.VersionLemmas.{version_rests, version_once}
use Rattle.rdb_rows.proofs.laws.versions_rest_on_their_cells.Goals as goal

pub returns-clause-frame : goal.returns-clause-frame
returns-clause-frame c before after at v cells same holds = version_rests before after at v cells same holds

pub returns-clause-once : goal.returns-clause-once
returns-clause-once c image at v cells holds = version_once image at v cells holds
