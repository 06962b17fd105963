use Rattle.rdb_serial.proofs.StillLemmas.{unchanged}
use Rattle.rdb_serial.proofs.openings.an_unchanged_history_stays_serial.Goals as goal

pub returns : goal.returns
returns c = unchanged
