use Rattle.rdb_history.proofs.WriteLemmas.{unwritten_row}
use Rattle.rdb_history.proofs.laws.writes.unwritten_objects_keep_their_rows.Goals as goal

pub returns : goal.returns
returns c = unwritten_row
