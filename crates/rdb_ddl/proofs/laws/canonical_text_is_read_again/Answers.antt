use Rattle.rdb_ddl.proofs.RoundTrip.{read_again}
use Rattle.rdb_ddl.proofs.laws.canonical_text_is_read_again.Goals as goal

pub returns : goal.returns
returns c = read_again
