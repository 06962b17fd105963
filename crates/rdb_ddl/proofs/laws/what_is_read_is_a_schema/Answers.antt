use Rattle.rdb_ddl.proofs.RoundTrip.{is_schema}
use Rattle.rdb_ddl.proofs.laws.what_is_read_is_a_schema.Goals as goal

pub returns : goal.returns
returns c = is_schema
