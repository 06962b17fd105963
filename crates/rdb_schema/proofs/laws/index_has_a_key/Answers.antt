use Rattle.rdb_schema.proofs.SchemaLemmas.{has_key}
use Rattle.rdb_schema.proofs.laws.index_has_a_key.Goals as goal

pub returns : goal.returns
returns c = has_key
