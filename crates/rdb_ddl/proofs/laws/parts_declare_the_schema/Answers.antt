use Rattle.rdb_schema.proofs.Declaring.{declares}
use Rattle.rdb_ddl.proofs.laws.parts_declare_the_schema.Goals as goal

pub returns : goal.returns
returns c = declares
