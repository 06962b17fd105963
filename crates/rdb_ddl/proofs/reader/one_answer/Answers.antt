use Rattle.rdb_ddl.proofs.OneAnswer.{one_schema, not_both}
use Rattle.rdb_ddl.proofs.reader.one_answer.Goals as goal

pub returns-clause-one_schema : goal.returns-clause-one_schema
returns-clause-one_schema c = one_schema

pub returns-clause-not_both : goal.returns-clause-not_both
returns-clause-not_both c = not_both
