use Rattle.rdb_schema.proofs.SchemaLemmas.{few_fields, few_group_fields, few_indexes_there, few_indexes}
use Rattle.rdb_schema.proofs.laws.schema_is_small.Goals as goal

pub returns-clause-fields : goal.returns-clause-fields
returns-clause-fields c = few_fields

pub returns-clause-group_fields : goal.returns-clause-group_fields
returns-clause-group_fields c = few_group_fields

pub returns-clause-class_indexes : goal.returns-clause-class_indexes
returns-clause-class_indexes c = few_indexes_there

pub returns-clause-indexes : goal.returns-clause-indexes
returns-clause-indexes c = few_indexes
