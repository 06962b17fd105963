use Rattle.std.proofs.Common.{length}
use Rattle.rdb_store.proofs.ClassNumbers.{many_shapes, schema_class_shape}
use Rattle.rdb_store.proofs.laws.a_store_keeps_the_classes_of_its_schema.Goals as goal

pub returns-clause-many : goal.returns-clause-many
returns-clause-many c schema = many_shapes schema 0 (length schema.classes)

pub returns-clause-each : goal.returns-clause-each
returns-clause-each c schema class below = schema_class_shape schema class below
