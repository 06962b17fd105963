use Rattle.rdb_schema.specs.Indexes.{indexes_of}
use Rattle.rdb_schema.specs.Types.{types_of}
use Rattle.rdb_store.proofs.DeclaredIndexes.{AreMade}
use Rattle.rdb_store.proofs.class_store.keyed_indexes.Given as goal

abbrev pub invariant-loop-place : goal.invariant-loop-place
invariant-loop-place l = AreMade l.class (types_of l.schema l.class) (indexes_of l.schema l.class) l.place l.indexes
