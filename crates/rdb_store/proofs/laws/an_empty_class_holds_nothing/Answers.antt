use Rattle.rdb_store.specs.Shapes.{schema_class}
use Rattle.rdb_store.proofs.Starting.{starts_empty}
use Rattle.rdb_store.proofs.LawfulClasses.{schema_lawful}
use Rattle.rdb_store.proofs.laws.an_empty_class_holds_nothing.Goals as goal

pub returns : goal.returns
returns c schema class is served within = starts_empty (schema_class schema class) (schema_lawful schema class is served within)
