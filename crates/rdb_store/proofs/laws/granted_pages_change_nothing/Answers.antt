use Rattle.rdb_store.specs.Shapes.{schema_class}
use Rattle.rdb_store.proofs.Framing.{rests_on_grants}
use Rattle.rdb_store.proofs.LawfulClasses.{schema_lawful}
use Rattle.rdb_store.proofs.laws.granted_pages_change_nothing.Goals as goal

pub returns : goal.returns
returns c schema class is served within = rests_on_grants (schema_class schema class) (schema_lawful schema class is served within)
