use Rattle.rdb_store.specs.Shapes.{schema_class}
use Rattle.rdb_store.proofs.Stamping.{rests_on_stamps}
use Rattle.rdb_store.proofs.LawfulClasses.{schema_lawful}
use Rattle.rdb_store.proofs.laws.stamps_change_the_stamp.Goals as goal

pub returns : goal.returns
returns c schema class is served within = rests_on_stamps (schema_class schema class) (schema_lawful schema class is served within)
