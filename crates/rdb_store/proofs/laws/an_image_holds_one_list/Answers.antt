use Rattle.rdb_store.specs.Shapes.{schema_class}
use Rattle.rdb_store.proofs.OneList.{holds_one}
use Rattle.rdb_store.proofs.laws.an_image_holds_one_list.Goals as goal

pub returns : goal.returns
returns c schema class = holds_one (schema_class schema class)
