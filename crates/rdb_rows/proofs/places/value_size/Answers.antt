use Rattle.rdb_rows.proofs.PlaceLemmas.{group_sized}
use Rattle.rdb_rows.proofs.places.value_size.Goals as goal

pub returns-in-Group : goal.returns-in-Group
returns-in-Group c = group_sized c.group_size.result c.args.ty.now c.in-Group.types c.in-Group.is c.group_size.ensures
