use Rattle.rdb_objects.proofs.OneTree.{holds_one}
use Rattle.rdb_objects.proofs.laws.a_class_holds_one_list.Goals as goal

pub returns : goal.returns
returns c = holds_one
