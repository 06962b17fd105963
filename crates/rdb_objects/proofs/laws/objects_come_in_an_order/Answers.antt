use Rattle.rdb_objects.proofs.SortLemmas.{come_in_order}
use Rattle.rdb_objects.proofs.laws.objects_come_in_an_order.Goals as goal

pub returns : goal.returns
returns c = come_in_order
