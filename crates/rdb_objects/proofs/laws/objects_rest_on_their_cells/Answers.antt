use Rattle.rdb_objects.proofs.LawLemmas.{rests}
use Rattle.rdb_objects.proofs.laws.objects_rest_on_their_cells.Goals as goal

pub returns : goal.returns
returns c = rests
