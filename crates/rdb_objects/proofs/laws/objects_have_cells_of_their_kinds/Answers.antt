use Rattle.rdb_objects.proofs.LawLemmas.{object_cells}
use Rattle.rdb_objects.proofs.laws.objects_have_cells_of_their_kinds.Goals as goal

pub returns : goal.returns
returns c = object_cells
