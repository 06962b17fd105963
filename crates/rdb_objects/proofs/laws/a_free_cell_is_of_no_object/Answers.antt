use Rattle.rdb_objects.proofs.LawLemmas.{free_written}
use Rattle.rdb_objects.proofs.laws.a_free_cell_is_of_no_object.Goals as goal

pub returns : goal.returns
returns c = free_written
