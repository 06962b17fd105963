use Rattle.rdb_objects.proofs.LawLemmas.{of_one}
use Rattle.rdb_objects.proofs.laws.a_version_is_of_one_object.Goals as goal

pub returns : goal.returns
returns c = of_one
