use Rattle.rdb_steps.proofs.PlaceCounts.{has_places}
use Rattle.rdb_steps.proofs.plan_laws.a_place_for_each_cell_is_enough.Goals as goal

pub returns : goal.returns
returns call = λ schema memory hand cells. has_places schema memory cells hand
