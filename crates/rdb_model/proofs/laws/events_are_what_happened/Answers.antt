-- By what is filtered.
use Rattle.rdb_model.proofs.EventIds.{ids_happened, happened_ids}
use Rattle.rdb_model.proofs.laws.events_are_what_happened.Goals as goal

pub returns : goal.returns
returns c = λ kind before after id. (ids_happened kind before after id, happened_ids kind before after id)
