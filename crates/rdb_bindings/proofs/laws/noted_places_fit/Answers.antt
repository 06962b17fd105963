-- By the line that was told.
use Rattle.rdb_bindings.proofs.NotedFits.{places_none, places_noted}
use Rattle.rdb_bindings.proofs.laws.noted_places_fit.Goals as goal

pub returns : goal.returns
returns c = record { none = places_none; noted = places_noted }
