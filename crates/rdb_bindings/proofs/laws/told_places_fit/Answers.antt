-- The key of a row that fits, fits.
use Rattle.rdb_bindings.proofs.AnswerFits.{places_fit}
use Rattle.rdb_bindings.proofs.laws.told_places_fit.Goals as goal

pub returns : goal.returns
returns c = places_fit
