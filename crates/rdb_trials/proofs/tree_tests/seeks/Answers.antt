use Rattle.rdb_trials.proofs.TreePlaces.{fits_any}
use Rattle.rdb_trials.proofs.tree_tests.seeks.Goals as goal

pub seek-up-requires-clause-place : goal.seek-up-requires-clause-place
seek-up-requires-clause-place g c = fits_any c.args.keys.now.rows c.args.place.now

pub seek-down-requires-clause-place : goal.seek-down-requires-clause-place
seek-down-requires-clause-place g c = fits_any c.args.keys.now.rows c.args.place.now
