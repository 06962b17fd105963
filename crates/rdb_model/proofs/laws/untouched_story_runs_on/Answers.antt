-- Commit by commit, object by object.
use Rattle.rdb_model.proofs.Validating.{still_runs}
use Rattle.rdb_model.proofs.laws.untouched_story_runs_on.Goals as goal

pub returns : goal.returns
returns c = still_runs
