use Rattle.std.proofs.Common.{[], ◌∷◌}
use Rattle.rdb_model.proofs.SerialReads.{run_append}
use Rattle.rdb_history.proofs.ObjectLemmas.{row_more}
use Rattle.rdb_history.proofs.StoryLemmas.{after_more}
use Rattle.rdb_history.proofs.laws.stories.story_goes_on.Goals as goal

pub returns : goal.returns
returns c = record {
  run = λ schema db next done d runs. run_append schema done (d ∷ []) db next runs;
  after = after_more;
  row = row_more;
}
