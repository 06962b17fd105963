use Rattle.rdb_history.proofs.StoryLemmas.{anew_more, anew_beside, made_more}
use Rattle.rdb_history.proofs.laws.stories.objects_are_made_anew.Goals as goal

pub returns : goal.returns
returns c = record { more = anew_more; others = anew_beside; entry = made_more }
