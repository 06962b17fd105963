use Rattle.std.proofs.Common.{refl}
use Rattle.rdb_runner.proofs.CommandLemmas.{no_words_end}
use Rattle.rdb_runner.proofs.region.end_words.Goals as goal

pub returns-in-None : goal.returns-in-None
returns-in-None g c = no_words_end _ _ _ _ c.in-None.ensures.none (refl, refl) c.answer.ensures
