use Rattle.rdb_runner.proofs.CommandLemmas.{words_end}
use Rattle.rdb_runner.proofs.region.end_tested.Goals as goal

pub read-requires : goal.read-requires
read-requires g c = (_, c.requires.meant)

pub returns-in-Ok : goal.returns-in-Ok
returns-in-Ok g c = words_end _ _ _ _ _ c.in-Ok.ensures.meant c.end_command.ensures.ends c.end_command.ensures.memory

pub returns-in-Err : goal.returns-in-Err
returns-in-Err g c = words_end _ _ _ _ _ c.requires.meant c.end_unread.ensures.ends c.end_unread.ensures.memory
