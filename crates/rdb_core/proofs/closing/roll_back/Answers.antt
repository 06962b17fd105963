use Rattle.rdb_core.proofs.ClosingLemmas.{roll_back_kept, roll_back_whole}
use Rattle.rdb_core.proofs.closing.roll_back.Goals as goal

pub returns-clause-kept : goal.returns-clause-kept
returns-clause-kept g c =
    roll_back_kept c.args.state.now c.roll_back.new.t c.args.c c.requires.whole c.sound.ensures c.requires.running c.roll_back.result c.roll_back.ensures.answer

pub returns-clause-whole : goal.returns-clause-whole
returns-clause-whole g c =
    roll_back_whole c.args.state.now c.roll_back.new.t c.args.c c.requires.whole c.sound.ensures c.requires.running c.roll_back.result c.roll_back.ensures.answer
    c.requires.kept c.roll_back.ensures.sound
