use Rattle.std.proofs.Common.{refl}
use Rattle.rdb_core.proofs.SessionLemmas.{begin_kept, begin_whole}
use Rattle.rdb_core.proofs.sessions.begin.Goals as goal

pub returns-clause-kept : goal.returns-clause-kept
returns-clause-kept g c =
    begin_kept c.args.state.now c.begin.new.t c.args.c c.args.kind c.requires.whole c.sound.ensures c.requires.idle c.begin.result c.begin.ensures.answer

pub returns-clause-whole : goal.returns-clause-whole
returns-clause-whole g c =
    begin_whole c.args.state.now c.begin.new.t c.args.c c.args.kind c.requires.whole c.sound.ensures c.requires.idle c.begin.result c.begin.ensures.answer c.requires.kept c.begin.ensures.sound
