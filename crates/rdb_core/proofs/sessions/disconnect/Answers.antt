use Rattle.rdb_core.proofs.SessionLemmas.{disconnect_kept, disconnect_whole}
use Rattle.rdb_core.proofs.sessions.disconnect.Goals as goal

pub returns-clause-kept : goal.returns-clause-kept
returns-clause-kept g c =
    disconnect_kept c.args.state.now c.disconnect.new.t c.args.c c.requires.whole c.sound.ensures c.requires.idle c.disconnect.result c.disconnect.ensures.answer

pub returns-clause-whole : goal.returns-clause-whole
returns-clause-whole g c =
    disconnect_whole c.args.state.now c.disconnect.new.t c.args.c c.requires.whole c.sound.ensures c.requires.idle c.disconnect.result c.disconnect.ensures.answer
    c.requires.kept c.disconnect.ensures.sound
