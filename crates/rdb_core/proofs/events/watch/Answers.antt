use Rattle.rdb_core.proofs.EventLemmas.{watch_kept, watch_whole}
use Rattle.rdb_core.proofs.events.watch.Goals as goal

pub returns-clause-kept : goal.returns-clause-kept
returns-clause-kept g c =
    watch_kept c.args.state.now c.watch.new.t c.args.c c.args.class c.args.event c.requires.whole c.requires.idle c.watch.result c.watch.ensures.answer

pub returns-clause-whole : goal.returns-clause-whole
returns-clause-whole g c =
    watch_whole c.args.state.now c.watch.new.t c.args.c c.args.class c.args.event c.requires.whole c.requires.idle c.watch.result c.watch.ensures.answer c.requires.kept
    c.watch.ensures.sound
