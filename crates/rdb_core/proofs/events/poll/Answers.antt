use Rattle.rdb_core.proofs.EventLemmas.{poll_kept, poll_whole}
use Rattle.rdb_core.proofs.events.poll.Goals as goal

pub returns-clause-kept : goal.returns-clause-kept
returns-clause-kept g c =
    poll_kept c.args.state.now c.poll.new.t c.args.c c.args.class c.args.event c.requires.whole c.requires.idle c.requires.watched c.poll.result c.poll.ensures.answer

pub returns-clause-whole : goal.returns-clause-whole
returns-clause-whole g c =
    poll_whole c.args.state.now c.poll.new.t c.args.c c.args.class c.args.event c.requires.whole c.requires.idle c.requires.watched c.poll.result c.poll.ensures.answer
    c.requires.kept c.poll.ensures.sound
