use Rattle.rdb_core.proofs.CommitLemmas.{commit_call_kept, commit_call_whole}
use Rattle.rdb_core.proofs.closing.commit.Goals as goal

pub returns-clause-kept : goal.returns-clause-kept
returns-clause-kept g c =
    commit_call_kept c.args.state.now c.commit.new.t c.args.c c.requires.whole c.sound.ensures c.requires.running c.commit.result c.commit.ensures.answer

pub returns-clause-whole : goal.returns-clause-whole
returns-clause-whole g c =
    commit_call_whole c.args.state.now c.commit.new.t c.args.c c.requires.whole c.sound.ensures c.requires.running c.commit.result c.commit.ensures.answer
    c.requires.kept c.commit.ensures.sound
