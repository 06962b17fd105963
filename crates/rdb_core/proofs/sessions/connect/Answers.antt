use Rattle.rdb_core.proofs.ComesLemmas.{connect_kept, connect_whole}
use Rattle.rdb_core.proofs.sessions.connect.Goals as goal

pub returns-clause-kept : goal.returns-clause-kept
returns-clause-kept g c = connect_kept c.args.state.now c.connect.new.self c.requires.whole c.connect.result c.connect.ensures.ok c.connect.ensures.err

pub returns-clause-whole : goal.returns-clause-whole
returns-clause-whole g c = connect_whole c.args.state.now c.connect.new.self c.requires.whole c.connect.result c.connect.ensures.ok c.connect.ensures.err c.connect.ensures.sound
