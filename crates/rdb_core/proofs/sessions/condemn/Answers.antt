use Rattle.rdb_core.proofs.SessionLemmas.{condemn_kept, condemn_whole}
use Rattle.rdb_core.proofs.sessions.condemn.Goals as goal

pub returns-clause-kept : goal.returns-clause-kept
returns-clause-kept g c = condemn_kept c.args.state.now c.condemn.new.t c.args.by c.args.d c.requires.whole c.condemn.result c.condemn.ensures.answer

pub returns-clause-whole : goal.returns-clause-whole
returns-clause-whole g c =
    condemn_whole c.args.state.now c.condemn.new.t c.args.by c.args.d c.requires.whole c.condemn.result c.condemn.ensures.answer c.condemn.ensures.sound
