use Rattle.rdb_answers.proofs.CallLemmas.{finds_no_latch}
use Rattle.rdb_answers.proofs.sessions.begin_now.Goals as goal

pub open_transaction-requires-clause-latches : goal.open_transaction-requires-clause-latches
open_transaction-requires-clause-latches c = finds_no_latch c.args.t.now c.args.c c.args.kind c.requires.sound c.sound.ensures c.requires.free
