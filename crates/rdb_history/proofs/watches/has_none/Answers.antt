use Rattle.rdb_history.specs.Watches.{pair_of}
use Rattle.rdb_history.proofs.NoteLemmas.{none_up_to}
use Rattle.rdb_history.proofs.watches.has_none.Goals as goal

pub returns-in-Some : goal.returns-in-Some
returns-in-Some c = none_up_to c.args.class c.args.kind c.args.journal.now.entries (pair_of c.args.place) (pair_of c.in-Some.next) c.args.at c.in-Some.ensures.some
