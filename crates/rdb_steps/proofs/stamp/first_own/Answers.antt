use Rattle.rdb_steps.proofs.OrderedLemmas.{no_first}
use Rattle.rdb_steps.proofs.stamp.first_own.Goals as goal

pub unreachable-requires : goal.unreachable-requires
unreachable-requires c = c.requires (no_first c.args.seat.now.hand.own.items c.in-None.ensures)
