use Rattle.std.proofs.Common.{sym, ap}
use Rattle.rdb_rtree.specs.Trees.{root_entries}
use Rattle.rdb_rtree.proofs.LowerLemmas.{least_above}
use Rattle.rdb_rtree.proofs.remove.least_of_root.Goals as goal

pub returns-then-level-eq0 : goal.returns-then-level-eq0
returns-then-level-eq0 c = sym (ap root_entries c.if-level-eq0.true)

pub returns-else-level-eq0 : goal.returns-else-level-eq0
returns-else-level-eq0 c = least_above c.args.level c.if-level-eq0.false
