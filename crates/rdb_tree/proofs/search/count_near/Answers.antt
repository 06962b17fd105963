use Rattle.rdb_tree.proofs.SearchLemmas.{none_near, all_near}
use Rattle.rdb_tree.proofs.search.count_near.Goals as goal

pub returns-in-Start-clause-count : goal.returns-in-Start-clause-count
returns-in-Start-clause-count g c = rw c.in-Start.is (none_near c.args.versions.now)

pub returns-in-End-clause-count : goal.returns-in-End-clause-count
returns-in-End-clause-count g c = rw c.in-End.is (all_near c.args.versions.now)
