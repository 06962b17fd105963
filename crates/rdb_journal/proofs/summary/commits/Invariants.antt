use Rattle.std.proofs.Common.{◌≡◌, ◌≤◌, count_by, take}
use Rattle.rdb_journal.specs.Report.{is_commit}
use Rattle.rdb_journal.proofs.summary.commits.Given as goal

abbrev pub invariant-loop-entry : goal.invariant-loop-entry
invariant-loop-entry l = (l.count ≡ count_by is_commit (take l.entry-index l.journal)) × (l.count ≤ l.entry-index)
