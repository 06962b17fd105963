use Rattle.std.proofs.Common.{◌≡◌, ◌≤◌, count_by, take}
use Rattle.rdb_journal.specs.Report.{is_handled}
use Rattle.rdb_journal.proofs.summary.handled.Given as goal

abbrev pub invariant-loop-entry : goal.invariant-loop-entry
invariant-loop-entry l = (l.count ≡ count_by is_handled (take l.entry-index l.journal)) × (l.count ≤ l.entry-index)
