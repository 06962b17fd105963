use Rattle.std.proofs.Common.{append_assoc, rules}
use Rattle.rdb_runner.specs.AuditFile.{counts_line}
use Rattle.rdb_runner.proofs.telling.line_of_counts.Goals as goal

pub returns : goal.returns
unfolding counts_line
returns c = simp append_assoc (search rules)
