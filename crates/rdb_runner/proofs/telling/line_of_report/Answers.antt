use Rattle.std.proofs.Common.{append_assoc, rules}
use Rattle.rdb_runner.specs.AuditFile.{bad_line}
use Rattle.rdb_runner.proofs.telling.line_of_report.Goals as goal

pub returns : goal.returns
unfolding bad_line
returns c = simp append_assoc (search rules)
