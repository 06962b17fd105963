use Rattle.std.proofs.Common.{append_assoc, rules}
use Rattle.rdb_runner.specs.AuditFile.{illegal_line}
use Rattle.rdb_runner.proofs.telling.line_of_entry.Goals as goal

pub returns : goal.returns
unfolding illegal_line
returns c = simp append_assoc (rw (← c.in_ok-words.ensures) (search rules))
