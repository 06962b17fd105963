use Rattle.std.proofs.Common.{append_assoc, rules}
use Rattle.rdb_runner.specs.SchemaFile.{fault_line}
use Rattle.rdb_runner.proofs.telling.line_of_fault.Goals as goal

pub returns : goal.returns
unfolding fault_line
returns c = simp append_assoc (rw (← c.cause_word-cause.ensures) (search rules))
