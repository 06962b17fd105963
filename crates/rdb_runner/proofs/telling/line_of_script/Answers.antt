use Rattle.std.proofs.Common.{append_assoc, rules}
use Rattle.rdb_runner.specs.Parts.{script_line}
use Rattle.rdb_runner.proofs.telling.line_of_script.Goals as goal

pub returns : goal.returns
unfolding script_line
returns c = simp append_assoc (search rules)
