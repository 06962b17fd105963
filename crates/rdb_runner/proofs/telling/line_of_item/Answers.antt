use Rattle.std.proofs.Common.{append_assoc, rules}
use Rattle.rdb_runner.specs.Parts.{schedule_line}
use Rattle.rdb_runner.proofs.telling.line_of_item.Goals as goal

pub returns : goal.returns
unfolding schedule_line
returns c = simp append_assoc (search rules)
