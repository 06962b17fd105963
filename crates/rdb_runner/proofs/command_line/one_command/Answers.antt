use Rattle.rdb_runner.proofs.CommandLineMeaning.{one_line}
use Rattle.rdb_runner.proofs.command_line.one_command.Goals as goal

pub returns : goal.returns
returns c = one_line
