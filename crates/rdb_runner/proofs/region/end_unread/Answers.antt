use Rattle.std.proofs.Common.{refl, rules}
use Rattle.rdb_runner.specs.Command.{IsBuilt, task_of}
use Rattle.rdb_runner.specs.CommandLine.{command_of}
use Rattle.rdb_runner.proofs.CommandLemmas.{unread_ends, is_true}
use Rattle.rdb_runner.proofs.region.end_unread.Goals as goal

pub returns-then-is_built-clause-ends : goal.returns-then-is_built-clause-ends
returns-then-is_built-clause-ends g c = unread_ends _ _ _ _ c.number.ensures (refl, refl) (refl, refl)

pub returns-then-is_built-clause-memory : goal.returns-then-is_built-clause-memory
returns-then-is_built-clause-memory g c = λ wants. is_true c.is_built.result (IsBuilt (task_of (command_of c.args.line.now))) c.is_built.ensures.yes (search rules)
