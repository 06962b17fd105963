use Rattle.std.proofs.Common.{sym, ◌∙◌}
use Rattle.rdb_script.proofs.CallLemmas.{none_is, same_origin}
use Rattle.rdb_script.proofs.operation_reader.keyed.Goals as goal

pub returns-in_default-clause-exact : goal.returns-in_default-clause-exact
returns-in_default-clause-exact c = λ key h. absurd (none_is key (sym c.in_default.is ∙ c.in_ok-key.ensures.exact key h))

pub returns-clause-exact : goal.returns-clause-exact
returns-clause-exact c = λ key h. same_origin c.args.id c.args.up c.in-Some.key key (sym c.in-Some.is ∙ c.in_ok-key.ensures.exact key h)
