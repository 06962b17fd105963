use Rattle.std.proofs.Common.{Some, true, false, sym, ap, ◌∙◌}
use Rattle.rdb_script.specs.declared.statement.Statement.TheVariants as saying
use Rattle.rdb_script.proofs.CallLemmas.{none_is}
use Rattle.rdb_script.proofs.FoundLemmas.{some_is}
use Rattle.rdb_script.proofs.StatementLemmas.{as_said}
use Rattle.rdb_script.proofs.statement_reader.said.Goals as goal

pub returns-in-Some-clause-exact : goal.returns-in-Some-clause-exact
returns-in-Some-clause-exact c = λ says h.
    let a = as_said c.args.schema.now c.args.names.now c.args.line.now says false true (sym c.is_silent.ensures ∙ c.if-is_silent.false) (sym c.is_assignment.ensures ∙ c.if-is_assignment.true) h in
    ap (λ l. Some (saying.Operation l)) (some_is c.in-Some.operation a.0 (sym c.in-Some.is ∙ c.in_ok-operation.ensures.exact a.0 a.1)) ∙ ap Some (sym a.2)

pub returns-in-None-clause-exact : goal.returns-in-None-clause-exact
returns-in-None-clause-exact c = λ says h.
    let a = as_said c.args.schema.now c.args.names.now c.args.line.now says false true (sym c.is_silent.ensures ∙ c.if-is_silent.false) (sym c.is_assignment.ensures ∙ c.if-is_assignment.true) h in
    absurd (none_is a.0 (sym c.in-None.is ∙ c.in_ok-operation.ensures.exact a.0 a.1))
