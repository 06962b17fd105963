use Rattle.std.proofs.Common.{Option, IfSome, sym, ◌∙◌, subst}
use Rattle.rdb_script.specs.declared.statement.Statement.{Statement}
use Rattle.rdb_script.specs.Statements.{IsStatement}
use Rattle.rdb_script.proofs.ScriptLemmas.{steps, only_step}
use Rattle.rdb_script.proofs.script_reader.take_line.Goals as goal

pub returns-clause-took : goal.returns-clause-took
returns-clause-took c =
    let found = subst (λ (o : Option Statement). IfSome o (λ says. IsStatement c.args.schema.now c.args.progress.now.names c.args.line.now says)) c.in-Some.is c.in_ok-said.ensures.found in
    steps c.args.schema.now c.args.progress.now c.take.new.self c.args.line.now c.in-Some.said found (sym c.may_stand.ensures ∙ c.if-not-may_stand.false) c.in_ok-take.ensures

pub returns-clause-only : goal.returns-clause-only
returns-clause-only c = only_step c.args.schema.now c.args.progress.now c.take.new.self c.args.line.now c.in-Some.said (λ says is. sym c.in-Some.is ∙ c.in_ok-said.ensures.exact says is) c.in_ok-take.ensures
