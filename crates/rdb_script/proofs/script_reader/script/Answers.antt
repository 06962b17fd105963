use Rattle.std.proofs.Common.{◌≡◌, true, false, refl, sym, ap, ◌∙◌, subst, arith}
use Rattle.std.specs.Bool.{OnTrue}
use Rattle.rdb_script.specs.declared.progress.Progress.{Progress}
use Rattle.rdb_script.specs.Lines.{lines}
use Rattle.rdb_script.specs.Scripts.{Runs, IsStep}
use Rattle.rdb_script.proofs.ScriptLemmas.{HasRun, IsOnlyStep, begins, goes_on, runs_on, refused_at, not_ended, is_script, took_step, only_took}
use Rattle.rdb_script.proofs.script_reader.script.Goals as goal

pub loop-line-init : goal.loop-line-init
loop-line-init c = record {
  run = subst (λ (p : Progress). HasRun c.args.schema.now c.args.text.now c.args.text.now p 1) (sym c.new-progress.ensures) (begins c.args.schema.now c.args.text.now);
  on = λ end h. subst (λ (p : Progress). Runs c.args.schema.now p (lines c.args.text.now) end) (sym c.new-progress.ensures) h;
  few = omega arith;
}

pub loop-line-preserved : goal.loop-line-preserved
loop-line-preserved c = record {
  run = goes_on c.args.schema.now c.args.text.now c.loop-line.rest.now c.in-Some.line.now c.in-Some.behind.now c.loop-line.progress c.take_line.new.progress c.loop-line.line_number c.loop-line.invariant.run c.in-Some.ensures.some (took_step c.args.schema.now c.loop-line.progress c.take_line.new.progress c.in-Some.line.now c.in_ok-took.took c.if-not-took.false c.in_ok-took.ensures.took);
  on = runs_on c.args.schema.now c.args.text.now c.loop-line.rest.now c.in-Some.line.now c.in-Some.behind.now c.loop-line.progress c.take_line.new.progress c.loop-line.invariant.on c.in-Some.ensures.some (only_took c.args.schema.now c.loop-line.progress c.take_line.new.progress c.in-Some.line.now c.in_ok-took.took true c.if-not-took.false c.in_ok-took.ensures.only);
  few = let few = c.loop-line.invariant.few in let less = c.in-Some.ensures.less in omega arith;
}

pub returns-then-not-took-clause-fault : goal.returns-then-not-took-clause-fault
returns-then-not-took-clause-fault c = refused_at c.args.schema.now c.args.text.now c.loop-line.rest.now c.in-Some.line.now c.in-Some.behind.now c.loop-line.progress c.take_line.new.progress c.loop-line.line_number c.loop-line.invariant.run c.in-Some.ensures.some (only_took c.args.schema.now c.loop-line.progress c.take_line.new.progress c.in-Some.line.now c.in_ok-took.took false c.if-not-took.true c.in_ok-took.ensures.only)

pub returns-then-not-is_idle-clause-fault : goal.returns-then-not-is_idle-clause-fault
returns-then-not-is_idle-clause-fault c = not_ended c.args.schema.now c.args.text.now c.loop-line.rest.now c.loop-line.progress c.loop-line.line_number c.loop-line.invariant.run c.in_default.ensures.none (sym c.is_idle.ensures ∙ c.if-not-is_idle.true)

pub returns-clause-read : goal.returns-clause-read
returns-clause-read c = is_script c.args.schema.now c.args.text.now c.loop-line.rest.now c.loop-line.progress c.loop-line.line_number c.loop-line.invariant.run c.in_default.ensures.none (sym c.is_idle.ensures ∙ c.if-not-is_idle.false)
