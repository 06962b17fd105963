use Rattle.std.proofs.Common.{◌≡◌, ◌<◌, List, length, get_or, subst, sym, ap, ◌∙◌, arith}
use Rattle.rdb_script.specs.declared.unit.ScriptLine.{ScriptLine}
use Rattle.rdb_runner.specs.Runs.{CanRun}
use Rattle.rdb_runner.proofs.PlainFits.{step_fits}
use Rattle.rdb_runner.proofs.PlainRunLemmas.{answered_more, few_made, each_at}
use Rattle.rdb_runner.proofs.plain_run.answered.Goals as goal

pub next_id-next-requires : goal.next_id-next-requires
next_id-next-requires c = let few = few_made c.args.lines.now c.loop-line.line-index in omega (arith, c.loop-line.invariant.next_id, c.requires.few)

pub apply-requires-clause-fits : goal.apply-requires-clause-fits
apply-requires-clause-fits c =
    let lines = c.args.lines.now in
    let i = c.loop-line.line-index in
    let line = c.line-item.result in
    let within : i < length lines = subst (λ (xs : List ScriptLine). i < length xs) c.as_slice-line-items.ensures c.loop-line-test.true in
    let at : line ≡ get_or lines i line = c.line-item.is ∙ ap (λ (xs : List ScriptLine). get_or xs i line) c.as_slice-line-items.ensures in
    let can : CanRun c.args.schema.now line = subst (CanRun c.args.schema.now) (sym at) (each_at c.args.schema.now lines i line c.requires.each within) in
    rw c.in_ok-op.ensures (step_fits c.args.schema.now c.requires.plain c.loop-line.next line.op can)

pub loop-line-preserved : goal.loop-line-preserved
loop-line-preserved c =
    let lines = c.args.lines.now in
    let i = c.loop-line.line-index in
    let line = c.line-item.result in
    let within : i < length lines = subst (λ (xs : List ScriptLine). i < length xs) c.as_slice-line-items.ensures c.loop-line-test.true in
    let at : line ≡ get_or lines i line = c.line-item.is ∙ ap (λ (xs : List ScriptLine). get_or xs i line) c.as_slice-line-items.ensures in
    let can : CanRun c.args.schema.now line = subst (CanRun c.args.schema.now) (sym at) (each_at c.args.schema.now lines i line c.requires.each within) in
    rw (c.next_id-next.ensures, c.in_ok-push.ensures.ok, c.in_ok-reply.ensures.next, c.in_ok-reply.ensures.reply, c.in_ok-op.ensures)
    (answered_more c.order_is_total.ensures.rows_total c.args.schema.now lines i c.loop-line.done c.loop-line.db c.loop-line.next line c.requires.plain within at can c.loop-line.invariant)
