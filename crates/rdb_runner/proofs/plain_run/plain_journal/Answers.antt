use Rattle.std.proofs.Common.{refl}
use Rattle.rdb_runner.proofs.PlainRunLemmas.{journal_is_legal}
use Rattle.rdb_runner.proofs.plain_run.plain_journal.Goals as goal

pub returns-clause-made : goal.returns-clause-made
returns-clause-made c =
    let done = c.in_ok-answered.field-0 in
    let legal = journal_is_legal c.args.schema.now c.requires.plain c.args.lines.now done c.requires.each c.in_ok-answered.ensures.answered in
    rw (c.in_ok-push-2.ensures.ok, c.in_ok-push.ensures.ok, c.new-journal.ensures) (record { done = done; answered = c.in_ok-answered.ensures.answered; entries = refl; legal = legal })
