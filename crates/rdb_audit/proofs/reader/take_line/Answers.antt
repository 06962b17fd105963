use Rattle.std.proofs.Common.{sym, ◌∙◌}
use Rattle.rdb_audit.proofs.LastLine.{totals_took, totals_only}
use Rattle.rdb_audit.proofs.reader.take_line.Goals as goal

pub returns-then-is_last-clause-took : goal.returns-then-is_last-clause-took
returns-then-is_last-clause-took c = totals_took c.args.schema.now c.args.progress.now c.take_totals.new.progress c.args.line.now c.take_totals.result c.take_totals.ensures.took

pub returns-then-is_last-clause-only : goal.returns-then-is_last-clause-only
returns-then-is_last-clause-only c = totals_only c.args.schema.now c.args.progress.now c.take_totals.new.progress c.args.line.now c.take_totals.result (sym c.is_last.ensures ∙ c.if-is_last.true) c.take_totals.ensures.took c.take_totals.ensures.only
