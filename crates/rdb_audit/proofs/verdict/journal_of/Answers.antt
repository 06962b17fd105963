use Rattle.std.specs.Prelude.{Err}
use Rattle.std.proofs.Common.{subst}
use Rattle.rdb_audit.specs.Verdicts.{IsJournalRead}
use Rattle.rdb_audit.proofs.verdict.journal_of.Goals as goal

pub returns-in-Err-clause-fault : goal.returns-in-Err-clause-fault
returns-in-Err-clause-fault c = c.unread.ensures.fault c.args.schema.now c.args.report.now c.in-Err.ensures.fault

pub returns-in-Err-clause-only : goal.returns-in-Err-clause-only
returns-in-Err-clause-only c = λ journal s. c.unread.ensures.only journal (subst (λ r. IsJournalRead r journal) c.in-Err.is (c.read.ensures.only journal s))
