use Rattle.std.proofs.Common.{◌≡◌, sym, ap, ◌∙◌}
use Rattle.std.proofs.lemmas.Result.{err_from_is_err_and}
use Rattle.rdb_model.specs.declared.legality.Legality.TheVariants.{Legal, Illegal}
use Rattle.rdb_model.specs.Journal.{legal}
use Rattle.rdb_audit.specs.Verdicts.{counts_of}
use Rattle.rdb_audit.proofs.VerdictLemmas.{no_journal, no_verdict}
use Rattle.rdb_audit.proofs.verdict.audit.Goals as goal

pub returns-in-Legal-clause-legal : goal.returns-in-Legal-clause-legal
returns-in-Legal-clause-legal c =
    (c.in_ok-journal.journal, c.in_ok-journal.ensures.read, ap (legal c.args.schema.now) (sym c.as_slice.ensures) ∙ sym c.in_ok-legal.ensures ∙ c.in-Legal.is, c.counts.ensures ∙ ap counts_of c.as_slice-in-Legal.ensures)

pub returns-in-Legal-clause-only : goal.returns-in-Legal-clause-only
returns-in-Legal-clause-only c = λ counts s. c.counts.ensures ∙ ap counts_of (c.as_slice-in-Legal.ensures ∙ c.in_ok-journal.ensures.only s.0 s.1) ∙ sym s.3

pub returns-clause-only : goal.returns-clause-only
returns-clause-only c = λ counts s.
    let same = c.as_slice.ensures ∙ c.in_ok-journal.ensures.only s.0 s.1 in
    let both : Illegal c.in-Illegal.entry c.in-Illegal.why ≡ Legal = sym c.in-Illegal.is ∙ c.in_ok-legal.ensures ∙ ap (legal c.args.schema.now) same ∙ s.2 in
    cc

pub returns-in_err-journal-clause-only : goal.returns-in_err-journal-clause-only
returns-in_err-journal-clause-only c = λ counts s.
    let p = err_from_is_err_and c.from_residual.result c.from_residual.ensures.1 in
    no_journal c.from_residual.result p.0 c.in_err-journal.field-0.0 s.0 counts p.1 p.2 (c.in_err-journal.ensures.only s.0 s.1)

pub returns-in_err-legal-clause-only : goal.returns-in_err-legal-clause-only
returns-in_err-legal-clause-only c = λ counts s.
    let p = err_from_is_err_and c.from_residual-in_err-legal.result c.from_residual-in_err-legal.ensures.1 in
    no_verdict c.from_residual-in_err-legal.result p.0 counts p.1 p.2

pub returns-clause-fault : goal.returns-clause-fault
returns-clause-fault c = (c.in_ok-journal.journal, c.in_ok-journal.ensures.read, ap (legal c.args.schema.now) (sym c.as_slice.ensures) ∙ sym c.in_ok-legal.ensures ∙ c.in-Illegal.is)
