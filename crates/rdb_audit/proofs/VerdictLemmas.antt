-- What an answer without counts says of them.
use Rattle.std.proofs.Common.{◌≡◌, List, Err, sym, subst}
use Rattle.std.specs.Prelude.{Result}
use Rattle.rdb_base.specs.declared.journal.Entry.{Entry}
use Rattle.rdb_audit.specs.declared.verdict.Counts.{Counts}
use Rattle.rdb_audit.specs.declared.verdict.AuditFault.{AuditFault}
use Rattle.rdb_audit.specs.declared.verdict.AuditFault.TheVariants as audit
use Rattle.rdb_audit.specs.Verdicts.{IsAnswer}

-- a fault that answers for a journal answers for counts
same_fault : (fault : AuditFault) (journal : List Entry) (counts : Counts) → IsAnswer {A = List Entry} (Err fault) journal → IsAnswer {A = Counts} (Err fault) counts
same_fault (audit.BadLine line) journal counts h = absurd h
same_fault (audit.Illegal place why) journal counts h = absurd h
same_fault audit.NoMemory journal counts h = tt

-- a report without a journal has no counts
pub no_journal : (result : Result Counts AuditFault) (fault given : AuditFault) (journal : List Entry) (counts : Counts) → result ≡ Err fault → fault ≡ given
    → IsAnswer {A = List Entry} (Err given) journal → IsAnswer result counts
no_journal result fault given journal counts is same h =
    subst (λ (r : Result Counts AuditFault). IsAnswer r counts) (sym is)
    (same_fault fault journal counts (subst (λ (f : AuditFault). IsAnswer {A = List Entry} (Err f) journal) (sym same) h))

-- want of memory leaves the counts open
pub no_verdict : (result : Result Counts AuditFault) (fault : AuditFault) (counts : Counts) → result ≡ Err fault → fault ≡ audit.NoMemory → IsAnswer result counts
no_verdict result fault counts is same =
    subst (λ (r : Result Counts AuditFault). IsAnswer r counts) (sym is) (subst (λ (f : AuditFault). IsAnswer {A = Counts} (Err f) counts) (sym same) tt)
