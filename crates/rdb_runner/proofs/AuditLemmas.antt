-- What the work of an audit gives is what is told.
use Rattle.std.proofs.Common.{◌≡◌, ℕ, get_or, inl, inr, List, [], ◌∷◌, ◌++◌, length, Some, refl, sym, ◌∙◌, subst, arith}
use Rattle.std.specs.Prelude.{slice_get, codes, Result, Ok, Err}
use Rattle.rdb_schema.specs.declared.schema.Schema.{Schema}
use Rattle.rdb_ddl.specs.declared.fault.DdlFault.{DdlFault}
use Rattle.rdb_ddl.specs.Read.{IsRead}
use Rattle.rdb_model.specs.declared.legality.Why.{Why}
use Rattle.rdb_audit.specs.declared.verdict.Counts.{Counts}
use Rattle.rdb_audit.specs.declared.verdict.AuditFault.TheVariants as fault
use Rattle.rdb_audit.specs.Verdicts.{IsLegalReport, IsAuditFault, IsAnswer}
use Rattle.rdb_runner.specs.declared.audit.Unaudited.TheVariants as un
use Rattle.rdb_runner.specs.declared.audit.Unaudited.{Unaudited}
use Rattle.rdb_runner.specs.declared.status.Status.{Status}
use Rattle.rdb_runner.specs.declared.status.Status.TheVariants.{Done, Unreadable, BadSchema, BadReport}
use Rattle.rdb_runner.specs.AuditFile.{audit_names, counts_line, bad_line, illegal_line}
use Rattle.rdb_runner.specs.Ending.{Told}
use Rattle.rdb_runner.specs.Promise.{AuditOwes}
use Rattle.rdb_runner.specs.Reading.{Sight, CannotRead, AllRead}
use Rattle.rdb_runner.specs.SchemaFile.{fault_line}
use Rattle.rdb_runner.specs.Telling.{Ink, MayTell}
use Rattle.rdb_runner.specs.Work.{IsAudit, IsAuditWork}
use Rattle.rdb_runner.proofs.EndingLemmas.{may_be_told_by}

module _ (schema report : List ℕ) (sight : Sight) (ink : Ink) (status : Status) where
  -- the counts are told
  pub counts_told : (counts : Counts) → IsAuditWork schema report sight (Ok counts) → MayTell ink Done (counts_line counts) status → Told (AuditOwes schema report sight) ink status
  counts_told counts (s, r, read, legal) tells = may_be_told_by (AuditOwes schema report sight) ink Done _ status (s, r, counts, read, legal, refl) (λ h. h) tells

  -- a file that can't be read is told
  pub unread_told : (place : ℕ) (name : List ℕ) → IsAuditWork schema report sight (Err (un.Unreadable place)) → slice_get (audit_names schema report) place ≡ Some name
      → MayTell ink Unreadable (codes "regiondb: cannot read " ++ name ++ codes "\n") status → Told (AuditOwes schema report sight) ink status
  unread_told place name (own, texts, at, all, cannot, asks) there tells =
      let same : own ≡ name = cc in
      may_be_told_by (AuditOwes schema report sight) ink Unreadable _ status (place, name, texts, there, all, subst (CannotRead sight) same cannot, asks, refl) (λ h. h) tells

  -- a schema's fault is told
  pub fault_told : (fault : DdlFault) → IsAuditWork schema report sight (Err (un.BadSchema fault))
      → MayTell ink BadSchema (fault_line fault) status → Told (AuditOwes schema report sight) ink status
  fault_told fault (s, r, read, refused) tells = may_be_told_by (AuditOwes schema report sight) ink BadSchema _ status (s, r ∷ [], fault, read, refused, refl) (λ h. h) tells

  -- a report's first bad line is told
  pub bad_line_told : (line : ℕ) → IsAuditWork schema report sight (Err (un.BadLine line))
      → MayTell ink BadReport (bad_line line) status → Told (AuditOwes schema report sight) ink status
  bad_line_told line work tells = may_be_told_by (AuditOwes schema report sight) ink BadReport _ status work (λ h. h) tells

  -- a journal's first illegal entry is told
  pub illegal_told : (entry : ℕ) (why : Why) → IsAuditWork schema report sight (Err (un.Illegal entry why))
      → MayTell ink BadReport (illegal_line entry why) status → Told (AuditOwes schema report sight) ink status
  illegal_told entry why work tells = may_be_told_by (AuditOwes schema report sight) ink BadReport _ status work (λ h. h) tells

module _ (schema_text report_text : List ℕ) (schema : Schema) (read : IsRead schema_text schema) where
  -- a text that is no report
  pub audit_bad_line : (line : ℕ) → IsAuditFault schema report_text (fault.BadLine line)
      → ((counts : Counts) → IsLegalReport schema report_text counts → IsAnswer {A = Counts} (Err (fault.BadLine line)) counts) → IsAudit schema_text report_text (Err (un.BadLine line))
  audit_bad_line line bad only = record { schema = schema; schema_read = read; tells = inl (line, bad, refl); none = only }

  -- a report whose journal isn't legal
  pub audit_illegal : (entry : ℕ) (why : Why) → IsAuditFault schema report_text (fault.Illegal entry why)
      → ((counts : Counts) → IsLegalReport schema report_text counts → IsAnswer {A = Counts} (Err (fault.Illegal entry why)) counts)
      → IsAudit schema_text report_text (Err (un.Illegal entry why))
  audit_illegal entry why judged only = record { schema = schema; schema_read = read; tells = inr (entry, why, judged, refl); none = only }

-- the work on the texts of files that were read
pub audit_work_of : (schema report : List ℕ) (sight : Sight) (s r : List ℕ) (result : Result Counts Unaudited) → AllRead sight (audit_names schema report) (s ∷ r ∷ [])
    → IsAudit s r result → IsAuditWork schema report sight result
audit_work_of schema report sight s r (Ok counts) read w = (s, r, read, w)
audit_work_of schema report sight s r (Err (un.Unreadable place)) read w = absurd w
audit_work_of schema report sight s r (Err (un.BadSchema fault)) read w = (s, r, read, w)
audit_work_of schema report sight s r (Err (un.BadLine line)) read w = (s, r, read, w)
audit_work_of schema report sight s r (Err (un.Illegal entry why)) read w = (s, r, read, w)
audit_work_of schema report sight s r (Err un.NoMemory) read w = read.2

-- a list of two
two_of : (texts : List (List ℕ)) (a b : List ℕ) → length texts ≡ 2 → a ≡ get_or texts 0 a → b ≡ get_or texts 1 b → texts ≡ a ∷ b ∷ []
two_of [] a b two first second = absurd (omega arith)
two_of (x ∷ []) a b two first second = absurd (omega arith)
two_of (x ∷ y ∷ []) a b two first second = λ i. sym first i ∷ sym second i ∷ []
two_of (x ∷ y ∷ z ∷ texts) a b two first second = absurd (omega arith)

-- the two texts that were read, lent
pub two_lent : (names : List (List ℕ)) (sight : Sight) (texts there : List (List ℕ)) (a b s r : List ℕ) → AllRead sight names texts → there ≡ texts → length there ≡ 2
    → a ≡ get_or there 0 a → b ≡ get_or there 1 b → s ≡ a → r ≡ b → AllRead sight names (s ∷ r ∷ [])
two_lent names sight texts there a b s r read is two first second one last =
    let lent : a ∷ b ∷ [] ≡ s ∷ r ∷ [] = λ i. sym one i ∷ sym last i ∷ [] in
    subst (AllRead sight names) (sym is ∙ two_of there a b two first second ∙ lent) read
