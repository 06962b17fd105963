-- What follows from how an audit ends, status by status.
use Rattle.std.proofs.Common.{◌≡◌, ℕ, lit<, ◌<◌, List, [], ◌∷◌, Some, refl, sym, subst, arith}
use Rattle.std.specs.Prelude.{slice_get}
use Rattle.rdb_schema.specs.declared.schema.Schema.{Schema}
use Rattle.rdb_ddl.specs.Read.{IsRead, IsRefused}
use Rattle.rdb_ddl.proofs.OneAnswer.{one_schema, not_both}
use Rattle.rdb_audit.specs.declared.verdict.Counts.{Counts}
use Rattle.rdb_audit.specs.Verdicts.{IsLegalReport}
use Rattle.rdb_runner.specs.declared.status.Status.{Status}
use Rattle.rdb_runner.specs.declared.status.Status.TheVariants.{Done, Usage, Unreadable, BadSchema, BadScript, BadSchedule, CutOff, NoMemory, BadReport, NotBuilt}
use Rattle.rdb_runner.specs.AuditFile.{audit_names, IsAudited, IsBadReport, HasLegalReport, HasBadReport}
use Rattle.rdb_runner.specs.Ending.{Told}
use Rattle.rdb_runner.specs.Promise.{AuditOwes, AuditEnds, IsAuditCutOff}
use Rattle.rdb_runner.specs.Reading.{Sight, AllRead, IsUnreadable, HasTooLong}
use Rattle.rdb_runner.specs.SchemaFile.{IsBadSchema, HasBadSchema}
use Rattle.rdb_runner.specs.Statuses.{number_of, IsOneOf}
use Rattle.rdb_runner.specs.Telling.{Ink, IsSilent, Shows}
use Rattle.rdb_runner.proofs.BadSchema.{first_told, bad_is_not_read}
use Rattle.rdb_runner.proofs.EndingLemmas.{told_as}
use Rattle.rdb_runner.proofs.JobParts.{bytes_told}
use Rattle.rdb_runner.proofs.ReplayLaws.{told_within}

-- a first file that is told to declare a schema isn't refused as one
declared_told : (names : List (List ℕ)) (sight : Sight) (text name there : List ℕ) (schema : Schema) → slice_get names 0 ≡ Some name → sight.told name ≡ Some there
    → IsRead there schema → IsBadSchema names sight text → ⊥
declared_told names sight text name there schema at told read (first, others, fault, all, refused, line) =
    let same = first_told sight.told names others name there first all.0 at told in
    not_both there schema fault read (subst (λ (t : List ℕ). IsRefused t fault) same refused)

-- counts of the texts that were read are counts of the texts that are told
moved : (sight : Sight) (a b s r schema_text report_text : List ℕ) → AllRead sight (a ∷ b ∷ []) (s ∷ r ∷ []) → sight.told a ≡ Some schema_text → sight.told b ≡ Some report_text
    → (one other : Schema) → IsRead s one → IsRead schema_text other → (counts : Counts) → IsLegalReport one r counts → IsLegalReport other report_text counts
moved sight a b s r schema_text report_text read first second one other is declared counts legal =
    let schemas = bytes_told sight.told a s schema_text read.0.0 first in
    let reports = bytes_told sight.told b r report_text read.0.1.0 second in
    let same = one_schema schema_text one other (subst (λ (t : List ℕ). IsRead t one) schemas is) declared in
    subst (λ (t : List ℕ). IsLegalReport other t counts) reports (subst (λ (x : Schema). IsLegalReport x r counts) same legal)

-- and the other way round
moved_back : (sight : Sight) (a b s r schema_text report_text : List ℕ) → AllRead sight (a ∷ b ∷ []) (s ∷ r ∷ []) → sight.told a ≡ Some schema_text → sight.told b ≡ Some report_text
    → (one other : Schema) → IsRead s one → IsRead schema_text other → (counts : Counts) → IsLegalReport other report_text counts → IsLegalReport one r counts
moved_back sight a b s r schema_text report_text read first second one other is declared counts legal =
    let schemas = bytes_told sight.told a s schema_text read.0.0 first in
    let reports = bytes_told sight.told b r report_text read.0.1.0 second in
    let same = one_schema schema_text one other (subst (λ (t : List ℕ). IsRead t one) schemas is) declared in
    subst (λ (t : List ℕ). IsLegalReport one t counts) (sym reports) (subst (λ (x : Schema). IsLegalReport x report_text counts) (sym same) legal)

module _ (schema report : List ℕ) (sight : Sight) (ink : Ink) (answer : ℕ) (end : AuditEnds schema report sight ink answer) where
  -- the six ways in which an audit ends
  pub by_audit : {P : Type 0}
      → (answer ≡ 0 → Shows ink (IsAudited schema report sight) → P)
      → (answer ≡ 3 → Shows ink (IsUnreadable (audit_names schema report) sight) → P)
      → (answer ≡ 4 → Shows ink (IsBadSchema (audit_names schema report) sight) → P)
      → (answer ≡ 9 → Shows ink (IsBadReport schema report sight) → P)
      → (answer ≡ 7 → P)
      → (answer ≡ 8 → P)
      → P
  by_audit {P} audited unreadable bad_schema bad_report cut silent = by_status end.status end.number end.told
    where
      by_status : (s : Status) → answer ≡ number_of s → Told (AuditOwes schema report sight) ink s → P
      by_status Done is told = audited is told
      by_status Usage is told = absurd told.1
      by_status Unreadable is told = unreadable is told
      by_status BadSchema is told = bad_schema is told
      by_status BadScript is told = absurd told.1
      by_status BadSchedule is told = absurd told.1
      by_status CutOff is told = cut is
      by_status NoMemory is told = silent is
      by_status BadReport is told = bad_report is told
      by_status NotBuilt is told = absurd told.1

  pub audit_statuses : IsOneOf (Done ∷ Unreadable ∷ BadSchema ∷ CutOff ∷ NoMemory ∷ BadReport ∷ []) answer
  audit_statuses = by_audit (λ r h. (0, lit< tt, sym r)) (λ r h. (1, lit< tt, sym r)) (λ r h. (2, lit< tt, sym r)) (λ r h. (5, lit< tt, sym r))
      (λ r. (3, lit< tt, sym r)) (λ r. (4, lit< tt, sym r))

  pub audit_audited : answer ≡ number_of Done → Shows ink (IsAudited schema report sight)
  audit_audited is = told_as (audit_names schema report) (AuditOwes schema report sight) sight ink answer end Done is

  pub audit_unreadable : answer ≡ number_of Unreadable → Shows ink (IsUnreadable (audit_names schema report) sight)
  audit_unreadable is = told_as (audit_names schema report) (AuditOwes schema report sight) sight ink answer end Unreadable is

  pub audit_bad_schema : answer ≡ number_of BadSchema → Shows ink (IsBadSchema (audit_names schema report) sight)
  audit_bad_schema is = told_as (audit_names schema report) (AuditOwes schema report sight) sight ink answer end BadSchema is

  pub audit_bad_report : answer ≡ number_of BadReport → Shows ink (IsBadReport schema report sight)
  audit_bad_report is = told_as (audit_names schema report) (AuditOwes schema report sight) sight ink answer end BadReport is

  pub audit_interrupted : answer ≡ number_of CutOff → IsAuditCutOff schema report sight ink
  audit_interrupted is = told_as (audit_names schema report) (AuditOwes schema report sight) sight ink answer end CutOff is

  pub audit_memory : answer ≡ number_of NoMemory → IsSilent ink
  audit_memory is = told_as (audit_names schema report) (AuditOwes schema report sight) sight ink answer end NoMemory is

  -- an audit ends with no other status
  pub audit_never : (s : Status) → (Told (AuditOwes schema report sight) ink s → ⊥) → answer ≡ number_of s → ⊥
  audit_never s never is = never (told_as (audit_names schema report) (AuditOwes schema report sight) sight ink answer end s is)

  pub audit_failed_read : sight.faults < sight.faults_then → IsOneOf (Unreadable ∷ CutOff ∷ NoMemory ∷ []) answer
  audit_failed_read rose = by_audit
      (λ r h. let same = h.1.3.2 in absurd (omega arith)) (λ r h. (0, lit< tt, sym r)) (λ r h. let same = h.1.3.2 in absurd (omega arith))
      (λ r h. let same = h.1.2.2 in absurd (omega arith)) (λ r. (1, lit< tt, sym r)) (λ r. (2, lit< tt, sym r))

  pub audit_too_long : HasTooLong (audit_names schema report) sight → IsOneOf (Unreadable ∷ CutOff ∷ NoMemory ∷ []) answer
  audit_too_long (place, n, there, at, is, long) = by_audit
      (λ r s. let h = s.1 in let short = told_within sight.told (audit_names schema report) (h.0 ∷ h.1 ∷ []) place n there h.3.0 at is in absurd (omega arith))
      (λ r s. (0, lit< tt, sym r))
      (λ r s. let h = s.1 in let short = told_within sight.told (audit_names schema report) (h.0 ∷ h.1) place n there h.3.0 at is in absurd (omega arith))
      (λ r s. let h = s.1 in let short = told_within sight.told (audit_names schema report) (h.0 ∷ h.1 ∷ []) place n there h.2.0 at is in absurd (omega arith))
      (λ r. (1, lit< tt, sym r)) (λ r. (2, lit< tt, sym r))

  pub audit_refused : HasBadSchema (audit_names schema report) sight → IsOneOf (Unreadable ∷ BadSchema ∷ CutOff ∷ NoMemory ∷ []) answer
  audit_refused bad = by_audit
      (λ r s. let h = s.1 in absurd (bad_is_not_read (audit_names schema report) (h.1 ∷ []) sight h.0 h.4.schema h.3.0 h.4.schema_read bad))
      (λ r s. (0, lit< tt, sym r)) (λ r s. (1, lit< tt, sym r))
      (λ r s. let h = s.1 in absurd (bad_is_not_read (audit_names schema report) (h.1 ∷ []) sight h.0 h.3.schema h.2.0 h.3.schema_read bad))
      (λ r. (2, lit< tt, sym r)) (λ r. (3, lit< tt, sym r))

  -- a text that is told to be no report with a legal journal isn't audited as one
  pub audit_no_report : HasBadReport schema report sight → IsOneOf (Unreadable ∷ BadReport ∷ CutOff ∷ NoMemory ∷ []) answer
  audit_no_report bad = by_audit
      (λ r s. let h = s.1 in absurd (bad.none h.2 (moved sight schema report h.0 h.1 bad.schema_text bad.report_text h.3 bad.schema_told bad.report_told
      h.4.schema bad.schema h.4.schema_read bad.schema_read h.2 h.4.legal)))
      (λ r s. (0, lit< tt, sym r))
      (λ r s. absurd (declared_told (audit_names schema report) sight s.0 schema bad.schema_text bad.schema refl bad.schema_told bad.schema_read s.1))
      (λ r s. (1, lit< tt, sym r)) (λ r. (2, lit< tt, sym r)) (λ r. (3, lit< tt, sym r))

  -- a report that is told to have a legal journal isn't refused
  pub audit_legal : HasLegalReport schema report sight → IsOneOf (Done ∷ Unreadable ∷ CutOff ∷ NoMemory ∷ []) answer
  audit_legal legal = by_audit
      (λ r s. (0, lit< tt, sym r)) (λ r s. (1, lit< tt, sym r))
      (λ r s. absurd (declared_told (audit_names schema report) sight s.0 schema legal.schema_text legal.is.schema refl legal.schema_told legal.is.schema_read s.1))
      (λ r s. let h = s.1 in absurd (h.3.none legal.counts (moved_back sight schema report h.0 h.1 legal.schema_text legal.report_text h.2 legal.schema_told legal.report_told
      h.3.schema legal.is.schema h.3.schema_read legal.is.schema_read legal.counts legal.is.legal)))
      (λ r. (2, lit< tt, sym r)) (λ r. (3, lit< tt, sym r))
