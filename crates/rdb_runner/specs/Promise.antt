-- What the commands promise: which text is due with which status, and how each command ends.
use Rattle.std.specs.Prelude.{ℕ, List, [], ◌∷◌}
use Rattle.rdb_runner.specs.declared.status.Status.{Status}
use Rattle.rdb_runner.specs.declared.status.Status.TheVariants.{Done, Unreadable, BadSchema, BadScript, BadSchedule, BadReport, NotBuilt}
use Rattle.rdb_runner.specs.AuditFile.{audit_names, IsAudited, IsBadReport}
use Rattle.rdb_runner.specs.Ending.{Ends, Never}
use Rattle.rdb_runner.specs.Parts.{names_of, IsBadScript, IsBadSchedule}
use Rattle.rdb_runner.specs.PlainPromise.{IsNotBuilt}
use Rattle.rdb_runner.specs.PlainReport.{IsReportOf}
use Rattle.rdb_runner.specs.Reading.{Sight, AllRead, IsUnreadable}
use Rattle.rdb_runner.specs.SchemaFile.{IsChecked, IsBadSchema}
use Rattle.rdb_runner.specs.Telling.{Ink, IsCutOff}

-- done: the text is the report of the files
abbrev pub IsDone : List (List ℕ) → Sight → List ℕ → Type 0
IsDone names sight text =
    (schema schedule client : List ℕ) × AllRead sight names (names_of schema schedule client) × IsReportOf schema schedule client text

-- what the replay of a job with these files owes, by the status
abbrev pub ReplayOwes : List (List ℕ) → Sight → Status → List ℕ → Type 0
ReplayOwes names sight Done = IsDone names sight
ReplayOwes names sight Unreadable = IsUnreadable names sight
ReplayOwes names sight BadSchema = IsBadSchema names sight
ReplayOwes names sight BadScript = IsBadScript names sight
ReplayOwes names sight BadSchedule = IsBadSchedule names sight
ReplayOwes names sight NotBuilt = IsNotBuilt names sight
ReplayOwes names sight _ = Never

-- How the replay of a job with these files ends.
abbrev pub ReplayEnds : List (List ℕ) → Sight → Ink → ℕ → Type 0
ReplayEnds names sight ink answer = Ends names (ReplayOwes names sight) sight ink answer

-- a write failed, and what was written is a prefix of a text that was due
abbrev pub IsInterrupted : List (List ℕ) → Sight → Ink → Type 0
IsInterrupted names sight ink = (status : Status) × (text : List ℕ) × ReplayOwes names sight status text × IsCutOff ink text

-- what the check of the schema in this file owes, by the status
abbrev pub CheckOwes : List ℕ → Sight → Status → List ℕ → Type 0
CheckOwes name sight Done = IsChecked name sight
CheckOwes name sight Unreadable = IsUnreadable (name ∷ []) sight
CheckOwes name sight BadSchema = IsBadSchema (name ∷ []) sight
CheckOwes name sight _ = Never

-- How the check of the schema in this file ends.
abbrev pub CheckEnds : List ℕ → Sight → Ink → ℕ → Type 0
CheckEnds name sight ink answer = Ends (name ∷ []) (CheckOwes name sight) sight ink answer

-- a write failed, and what was written is a prefix of a text that was due
abbrev pub IsCheckCutOff : List ℕ → Sight → Ink → Type 0
IsCheckCutOff name sight ink = (status : Status) × (text : List ℕ) × CheckOwes name sight status text × IsCutOff ink text

-- what the audit of the report in the second file owes, by the status
abbrev pub AuditOwes : List ℕ → List ℕ → Sight → Status → List ℕ → Type 0
AuditOwes schema report sight Done = IsAudited schema report sight
AuditOwes schema report sight Unreadable = IsUnreadable (audit_names schema report) sight
AuditOwes schema report sight BadSchema = IsBadSchema (audit_names schema report) sight
AuditOwes schema report sight BadReport = IsBadReport schema report sight
AuditOwes schema report sight _ = Never

-- How the audit of the report in the second file ends.
abbrev pub AuditEnds : List ℕ → List ℕ → Sight → Ink → ℕ → Type 0
AuditEnds schema report sight ink answer = Ends (audit_names schema report) (AuditOwes schema report sight) sight ink answer

-- a write failed, and what was written is a prefix of a text that was due
abbrev pub IsAuditCutOff : List ℕ → List ℕ → Sight → Ink → Type 0
IsAuditCutOff schema report sight ink = (status : Status) × (text : List ℕ) × AuditOwes schema report sight status text × IsCutOff ink text
