-- What the work of a command gives, before any of it is told.
use Rattle.std.specs.Prelude.{◌≡◌, ℕ, ◌+◌, List, [], ◌∷◌, take, Some, slice_get, Result, Ok, Err}
use Rattle.std.specs.List.{concat}
use Rattle.rdb_schema.specs.declared.schema.Schema.{Schema}
use Rattle.rdb_ddl.specs.Canonical.{canonical}
use Rattle.rdb_ddl.specs.Read.{IsRead, IsRefused}
use Rattle.rdb_audit.specs.declared.verdict.Counts.{Counts}
use Rattle.rdb_runner.specs.declared.audit.Unaudited.{Unaudited}
use Rattle.rdb_runner.specs.declared.audit.Unaudited.TheVariants as un
use Rattle.rdb_runner.specs.declared.check.Unchecked.{Unchecked}
use Rattle.rdb_runner.specs.declared.check.Unchecked.TheVariants as no
use Rattle.rdb_runner.specs.declared.halt.Halt.{Halt}
use Rattle.rdb_runner.specs.declared.halt.Halt.TheVariants as halt
use Rattle.rdb_runner.specs.declared.schema_reading.NoSchema.{NoSchema}
use Rattle.rdb_runner.specs.declared.schema_reading.NoSchema.TheVariants as none
use Rattle.rdb_runner.specs.AuditFile.{audit_names, bad_line, illegal_line, IsLegalFor, IsFaultyFor}
use Rattle.rdb_runner.specs.Parts.{names_of, IsRefusedScript, IsRefusedSchedule, HasRefusedScript, HasRefusedSchedule}
use Rattle.rdb_runner.specs.PlainPromise.{IsFirstOther}
use Rattle.rdb_runner.specs.PlainReport.{IsReportOf}
use Rattle.rdb_runner.specs.Reading.{Sight, Asks, AreBytesOf, CannotRead, AllRead}
use Rattle.rdb_runner.specs.SchemaFile.{IsChecked}

-- the text gives no schema for this reason
abbrev pub IsNoSchema : List ℕ → NoSchema → Type 0
IsNoSchema text (none.Refused fault) = IsRefused text fault
IsNoSchema text none.NoMemory = Unit {0}

-- the text gives no script for this reason
abbrev pub IsNoScript : Schema → List ℕ → Halt → Type 0
IsNoScript schema text (halt.BadScript line) = IsRefusedScript schema text line
IsNoScript schema text halt.NoMemory = Unit {0}
IsNoScript schema text _ = ⊥

-- the text gives no schedule for this reason
abbrev pub IsNoSchedule : List ℕ → Halt → Type 0
IsNoSchedule text (halt.BadSchedule number) = IsRefusedSchedule text number
IsNoSchedule text halt.NoMemory = Unit {0}
IsNoSchedule text _ = ⊥

-- what the work on three texts gives: the report's lines, the first fault of the schema, of the client or of the schedule, or the
-- first text that isn't of the simplest form
abbrev pub IsWork : List ℕ → List ℕ → List ℕ → Result (List (List ℕ)) Halt → Type 0
IsWork schema schedule client (Ok lines) = IsReportOf schema schedule client (concat lines)
IsWork schema schedule client (Err (halt.Unreadable place)) = ⊥
IsWork schema schedule client (Err (halt.BadSchema fault)) = IsRefused schema fault
IsWork schema schedule client (Err (halt.BadScript line)) = HasRefusedScript schema client line
IsWork schema schedule client (Err (halt.BadSchedule number)) = HasRefusedSchedule schema schedule client number
IsWork schema schedule client (Err (halt.NotBuilt place)) = IsFirstOther schema schedule client place
IsWork schema schedule client (Err halt.NoMemory) = Unit {0}

-- what a job's work gives: the first file that can't be read, or what the work on the files' texts gives
abbrev pub IsJobWork : List (List ℕ) → Sight → Result (List (List ℕ)) Halt → Type 0
IsJobWork names sight (Err (halt.Unreadable place)) =
    (name : List ℕ) × (texts : List (List ℕ)) × (slice_get names place ≡ Some name)
    × AreBytesOf sight.told (take place names) texts × CannotRead sight name × Asks sight (take (place + 1) names)
IsJobWork names sight (Err halt.NoMemory) = sight.faults_then ≡ sight.faults
IsJobWork names sight result =
    (schema schedule client : List ℕ) × AllRead sight names (names_of schema schedule client) × IsWork schema schedule client result

-- what a schema's text gives: its canonical text, or its first fault
abbrev pub IsRewritten : List ℕ → Result (List ℕ) NoSchema → Type 0
IsRewritten there (Ok text) = (schema : Schema) × IsRead there schema × (text ≡ canonical schema)
IsRewritten there (Err reason) = IsNoSchema there reason

-- what the work on a schema's file gives
abbrev pub IsCheckWork : List ℕ → Sight → Result (List ℕ) Unchecked → Type 0
IsCheckWork name sight (Ok text) = IsChecked name sight text
IsCheckWork name sight (Err no.Unreadable) = CannotRead sight name × Asks sight (name ∷ [])
IsCheckWork name sight (Err (no.Refused fault)) = (there : List ℕ) × AllRead sight (name ∷ []) (there ∷ []) × IsRefused there fault
IsCheckWork name sight (Err no.NoMemory) = sight.faults_then ≡ sight.faults

-- what a schema's text and a report's give: the counts of the entries, the schema's first fault, or what is wrong with the report
abbrev pub IsAudit : List ℕ → List ℕ → Result Counts Unaudited → Type 0
IsAudit schema report (Ok counts) = IsLegalFor schema report counts
IsAudit schema report (Err (un.Unreadable place)) = ⊥
IsAudit schema report (Err (un.BadSchema fault)) = IsRefused schema fault
IsAudit schema report (Err (un.BadLine line)) = IsFaultyFor schema report (bad_line line)
IsAudit schema report (Err (un.Illegal entry why)) = IsFaultyFor schema report (illegal_line entry why)
IsAudit schema report (Err un.NoMemory) = Unit {0}

-- what the work of an audit gives: the first file that can't be read, or what the files' texts give
abbrev pub IsAuditWork : List ℕ → List ℕ → Sight → Result Counts Unaudited → Type 0
IsAuditWork schema report sight (Err (un.Unreadable place)) =
    (name : List ℕ) × (texts : List (List ℕ)) × (slice_get (audit_names schema report) place ≡ Some name)
    × AreBytesOf sight.told (take place (audit_names schema report)) texts × CannotRead sight name
    × Asks sight (take (place + 1) (audit_names schema report))
IsAuditWork schema report sight (Err un.NoMemory) = sight.faults_then ≡ sight.faults
IsAuditWork schema report sight result =
    (schema_text report_text : List ℕ) × AllRead sight (audit_names schema report) (schema_text ∷ report_text ∷ [])
    × IsAudit schema_text report_text result
