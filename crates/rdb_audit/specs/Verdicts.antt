-- What is said of a report: the counts of its entries where its journal keeps the law, else its first bad line or its first illegal entry.
use Rattle.std.specs.Prelude.{◌≡◌, ⊤, ℕ, List, Result, Ok, Err, count_by}
use Rattle.rdb_schema.specs.declared.schema.Schema.{Schema}
use Rattle.rdb_base.specs.declared.journal.Entry.{Entry}
use Rattle.rdb_model.specs.declared.legality.Legality.{Legality}
use Rattle.rdb_model.specs.declared.legality.Legality.TheVariants as legality
use Rattle.rdb_model.specs.Journal.{legal}
use Rattle.rdb_audit.specs.declared.verdict.Counts.{Counts}
use Rattle.rdb_audit.specs.declared.verdict.AuditFault.{AuditFault}
use Rattle.rdb_audit.specs.declared.verdict.AuditFault.TheVariants as audit
use Rattle.rdb_audit.specs.declared.reader.ReadFault.{ReadFault}
use Rattle.rdb_audit.specs.declared.reader.ReadFault.TheVariants as read
use Rattle.rdb_journal.specs.Report.{is_commit, is_read, is_abort, is_handled, is_closed}
use Rattle.rdb_audit.specs.Grammar.{IsReport, IsFirstBad}

-- how many entries there are of each kind
abbrev pub counts_of : List Entry → Counts
counts_of journal = record {
  commits = count_by is_commit journal;
  reads = count_by is_read journal;
  aborts = count_by is_abort journal;
  handled = count_by is_handled journal;
  closed = count_by is_closed journal;
}

-- the fault names the first bad line, or memory was wanting
abbrev pub IsReadFault : Schema → List ℕ → ReadFault → Type 0
IsReadFault schema text (read.BadLine line) = IsFirstBad schema text line
IsReadFault schema text read.NoMemory = ⊤

-- the answer is this journal, unless memory was wanting
abbrev pub IsJournalRead : Result (List Entry) ReadFault → List Entry → Type 0
IsJournalRead (Ok found) journal = found ≡ journal
IsJournalRead (Err (read.BadLine line)) journal = ⊥
IsJournalRead (Err read.NoMemory) journal = ⊤

-- the text is a report whose journal is judged so
abbrev pub IsJudged : Schema → List ℕ → Legality → Type 0
IsJudged schema text judged = (journal : List Entry) × IsReport schema text journal × (legal schema journal ≡ judged)

-- the text is a report with a legal journal, and these are the numbers of its entries
abbrev pub IsLegalReport : Schema → List ℕ → Counts → Type 0
IsLegalReport schema text counts =
    (journal : List Entry) × IsReport schema text journal × (legal schema journal ≡ legality.Legal) × (counts ≡ counts_of journal)

-- the fault names the first bad line, or the first illegal entry of a report without one, or memory was wanting
abbrev pub IsAuditFault : Schema → List ℕ → AuditFault → Type 0
IsAuditFault schema text (audit.BadLine line) = IsFirstBad schema text line
IsAuditFault schema text (audit.Illegal place why) = IsJudged schema text (legality.Illegal place why)
IsAuditFault schema text audit.NoMemory = ⊤

-- the answer is this, unless memory was wanting
abbrev pub IsAnswer : {A : Type 0} → Result A AuditFault → A → Type 0
IsAnswer (Ok found) meant = found ≡ meant
IsAnswer (Err (audit.BadLine line)) meant = ⊥
IsAnswer (Err (audit.Illegal place why)) meant = ⊥
IsAnswer (Err audit.NoMemory) meant = ⊤
