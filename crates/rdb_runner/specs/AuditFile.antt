-- What is said of a report's file: how many entries of each kind it has, or what is wrong with it.
use Rattle.std.specs.Prelude.{◌≡◌, ℕ, ◌⊎◌, List, [], ◌∷◌, ◌++◌, codes, decimal, Some}
use Rattle.rdb_schema.specs.declared.schema.Schema.{Schema}
use Rattle.rdb_ddl.specs.Read.{IsRead}
use Rattle.rdb_model.specs.declared.legality.Legality.TheVariants.{Illegal}
use Rattle.rdb_model.specs.declared.legality.Why.{Why}
use Rattle.rdb_model.specs.declared.legality.Why.TheVariants.{Number, Twice, Place, Reply}
use Rattle.rdb_audit.specs.declared.verdict.Counts.{Counts}
use Rattle.rdb_audit.specs.Grammar.{IsFirstBad}
use Rattle.rdb_audit.specs.Verdicts.{IsJudged, IsLegalReport}
use Rattle.rdb_runner.specs.Reading.{Sight, AllRead}

-- the names of the files that an audit reads: a schema's and a report's
abbrev pub audit_names : List ℕ → List ℕ → List (List ℕ)
audit_names schema report = schema ∷ report ∷ []

-- the line of the counts
unfoldable pub counts_line : Counts → List ℕ
counts_line counts =
    codes "audit commits " ++ decimal counts.commits ++ codes " reads " ++ decimal counts.reads
    ++ codes " aborts " ++ decimal counts.aborts ++ codes " handled " ++ decimal counts.handled
    ++ codes " closed " ++ decimal counts.closed ++ codes "\n"

-- the line that tells a report's first bad line
unfoldable pub bad_line : ℕ → List ℕ
bad_line line = codes "regiondb: audit line " ++ decimal line ++ codes "\n"

-- the words for the part of the law of journals that an entry breaks
abbrev pub words_of : Why → List ℕ
words_of Number = codes "number"
words_of Twice = codes "twice"
words_of Place = codes "place"
words_of (Reply operation) = codes "reply " ++ decimal operation

-- the line that tells a journal's first illegal entry
unfoldable pub illegal_line : ℕ → Why → List ℕ
illegal_line entry why = codes "regiondb: audit entry " ++ decimal entry ++ codes " " ++ words_of why ++ codes "\n"

-- the text tells the first bad line of what should be a report, or the first illegal entry of a report
abbrev pub TellsFault : Schema → List ℕ → List ℕ → Type 0
TellsFault schema report text =
    ((line : ℕ) × IsFirstBad schema report line × (text ≡ bad_line line))
    ⊎ ((entry : ℕ) × (why : Why) × IsJudged schema report (Illegal entry why) × (text ≡ illegal_line entry why))

-- the first text declares a schema, and the second is a report for it with a legal journal that has so many entries
pub record IsLegalFor (schema_text report_text : List ℕ) (counts : Counts) : Type 0 where
  pub schema : Schema
  pub schema_read : IsRead schema_text schema
  pub legal : IsLegalReport schema report_text counts

-- the first text declares a schema, the second isn't a report for it with a legal journal, and this text tells what is wrong first
pub record IsFaultyFor (schema_text report_text text : List ℕ) : Type 0 where
  pub schema : Schema
  pub schema_read : IsRead schema_text schema
  pub tells : TellsFault schema report_text text
  pub none : (counts : Counts) → IsLegalReport schema report_text counts → ⊥

-- audited: both files are read, the report is one for the schema, its journal is legal, and the text is the line of its counts
abbrev pub IsAudited : List ℕ → List ℕ → Sight → List ℕ → Type 0
IsAudited schema report sight text =
    (schema_text report_text : List ℕ) × (counts : Counts) × AllRead sight (audit_names schema report) (schema_text ∷ report_text ∷ [])
    × IsLegalFor schema_text report_text counts × (text ≡ counts_line counts)

-- bad report: both files are read, the schema is one, the report isn't one for it with a legal journal, and what is wrong first is told
abbrev pub IsBadReport : List ℕ → List ℕ → Sight → List ℕ → Type 0
IsBadReport schema report sight text =
    (schema_text report_text : List ℕ) × AllRead sight (audit_names schema report) (schema_text ∷ report_text ∷ [])
    × IsFaultyFor schema_text report_text text

-- the files tell a schema, and a report for it with a legal journal, whatever the call did
pub record HasLegalReport (schema_name report_name : List ℕ) (sight : Sight) : Type 0 where
  pub schema_text : List ℕ
  pub report_text : List ℕ
  pub schema_told : sight.told schema_name ≡ Some schema_text
  pub report_told : sight.told report_name ≡ Some report_text
  pub counts : Counts
  pub is : IsLegalFor schema_text report_text counts

-- the files tell a schema, and a text that isn't a report for it with a legal journal, whatever the call did
pub record HasBadReport (schema_name report_name : List ℕ) (sight : Sight) : Type 0 where
  pub schema_text : List ℕ
  pub report_text : List ℕ
  pub schema_told : sight.told schema_name ≡ Some schema_text
  pub report_told : sight.told report_name ≡ Some report_text
  pub schema : Schema
  pub schema_read : IsRead schema_text schema
  pub none : (counts : Counts) → IsLegalReport schema report_text counts → ⊥
