-- What the words of a command line are promised: the command that they ask for ends as it promises, and else they end with the usage.
use Rattle.std.specs.Prelude.{◌≡◌, ℕ, ◌⊎◌, List, [], ◌∷◌, ◌++◌, codes}
use Rattle.rdb_runner.specs.declared.status.Status.{Status}
use Rattle.rdb_runner.specs.declared.status.Status.TheVariants.{Usage, NoMemory, NotBuilt}
use Rattle.rdb_runner.specs.AuditFile.{audit_names}
use Rattle.rdb_words.specs.Grammar.{Word}
use Rattle.rdb_runner.specs.CommandLine.{Command, replay, run, audit, check, job, IsCommandLine, word_of}
use Rattle.rdb_runner.specs.Ending.{Ends, Never}
use Rattle.rdb_runner.specs.Parts.{names_of}
use Rattle.rdb_runner.specs.Promise.{ReplayOwes, AuditOwes, CheckOwes}
use Rattle.rdb_runner.specs.Reading.{Sight, AsksFirst}
use Rattle.rdb_runner.specs.Statuses.{number_of}
use Rattle.rdb_runner.specs.Telling.{Ink, IsCutOff}

-- the words are no command line
abbrev pub IsNoCommandLine : List Word → Type 0
IsNoCommandLine words = (command : Command) → IsCommandLine words command → ⊥

-- the line of words that are no command line
abbrev pub usage_line : List ℕ
usage_line = codes "regiondb: usage\n"

-- the line of a command that isn't built
abbrev pub not_built_line : Command → List ℕ
not_built_line command = codes "regiondb: not built " ++ word_of command ++ codes "\n"

-- what a command reads files for: a job's replay, by its files' names, the audit of a report, or the check of a schema; other
-- commands, and replays without exactly one client, aren't built yet
pub data Task : Type 0 where
  replays : (names : List Word) → Task
  audits : (schema report : Word) → Task
  checks : (name : Word) → Task
  unbuilt : Task

abbrev pub task_of : Command → Task
task_of (replay settings schema schedule []) = unbuilt
task_of (replay settings schema schedule (client ∷ [])) = replays (names_of schema schedule client)
task_of (replay settings schema schedule (client ∷ other ∷ clients)) = unbuilt
task_of (run settings schema clients) = unbuilt
task_of (audit schema report) = audits schema report
task_of (check schema) = checks schema
task_of (job seed with_threads) = unbuilt

-- the files that a task reads, in order
abbrev pub files_of_task : Task → List Word
files_of_task (replays names) = names
files_of_task (audits schema report) = audit_names schema report
files_of_task (checks name) = name ∷ []
files_of_task unbuilt = []

-- no file was asked and no read failed
abbrev pub SeesNothing : Sight → Type 0
SeesNothing sight = (sight.asked_then ≡ sight.asked) × (sight.faults_then ≡ sight.faults)

-- what words owe that are no command line
abbrev pub UsageOwes : Sight → Status → List ℕ → Type 0
UsageOwes sight Usage = λ text. (text ≡ usage_line) × SeesNothing sight
UsageOwes sight _ = Never

-- what a command owes that isn't built
abbrev pub UnbuiltOwes : Command → Sight → Status → List ℕ → Type 0
UnbuiltOwes command sight NotBuilt = λ text. (text ≡ not_built_line command) × SeesNothing sight
UnbuiltOwes command sight _ = Never

-- a command owes what its task owes, or that it isn't built
abbrev pub CommandOwes : Command → Task → Sight → Status → List ℕ → Type 0
CommandOwes command (replays names) sight = ReplayOwes names sight
CommandOwes command (audits schema report) sight = AuditOwes schema report sight
CommandOwes command (checks name) sight = CheckOwes name sight
CommandOwes command unbuilt sight = UnbuiltOwes command sight

-- how a command with this task ends
abbrev pub TaskEnds : Command → Task → Sight → Ink → ℕ → Type 0
TaskEnds command task sight ink answer = Ends (files_of_task task) (CommandOwes command task sight) sight ink answer

-- How a command ends: a replay of one client as `replay` promises, an audit as `audit_file` promises, a check as `check` promises,
-- others as not built.
abbrev pub CommandEnds : Command → Sight → Ink → ℕ → Type 0
CommandEnds command sight ink answer = TaskEnds command (task_of command) sight ink answer

abbrev pub IsBuilt : Task → Type 0
IsBuilt (replays names) = Unit {0}
IsBuilt (audits schema report) = Unit {0}
IsBuilt (checks name) = Unit {0}
IsBuilt unbuilt = ⊥

-- the words ask for a command that is built
abbrev pub AsksForBuilt : List Word → Type 0
AsksForBuilt words = (command : Command) × IsCommandLine words command × IsBuilt (task_of command)

-- How words end:
-- `usage`: where they are no command line, with the usage; `command`: else as the command that they ask for; `either`: one of these
-- is so; `memory`: memory is wanting only for a command that is built.
pub record WordsEnd (words : List Word) (sight : Sight) (ink : Ink) (answer : ℕ) : Type 0 where
  pub usage : IsNoCommandLine words → Ends [] (UsageOwes sight) sight ink answer
  pub command : (asked : Command) → IsCommandLine words asked → CommandEnds asked sight ink answer
  pub either : IsNoCommandLine words ⊎ ((asked : Command) × IsCommandLine words asked)
  pub memory : answer ≡ number_of NoMemory → AsksForBuilt words

-- Below: what follows from that is said by these.

-- words owe what the command that they ask for owes, or the usage
abbrev pub WordsOwe : List Word → Sight → Status → List ℕ → Type 0
WordsOwe words sight status text =
    (IsNoCommandLine words × UsageOwes sight status text)
    ⊎ ((command : Command) × IsCommandLine words command × CommandOwes command (task_of command) sight status text)

-- the words ask for the replay of a job with these files
abbrev pub AsksFor : List Word → List Word → Type 0
AsksFor words names = (command : Command) × IsCommandLine words command × (task_of command ≡ replays names)

-- the words ask for the audit of the report in the second of these files, for the schema in the first
abbrev pub AsksToAudit : List Word → Word → Word → Type 0
AsksToAudit words schema report = (command : Command) × IsCommandLine words command × (task_of command ≡ audits schema report)

-- the words ask for the check of the schema in this file
abbrev pub AsksToCheck : List Word → Word → Type 0
AsksToCheck words name = (command : Command) × IsCommandLine words command × (task_of command ≡ checks name)

-- the words ask for a command that reads these files
abbrev pub AsksForFiles : List Word → List Word → Type 0
AsksForFiles words names =
    AsksFor words names
    ⊎ ((schema report : Word) × AsksToAudit words schema report × (names ≡ audit_names schema report))
    ⊎ ((name : Word) × AsksToCheck words name × (names ≡ name ∷ []))

-- the words ask for a command that isn't built, and this is its line
abbrev pub AsksForOther : List Word → List ℕ → Type 0
AsksForOther words text =
    (command : Command) × IsCommandLine words command × (task_of command ≡ unbuilt) × (text ≡ not_built_line command)

-- a write failed, and what was written is a prefix of a text that was due
abbrev pub IsCutShort : List Word → Sight → Ink → Type 0
IsCutShort words sight ink = (status : Status) × (text : List ℕ) × WordsOwe words sight status text × IsCutOff ink text

-- the names that a call asked are the first of those that the words' command reads, and none where it reads none
abbrev pub AsksInOrder : List Word → Sight → Type 0
AsksInOrder words sight = ((names : List Word) × AsksForFiles words names × AsksFirst sight names) ⊎ (sight.asked_then ≡ sight.asked)
