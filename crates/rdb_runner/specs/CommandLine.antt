-- What a command line is: from what it asks for to its words.
use Rattle.std.specs.Prelude.{◌≡◌, ℕ, ◌^◌, ◌<◌, ◌≤◌, Bool, false, List, [], ◌∷◌, length, Option, Some, None, codes, ⊤}
use Rattle.std.specs.Str.Parse.{IsNumeral, digits_value}
use Rattle.rdb_base.specs.declared.identity.Manager.{Manager}
use Rattle.rdb_base.specs.declared.identity.Manager.TheVariants.{Mursiw, Mvcc}
use Rattle.rdb_words.specs.Grammar.{Word, Given, Gives, texts}
use Rattle.rdb_runner.specs.declared.command_line.Settings.{Settings}
use Rattle.rdb_runner.specs.declared.command_line.CommandLine.{CommandLine}
use Rattle.rdb_runner.specs.declared.command_line.CommandLine.TheVariants.{Replay, Run, Audit, Check, Job}

-- what a command line asks for: the words here are names of files
pub data Command : Type 0 where
  replay : Settings → Word → Word → List Word → Command
  run : Settings → Word → List Word → Command
  audit : Word → Word → Command
  check : Word → Command
  job : ℕ → Bool → Command

-- a word of decimal digits, with this value
abbrev pub IsNumber : Word → ℕ → Type 0
IsNumber word n = IsNumeral 10 word × (digits_value 10 word ≡ n)

-- a manager's word
abbrev pub word_of_manager : Manager → Word
word_of_manager Mursiw = codes "mursiw"
word_of_manager Mvcc = codes "mvcc"

-- the manager that a value names, MVCC without one
abbrev pub IsManagerOf : Option Word → Manager → Type 0
IsManagerOf None chosen = chosen ≡ Mvcc
IsManagerOf (Some value) chosen = value ≡ word_of_manager chosen

-- the count of pages that a value is, 1,024 without one
abbrev pub ArePagesOf : Option Word → ℕ → Type 0
ArePagesOf None n = n ≡ 1024
ArePagesOf (Some value) n = IsNumber value n × (1 ≤ n) × (n ≤ 16384)

-- these settings are given
abbrev pub HasSettings : Settings → Given → Type 0
HasSettings settings given =
    IsManagerOf given.manager_value settings.manager × ArePagesOf given.pages_value settings.pages

-- no settings are given
abbrev pub HasNoSettings : Given → Type 0
HasNoSettings given = (given.manager_value ≡ None) × (given.pages_value ≡ None)

-- what is given is right for the command, and says this
abbrev pub Asks : Command → Given → Type 0
Asks (replay settings schema schedule clients) given =
    HasSettings settings given × (given.with_threads ≡ false)
    × (given.names ≡ schema ∷ schedule ∷ clients) × (length clients ≤ 16)
Asks (run settings schema clients) given =
    HasSettings settings given × (given.with_threads ≡ false)
    × (given.names ≡ schema ∷ clients) × (length clients ≤ 16)
Asks (audit schema report) given =
    HasNoSettings given × (given.with_threads ≡ false) × (given.names ≡ schema ∷ report ∷ [])
Asks (check schema) given =
    HasNoSettings given × (given.with_threads ≡ false) × (given.names ≡ schema ∷ [])
Asks (job seed with_threads) given =
    HasNoSettings given × (given.with_threads ≡ with_threads)
    × (word : Word) × (given.names ≡ word ∷ []) × IsNumber word seed × (seed < 2 ^ 64)

-- the command's word
abbrev pub word_of : Command → Word
word_of (replay settings schema schedule clients) = codes "replay"
word_of (run settings schema clients) = codes "run"
word_of (audit schema report) = codes "audit"
word_of (check schema) = codes "check"
word_of (job seed with_threads) = codes "job"

-- a command's pages are from 1 to 16,384, and its clients 16 at most
abbrev pub IsWithinLimits : Command → Type 0
IsWithinLimits (replay settings schema schedule clients) =
    (1 ≤ settings.pages) × (settings.pages ≤ 16384) × (length clients ≤ 16)
IsWithinLimits (run settings schema clients) =
    (1 ≤ settings.pages) × (settings.pages ≤ 16384) × (length clients ≤ 16)
IsWithinLimits (audit schema report) = ⊤
IsWithinLimits (check schema) = ⊤
IsWithinLimits (job seed with_threads) = ⊤

-- the words are a command line that asks for this command
pub record IsCommandLine (words : List Word) (command : Command) : Type 0 where
  pub given : Given
  pub behind : List Word
  pub begins : words ≡ word_of command ∷ behind
  pub gives : Gives behind given
  pub asks : Asks command given

-- Below: what the reader lends, as bytes.

-- what was read, without the loans
abbrev pub command_of : CommandLine → Command
command_of (Replay settings schema schedule clients) = replay settings schema.now schedule.now (texts clients.items)
command_of (Run settings schema clients) = run settings schema.now (texts clients.items)
command_of (Audit schema report) = audit schema.now report.now
command_of (Check schema) = check schema.now
command_of (Job seed with_threads) = job seed with_threads

-- with this word as the command, what is given asks for this
abbrev pub AsksBy : Word → Given → Command → Type 0
AsksBy word given command = (word ≡ word_of command) × Asks command given
