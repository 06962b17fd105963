-- How a command ends: with which status, what it wrote, and which files it asked.
use Rattle.std.specs.Prelude.{◌≡◌, ℕ, List}
use Rattle.rdb_runner.specs.declared.status.Status.{Status}
use Rattle.rdb_runner.specs.declared.status.Status.TheVariants.{CutOff, NoMemory}
use Rattle.rdb_runner.specs.Reading.{Sight, AsksFirst}
use Rattle.rdb_runner.specs.Statuses.{number_of}
use Rattle.rdb_runner.specs.Telling.{Ink, Shows, IsCutOff, IsSilent}

-- no text is due
abbrev pub Never : List ℕ → Type 0
Never text = ⊥

-- What a status says of what was written: a text that is due with it, written whole; where a write failed, a prefix of a text that was
-- due; where memory was wanting, nothing.
abbrev pub Told : (Status → List ℕ → Type 0) → Ink → Status → Type 0
Told owes ink CutOff = (status : Status) × (text : List ℕ) × owes status text × IsCutOff ink text
Told owes ink NoMemory = IsSilent ink
Told owes ink status = Shows ink (owes status)

-- How a command ends that reads these files, where `owes` says with which status which texts are due:
-- `number`: it answers the number of a status; `told`: what is due with it is written; `asked`: the files are asked in their order, none
-- twice.
pub record Ends (files : List (List ℕ)) (owes : Status → List ℕ → Type 0) (sight : Sight) (ink : Ink) (answer : ℕ) : Type 0 where
  pub status : Status
  pub number : answer ≡ number_of status
  pub told : Told owes ink status
  pub asked : AsksFirst sight files
