-- What a call wrote.
use Rattle.std.specs.Prelude.{◌≡◌, ℕ, ◌≤◌, ◌⊎◌, List, ◌++◌, length, take, Option}
use Rattle.std.specs.Option.{option_map}
use Rattle.rdb_base.specs.Outside.{Rose}
use Rattle.rdb_runner.specs.declared.status.Status.{Status}
use Rattle.rdb_runner.specs.declared.status.Status.TheVariants.{CutOff, NoMemory}

-- what the sink tells of its bytes, and its faults, before a call and after it
pub record Ink : Type 0 where
  pub before : Option (List ℕ)
  pub after : Option (List ℕ)
  pub faults : ℕ
  pub faults_then : ℕ

abbrev pub ink_of : {K : Type 0} → (K → Option (List ℕ)) → (K → ℕ) → K → K → Ink
ink_of written faults old new = record { before = written old; after = written new; faults = faults old; faults_then = faults new }

-- these bytes were appended
abbrev pub Appends : Ink → List ℕ → Type 0
Appends ink text = ink.after ≡ option_map (λ before. before ++ text) ink.before

-- no write failed
abbrev pub IsCalm : Ink → Type 0
IsCalm ink = ink.faults_then ≡ ink.faults

-- the whole text was written, and no write failed
abbrev pub Writes : Ink → List ℕ → Type 0
Writes ink text = Appends ink text × IsCalm ink

-- a write failed, and what was written is a prefix of the text
abbrev pub IsCutOff : Ink → List ℕ → Type 0
IsCutOff ink text = (taken : ℕ) × (taken ≤ length text) × Appends ink (take taken text) × Rose ink.faults ink.faults_then

-- nothing was written
abbrev pub IsSilent : Ink → Type 0
IsSilent ink = (ink.after ≡ ink.before) × IsCalm ink

-- the text was written and the status is its own, or it is cut off
abbrev pub Tells : Ink → Status → List ℕ → Status → Type 0
Tells ink own text status = ((status ≡ own) × Writes ink text) ⊎ ((status ≡ CutOff) × IsCutOff ink text)

-- the text is told, or memory is wanting and nothing is written
abbrev pub MayTell : Ink → Status → List ℕ → Status → Type 0
MayTell ink own text status = Tells ink own text status ⊎ ((status ≡ NoMemory) × IsSilent ink)

-- the text was written whole, and it is due by this fact
abbrev pub Shows : Ink → (List ℕ → Type 0) → Type 0
Shows ink Due = (text : List ℕ) × Due text × Writes ink text
