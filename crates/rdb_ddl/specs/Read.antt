-- What reading a schema's text gives.
use Rattle.std.specs.Prelude.{◌≡◌, ◌≢◌, ◌≤◌, ℕ, All, ◌++◌, List, [], ◌∷◌, length, slice_get, Option, Some, None, Result, Ok, Err}
use Rattle.rdb_schema.specs.declared.syntax.Part.{Part}
use Rattle.rdb_ddl.specs.declared.parse.Parsed.{Parsed as Kept}
use Rattle.rdb_ddl.specs.declared.parse.Refused.{Refused}
use Rattle.rdb_schema.specs.declared.schema.Schema.{Schema}
use Rattle.rdb_schema.specs.declared.syntax.DdlCause.{DdlCause}
use Rattle.rdb_schema.specs.declared.syntax.DdlCause.TheVariants.{Unexpected, NoMemory}
use Rattle.rdb_schema.specs.Rules.{BreaksNoRule, IsFirstFault}
use Rattle.rdb_schema.specs.Meaning.{declared}
use Rattle.rdb_ddl.specs.declared.fault.DdlFault.{DdlFault}
use Rattle.rdb_ddl.specs.Place.{line_of, column_of}
use Rattle.rdb_ddl.specs.Grammar.{Parsed, grammar}

-- the parts that were read, without where they lie in memory
abbrev pub parsed_of : Kept → Parsed
parsed_of kept = record { syntax = kept.syntax; lefts = kept.lefts }

-- the parts of a text, or that the grammar refuses it, and where
abbrev pub GivesParts : Result Kept Refused → Result Parsed ℕ → Type 0
GivesParts (Ok kept) read = read ≡ Ok (parsed_of kept)
GivesParts (Err refused) read = read ≡ Err refused.left

-- the parts that were read, and one more if there is one
abbrev pub appended : Parsed → Option Part → ℕ → Parsed
appended parsed None left = parsed
appended parsed (Some part) left = record { syntax = parsed.syntax ++ part ∷ []; lefts = parsed.lefts ++ left ∷ [] }

-- each part has a place, and each place is one of a text of so many bytes
pub record IsPlaced (parsed : Parsed) (total : ℕ) : Type 0 where
  pub even : length parsed.lefts ≡ length parsed.syntax
  pub within : All (λ left. left ≤ total) parsed.lefts

-- the same of what was read, or of where it was refused
abbrev pub ArePlaced : Result Kept Refused → ℕ → Type 0
ArePlaced (Ok kept) total = IsPlaced (parsed_of kept) total
ArePlaced (Err refused) total = refused.left ≤ total

-- the text is one of the grammar, and these are its parts
pub record HasParts (text : List ℕ) (syntax : List Part) : Type 0 where
  pub parsed : Parsed
  pub parts : grammar text ≡ Ok parsed
  pub same : parsed.syntax ≡ syntax

-- the schema is what the parts of the text declare, none of which breaks a rule
pub record IsRead (text : List ℕ) (schema : Schema) : Type 0 where
  pub parsed : Parsed
  pub parts : grammar text ≡ Ok parsed
  pub no_fault : BreaksNoRule parsed.syntax
  pub declares : schema ≡ declared parsed.syntax

-- a fault stands where the last so many bytes of a text begin
pub record StandsAt (text : List ℕ) (left : ℕ) (fault : DdlFault) : Type 0 where
  pub line : fault.line ≡ line_of text left
  pub column : fault.column ≡ column_of text left

-- the first token of a text that the grammar does not allow
pub record IsUnexpected (text : List ℕ) (fault : DdlFault) : Type 0 where
  pub left : ℕ
  pub refused : grammar text ≡ Err left
  pub place : StandsAt text left fault

-- the first part of a text of the grammar that breaks a rule
pub record BreaksRule (text : List ℕ) (fault : DdlFault) : Type 0 where
  pub parsed : Parsed
  pub at : ℕ
  pub left : ℕ
  pub parts : grammar text ≡ Ok parsed
  pub first : IsFirstFault parsed.syntax at fault.cause
  pub left_is : slice_get parsed.lefts at ≡ Some left
  pub place : StandsAt text left fault

-- what is true of a fault of each cause; of want of memory nothing is said
abbrev pub IsFaultIn : List ℕ → DdlFault → DdlCause → Type 0
IsFaultIn text fault Unexpected = IsUnexpected text fault
IsFaultIn text fault NoMemory = Unit {0}
IsFaultIn text fault cause = BreaksRule text fault

-- want of memory is told at line 1 and column 1
abbrev pub IsMemoryFirst : DdlFault → Type 0
IsMemoryFirst fault = fault.cause ≡ NoMemory → (fault.line ≡ 1) × (fault.column ≡ 1)

-- the text is refused, and this is its first fault
pub record IsRefused (text : List ℕ) (fault : DdlFault) : Type 0 where
  pub told : fault.cause ≢ NoMemory
  pub first : IsFaultIn text fault fault.cause
