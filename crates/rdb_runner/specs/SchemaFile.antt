-- What is said of a schema's file: its canonical text, or its first fault.
use Rattle.std.specs.Prelude.{◌≡◌, ℕ, List, [], ◌∷◌, ◌++◌, codes, decimal, Some, slice_get}
use Rattle.rdb_schema.specs.declared.schema.Schema.{Schema}
use Rattle.rdb_ddl.specs.declared.fault.DdlFault.{DdlFault}
use Rattle.rdb_ddl.specs.Canonical.{canonical}
use Rattle.rdb_ddl.specs.Cause.{cause_word}
use Rattle.rdb_ddl.specs.Read.{IsRead, IsRefused}
use Rattle.rdb_runner.specs.Reading.{Sight, AllRead}

-- the line that tells a fault: where it stands, and its cause
unfoldable pub fault_line : DdlFault → List ℕ
fault_line fault =
    codes "regiondb: schema " ++ decimal fault.line ++ codes ":" ++ decimal fault.column
    ++ codes " " ++ cause_word fault.cause ++ codes "\n"

-- checked: the text is the canonical text of the schema that the file declares
abbrev pub IsChecked : List ℕ → Sight → List ℕ → Type 0
IsChecked name sight text =
    (there : List ℕ) × (schema : Schema) × AllRead sight (name ∷ []) (there ∷ []) × IsRead there schema × (text ≡ canonical schema)

-- bad schema: the first file that is read is refused as a schema, and its first fault is told
abbrev pub IsBadSchema : List (List ℕ) → Sight → List ℕ → Type 0
IsBadSchema names sight text =
    (there : List ℕ) × (others : List (List ℕ)) × (fault : DdlFault)
    × AllRead sight names (there ∷ others) × IsRefused there fault × (text ≡ fault_line fault)

-- the first of the files is told, and refused as a schema, whatever the call did
abbrev pub HasBadSchema : List (List ℕ) → Sight → Type 0
HasBadSchema names sight =
    (name : List ℕ) × (there : List ℕ) × (fault : DdlFault)
    × (slice_get names 0 ≡ Some name) × (sight.told name ≡ Some there) × IsRefused there fault
