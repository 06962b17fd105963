-- What a job's texts stand for, and what is said of a client or a schedule that is refused.
use Rattle.std.specs.Prelude.{◌≡◌, ℕ, List, [], ◌∷◌, ◌++◌, codes, decimal, Some}
use Rattle.rdb_schema.specs.declared.schema.Schema.{Schema}
use Rattle.rdb_ddl.specs.Read.{IsRead}
use Rattle.rdb_script.specs.declared.item.Item.{Item}
use Rattle.rdb_script.specs.declared.unit.Script.{Script}
use Rattle.rdb_script.specs.Schedule.{IsSchedule, IsFirstFault}
use Rattle.rdb_script.specs.Scripts.{IsScript, IsFirstRefused}
use Rattle.rdb_runner.specs.Reading.{Sight, AllRead}

-- the three names of a job's files: its schema, its schedule and its client
abbrev pub names_of : List ℕ → List ℕ → List ℕ → List (List ℕ)
names_of schema schedule client = schema ∷ schedule ∷ client ∷ []

-- the text is no script for the schema, and this line, from 1, is the first that is refused
pub record IsRefusedScript (schema : Schema) (text : List ℕ) (line : ℕ) : Type 0 where
  pub first : IsFirstRefused schema text line
  pub none : (script : Script) → IsScript schema text script → ⊥

-- the text is no schedule for one client, and this item, from 1, is the first that is refused
pub record IsRefusedSchedule (text : List ℕ) (number : ℕ) : Type 0 where
  pub first : IsFirstFault 1 text number
  pub none : (items : List Item) → IsSchedule 1 text items → ⊥

-- three texts declare a schema, are a schedule for one client, and are a script for the schema
pub record AreParts (schema_text schedule_text client_text : List ℕ) (schema : Schema) (items : List Item) (script : Script) : Type 0 where
  pub schema_read : IsRead schema_text schema
  pub client_read : IsScript schema client_text script
  pub schedule_read : IsSchedule 1 schedule_text items

-- the first text declares a schema for which the client's text is no script
pub record HasRefusedScript (schema_text client_text : List ℕ) (line : ℕ) : Type 0 where
  pub schema : Schema
  pub schema_read : IsRead schema_text schema
  pub refused : IsRefusedScript schema client_text line

-- the schema and the client are read, and the schedule is none for one client
pub record HasRefusedSchedule (schema_text schedule_text client_text : List ℕ) (number : ℕ) : Type 0 where
  pub schema : Schema
  pub script : Script
  pub schema_read : IsRead schema_text schema
  pub client_read : IsScript schema client_text script
  pub refused : IsRefusedSchedule schedule_text number

-- the line that tells a client's first line that is refused
unfoldable pub script_line : ℕ → ℕ → List ℕ
script_line client line = codes "regiondb: script " ++ decimal client ++ codes " line " ++ decimal line ++ codes "\n"

-- the line that tells a schedule's first item that is refused
unfoldable pub schedule_line : ℕ → List ℕ
schedule_line number = codes "regiondb: schedule item " ++ decimal number ++ codes "\n"

-- bad script: all files are read, the schema is one, the client is no script for it, and its first line that is refused is told
abbrev pub IsBadScript : List (List ℕ) → Sight → List ℕ → Type 0
IsBadScript names sight text =
    (schema schedule client : List ℕ) × (line : ℕ) × AllRead sight names (names_of schema schedule client)
    × HasRefusedScript schema client line × (text ≡ script_line 1 line)

-- bad schedule: all files are read, the schema and the client are read, the schedule is none for one client, and its first item
-- that is refused is told
abbrev pub IsBadSchedule : List (List ℕ) → Sight → List ℕ → Type 0
IsBadSchedule names sight text =
    (schema schedule client : List ℕ) × (number : ℕ) × AllRead sight names (names_of schema schedule client)
    × HasRefusedSchedule schema schedule client number × (text ≡ schedule_line number)

-- the files tell a schema, and a client that is no script for it, whatever the call did
pub record HasBadScript (names : List (List ℕ)) (sight : Sight) : Type 0 where
  pub schema_name : List ℕ
  pub schedule_name : List ℕ
  pub client_name : List ℕ
  pub named : names ≡ names_of schema_name schedule_name client_name
  pub schema_text : List ℕ
  pub client_text : List ℕ
  pub schema_told : sight.told schema_name ≡ Some schema_text
  pub client_told : sight.told client_name ≡ Some client_text
  pub schema : Schema
  pub schema_read : IsRead schema_text schema
  pub no_script : (script : Script) → IsScript schema client_text script → ⊥

-- the files tell a schema, a script for it, and a schedule that is none for one client, whatever the call did
pub record HasBadSchedule (names : List (List ℕ)) (sight : Sight) : Type 0 where
  pub schema_name : List ℕ
  pub schedule_name : List ℕ
  pub client_name : List ℕ
  pub named : names ≡ names_of schema_name schedule_name client_name
  pub schema_text : List ℕ
  pub schedule_text : List ℕ
  pub client_text : List ℕ
  pub schema_told : sight.told schema_name ≡ Some schema_text
  pub schedule_told : sight.told schedule_name ≡ Some schedule_text
  pub client_told : sight.told client_name ≡ Some client_text
  pub schema : Schema
  pub script : Script
  pub schema_read : IsRead schema_text schema
  pub client_read : IsScript schema client_text script
  pub no_schedule : (items : List Item) → IsSchedule 1 schedule_text items → ⊥
