-- Which replays aren't built yet, and with which text that is told. This goes when every job can be replayed.
use Rattle.std.specs.Prelude.{◌≡◌, ℕ, List, ◌++◌, codes, Some, slice_get}
use Rattle.rdb_schema.specs.declared.schema.Schema.{Schema}
use Rattle.rdb_script.specs.declared.item.Item.{Item}
use Rattle.rdb_script.specs.declared.unit.Script.{Script}
use Rattle.rdb_script.specs.declared.unit.ScriptLine.{ScriptLine}
use Rattle.rdb_script.specs.Schedule.{IsSchedule}
use Rattle.rdb_script.specs.Scripts.{IsScript}
use Rattle.rdb_runner.specs.Parts.{names_of, AreParts}
use Rattle.rdb_runner.specs.PlainJob.{IsPlainJob, IsOther}
use Rattle.rdb_runner.specs.Reading.{Sight, AllRead}

-- the three texts are read, each in one way, and the first of them, by its place, isn't of the simplest form
pub record IsFirstOther (schema_text schedule_text client_text : List ℕ) (place : ℕ) : Type 0 where
  pub schema : Schema
  pub items : List Item
  pub script : Script
  pub parts : AreParts schema_text schedule_text client_text schema items script
  pub script_only : (another : Script) → IsScript schema client_text another → script ≡ another
  pub items_only : (others : List Item) → IsSchedule 1 schedule_text others → items ≡ others
  pub other : IsOther schema items script place

-- not built: the first file that isn't of the simplest form is named
abbrev pub IsNotBuilt : List (List ℕ) → Sight → List ℕ → Type 0
IsNotBuilt names sight text =
    (schema schedule client : List ℕ) × (place : ℕ) × (name : List ℕ) × AllRead sight names (names_of schema schedule client)
    × IsFirstOther schema schedule client place × (slice_get names place ≡ Some name)
    × (text ≡ codes "regiondb: not built " ++ name ++ codes "\n")

-- the files tell these texts, and each is of the simplest form
pub record ArePlain (names : List (List ℕ)) (sight : Sight) : Type 0 where
  pub schema_name : List ℕ
  pub schedule_name : List ℕ
  pub client_name : List ℕ
  pub named : names ≡ names_of schema_name schedule_name client_name
  pub schema_text : List ℕ
  pub schedule_text : List ℕ
  pub client_text : List ℕ
  pub schema_told : sight.told schema_name ≡ Some schema_text
  pub schedule_told : sight.told schedule_name ≡ Some schedule_text
  pub client_told : sight.told client_name ≡ Some client_text
  pub schema : Schema
  pub items : List Item
  pub script : Script
  pub lines : List ScriptLine
  pub parts : AreParts schema_text schedule_text client_text schema items script
  pub plain : IsPlainJob schema items script lines
