-- In which order the parts of a schema's text stand, and how they are spelled: the grammar without its signs.
use Rattle.std.specs.Prelude.{◌≡◌, Bool, true, false, List, [], ◌∷◌, Option, Some, None}
use Rattle.rdb_schema.specs.declared.schema.Plain.{Plain}
use Rattle.rdb_schema.specs.declared.schema.Plain.TheVariants as plains
use Rattle.rdb_schema.specs.declared.schema.EventKind.TheVariants as events
use Rattle.rdb_schema.specs.declared.syntax.Part.{Part}
use Rattle.rdb_schema.specs.declared.syntax.Part.TheVariants as parts
use Rattle.rdb_schema.specs.Names.{IsName}
use Rattle.rdb_schema.specs.SpelledSchemas.{IsWidth, IsSizeSpelled}

-- what stood last: a state of the grammar
pub data State : Type 0 where
  Start : State
  Top : State
  GroupMembers : (first : Bool) → State
  GroupField : State
  ClassMembers : State
  ClassField : State
  KeyFirst : State
  Keys : State
  Updating : State
  Ending : State

-- which part may come, and what may come after it
abbrev pub goes : State → Part → Option State
goes Start (parts.Database name) = Some Top
goes Top (parts.Struct name) = Some (GroupMembers true)
goes Top (parts.Class name) = Some ClassMembers
goes (GroupMembers first) (parts.Plain ty false) = Some GroupField
goes (GroupMembers false) (parts.Struct name) = Some (GroupMembers true)
goes (GroupMembers false) (parts.Class name) = Some ClassMembers
goes GroupField (parts.Member name) = Some (GroupMembers false)
goes ClassMembers (parts.Plain ty vector) = Some ClassField
goes ClassMembers (parts.Named name vector) = Some ClassField
goes ClassMembers (parts.Autoid size) = Some ClassMembers
goes ClassMembers (parts.Index unique kind) = Some KeyFirst
goes ClassMembers (parts.Event events.New) = Some Ending
goes ClassMembers (parts.Event events.Delete) = Some Ending
goes ClassMembers (parts.Event events.Update) = Some Updating
goes ClassMembers (parts.Struct name) = Some (GroupMembers true)
goes ClassMembers (parts.Class name) = Some ClassMembers
goes ClassField (parts.Member name) = Some ClassMembers
goes KeyFirst (parts.Key name) = Some Keys
goes Keys (parts.Key name) = Some Keys
goes Keys (parts.IndexName name size) = Some ClassMembers
goes Updating (parts.Update name) = Some Ending
goes Updating (parts.EventName name) = Some ClassMembers
goes Ending (parts.EventName name) = Some ClassMembers
goes _ _ = None

abbrev pub ends : State → Bool
ends Top = true
ends (GroupMembers false) = true
ends ClassMembers = true
ends _ = false

abbrev pub IsPlainWord : Plain → Type 0
IsPlainWord (plains.Num bytes signed) = IsWidth bytes
IsPlainWord plains.Str = Unit {0}
IsPlainWord plains.Box4 = Unit {0}
IsPlainWord (plains.Struct place) = ⊥

-- the names and sizes of a part are spelled
abbrev pub IsGood : Part → Type 0
IsGood (parts.Database name) = IsName name
IsGood (parts.Struct name) = IsName name
IsGood (parts.Class name) = IsName name
IsGood (parts.Plain ty vector) = IsPlainWord ty
IsGood (parts.Named name vector) = IsName name
IsGood (parts.Member name) = IsName name
IsGood (parts.Autoid size) = IsSizeSpelled size
IsGood (parts.Index unique kind) = Unit {0}
IsGood (parts.Key name) = IsName name
IsGood (parts.IndexName name size) = IsName name × IsSizeSpelled size
IsGood (parts.Event kind) = Unit {0}
IsGood (parts.Update name) = IsName name
IsGood (parts.EventName name) = IsName name

abbrev pub fits_on : Option State → (State → Type 0) → Type 0
fits_on None Then = ⊥
fits_on (Some state) Then = Then state

-- the parts may come there, one after another
abbrev pub Fits : State → List Part → Type 0
Fits state [] = ends state ≡ true
Fits state (part ∷ rest) = IsGood part × fits_on (goes state part) (λ next. Fits next rest)

-- the parts are those of a schema's text: the database's name, and then structs and classes
abbrev pub AreParts : List Part → Type 0
AreParts syntax = Fits Start syntax
