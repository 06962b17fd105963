-- Schemas whose places are those that their names stand for.
use Rattle.std.specs.Prelude.{◌≡◌, ℕ, Bool, true, false, All, List, [], Option, None}
use Rattle.rdb_schema.specs.declared.schema.Plain.{Plain}
use Rattle.rdb_schema.specs.declared.schema.Plain.TheVariants as plains
use Rattle.rdb_schema.specs.declared.schema.FieldType.{FieldType}
use Rattle.rdb_schema.specs.declared.schema.FieldType.TheVariants as types
use Rattle.rdb_schema.specs.declared.schema.EventKind.{EventKind}
use Rattle.rdb_schema.specs.declared.schema.EventKind.TheVariants as events
use Rattle.rdb_schema.specs.declared.schema.Field.{Field}
use Rattle.rdb_schema.specs.declared.schema.IndexDecl.{IndexDecl}
use Rattle.rdb_schema.specs.declared.schema.Event.{Event}
use Rattle.rdb_schema.specs.declared.schema.Group.{Group}
use Rattle.rdb_schema.specs.declared.schema.Class.{Class}
use Rattle.rdb_schema.specs.declared.schema.Schema.{Schema}
use Rattle.rdb_schema.specs.Meaning.{group_place, field_place}
use Rattle.rdb_schema.specs.Names.{group_name, field_name}

-- the place is the one at which the name of its struct is found first, and of its field
abbrev pub IsGroupPlace : List Group → ℕ → Type 0
IsGroupPlace groups place = group_place groups (group_name groups place) ≡ place

abbrev pub IsFieldPlace : List Field → ℕ → Type 0
IsFieldPlace fields place = field_place fields (field_name fields place) ≡ place

-- the struct that a plain type names, if it names one, is found at its place
abbrev pub IsPlainResolved : List Group → Plain → Type 0
IsPlainResolved groups (plains.Num bytes signed) = Unit {0}
IsPlainResolved groups plains.Str = Unit {0}
IsPlainResolved groups plains.Box4 = Unit {0}
IsPlainResolved groups (plains.Struct place) = IsGroupPlace groups place

abbrev pub IsTypeResolved : List Group → FieldType → Type 0
IsTypeResolved groups (types.Num bytes signed) = Unit {0}
IsTypeResolved groups types.Str = Unit {0}
IsTypeResolved groups types.Box4 = Unit {0}
IsTypeResolved groups (types.Struct place) = IsGroupPlace groups place
IsTypeResolved groups (types.Vector plain) = IsPlainResolved groups plain

abbrev pub IsFieldResolved : List Group → Field → Type 0
IsFieldResolved groups field = IsTypeResolved groups field.ty

abbrev pub IsIndexResolved : List Field → IndexDecl → Type 0
IsIndexResolved fields index = All (IsFieldPlace fields) index.key

abbrev pub IsKindResolved : List Field → EventKind → Type 0
IsKindResolved fields events.New = Unit {0}
IsKindResolved fields events.Delete = Unit {0}
IsKindResolved fields events.Update = Unit {0}
IsKindResolved fields (events.UpdateField place) = IsFieldPlace fields place

abbrev pub IsEventResolved : List Field → Event → Type 0
IsEventResolved fields event = IsKindResolved fields event.kind

-- a struct's fields name no struct
abbrev pub IsGroupResolved : Group → Type 0
IsGroupResolved group = All (IsFieldResolved []) group.fields

-- a size is there only beside an autoid
abbrev pub IsAutoidResolved : Bool → Option ℕ → Type 0
IsAutoidResolved true size = Unit {0}
IsAutoidResolved false size = size ≡ None

pub record IsClassResolved (groups : List Group) (class : Class) : Type 0 where
  pub fields : All (IsFieldResolved groups) class.fields
  pub autoid : IsAutoidResolved class.autoid class.estimate
  pub indexes : All (IsIndexResolved class.fields) class.indexes
  pub events : All (IsEventResolved class.fields) class.events

-- each place in its types, keys and events is the one that the name there stands for
pub record IsResolved (schema : Schema) : Type 0 where
  pub groups : All IsGroupResolved schema.groups
  pub classes : All (IsClassResolved schema.groups) schema.classes
