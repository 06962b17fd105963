-- Schemas whose names, types and sizes a text can have.
use Rattle.std.specs.Prelude.{◌≡◌, ◌<◌, ◌≤◌, ℕ, All, ◌⊎◌, List, length, Option, Some, None}
use Rattle.rdb_schema.specs.declared.schema.Plain.{Plain}
use Rattle.rdb_schema.specs.declared.schema.Plain.TheVariants as plains
use Rattle.rdb_schema.specs.declared.schema.FieldType.{FieldType}
use Rattle.rdb_schema.specs.declared.schema.FieldType.TheVariants as types
use Rattle.rdb_schema.specs.declared.schema.EventKind.{EventKind}
use Rattle.rdb_schema.specs.declared.schema.EventKind.TheVariants as events
use Rattle.rdb_schema.specs.declared.schema.Field.{Field}
use Rattle.rdb_schema.specs.declared.schema.IndexDecl.{IndexDecl}
use Rattle.rdb_schema.specs.declared.schema.Event.{Event}
use Rattle.rdb_schema.specs.declared.schema.Group.{Group}
use Rattle.rdb_schema.specs.declared.schema.Class.{Class}
use Rattle.rdb_schema.specs.declared.schema.Schema.{Schema}
use Rattle.rdb_schema.specs.Names.{IsName, group_name, field_name}

-- a number has 1, 2, 4 or 8 bytes
abbrev pub IsWidth : ℕ → Type 0
IsWidth bytes = (bytes ≡ 1) ⊎ ((bytes ≡ 2) ⊎ ((bytes ≡ 4) ⊎ (bytes ≡ 8)))

abbrev pub IsPlainSpelled : List Group → Plain → Type 0
IsPlainSpelled groups (plains.Num bytes signed) = IsWidth bytes
IsPlainSpelled groups plains.Str = Unit {0}
IsPlainSpelled groups plains.Box4 = Unit {0}
IsPlainSpelled groups (plains.Struct place) = IsName (group_name groups place)

-- the type of a class's field
abbrev pub IsTypeSpelled : List Group → FieldType → Type 0
IsTypeSpelled groups (types.Num bytes signed) = IsWidth bytes
IsTypeSpelled groups types.Str = Unit {0}
IsTypeSpelled groups types.Box4 = Unit {0}
IsTypeSpelled groups (types.Struct place) = IsName (group_name groups place)
IsTypeSpelled groups (types.Vector plain) = IsPlainSpelled groups plain

-- the type of a struct's field
abbrev pub IsMemberTypeSpelled : FieldType → Type 0
IsMemberTypeSpelled (types.Num bytes signed) = IsWidth bytes
IsMemberTypeSpelled types.Str = Unit {0}
IsMemberTypeSpelled types.Box4 = Unit {0}
IsMemberTypeSpelled (types.Struct place) = ⊥
IsMemberTypeSpelled (types.Vector plain) = ⊥

pub record IsFieldSpelled (groups : List Group) (field : Field) : Type 0 where
  pub name : IsName field.name
  pub type : IsTypeSpelled groups field.ty

pub record IsMemberSpelled (field : Field) : Type 0 where
  pub name : IsName field.name
  pub type : IsMemberTypeSpelled field.ty

-- a size has 32 bits
abbrev pub IsSizeSpelled : Option ℕ → Type 0
IsSizeSpelled None = Unit {0}
IsSizeSpelled (Some size) = size ≤ 4294967295

-- a key has a field, and each of its places is a field's
pub record IsIndexSpelled (fields : List Field) (index : IndexDecl) : Type 0 where
  pub name : IsName index.name
  pub some : 0 < length index.key
  pub key : All (λ place. IsName (field_name fields place)) index.key
  pub size : IsSizeSpelled index.estimate

abbrev pub IsKindSpelled : List Field → EventKind → Type 0
IsKindSpelled fields events.New = Unit {0}
IsKindSpelled fields events.Delete = Unit {0}
IsKindSpelled fields events.Update = Unit {0}
IsKindSpelled fields (events.UpdateField place) = IsName (field_name fields place)

pub record IsEventSpelled (fields : List Field) (event : Event) : Type 0 where
  pub name : IsName event.name
  pub kind : IsKindSpelled fields event.kind

pub record IsGroupSpelled (group : Group) : Type 0 where
  pub name : IsName group.name
  pub some : 0 < length group.fields
  pub fields : All IsMemberSpelled group.fields

pub record IsClassSpelled (groups : List Group) (class : Class) : Type 0 where
  pub name : IsName class.name
  pub some : 0 < length class.fields
  pub fields : All (IsFieldSpelled groups) class.fields
  pub size : IsSizeSpelled class.estimate
  pub indexes : All (IsIndexSpelled class.fields) class.indexes
  pub events : All (IsEventSpelled class.fields) class.events

-- every name of a schema is one, and so are the names that its types, keys and events stand for
pub record IsSpelled (schema : Schema) : Type 0 where
  pub name : IsName schema.name
  pub groups : All IsGroupSpelled schema.groups
  pub classes : All (IsClassSpelled schema.groups) schema.classes
