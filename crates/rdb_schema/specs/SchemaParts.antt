-- The parts of a schema, in the order of its canonical text.
use Rattle.std.specs.Prelude.{ℕ, ◌++◌, Bool, true, false, List, [], ◌∷◌, Option, map}
use Rattle.std.specs.List.{flat_map}
use Rattle.rdb_schema.specs.declared.schema.Plain.{Plain}
use Rattle.rdb_schema.specs.declared.schema.Plain.TheVariants as plains
use Rattle.rdb_schema.specs.declared.schema.FieldType.{FieldType}
use Rattle.rdb_schema.specs.declared.schema.FieldType.TheVariants as types
use Rattle.rdb_schema.specs.declared.schema.EventKind.{EventKind}
use Rattle.rdb_schema.specs.declared.schema.EventKind.TheVariants as events
use Rattle.rdb_schema.specs.declared.schema.Field.{Field}
use Rattle.rdb_schema.specs.declared.schema.IndexDecl.{IndexDecl}
use Rattle.rdb_schema.specs.declared.schema.Event.{Event}
use Rattle.rdb_schema.specs.declared.schema.Group.{Group}
use Rattle.rdb_schema.specs.declared.schema.Class.{Class}
use Rattle.rdb_schema.specs.declared.schema.Schema.{Schema}
use Rattle.rdb_schema.specs.declared.syntax.Part.{Part}
use Rattle.rdb_schema.specs.declared.syntax.Part.TheVariants as parts
use Rattle.rdb_schema.specs.Names.{group_name, field_name}

-- the type of a struct's field, or of a vector's elements; a struct stands by its name
abbrev pub plain_part : List Group → Plain → Bool → Part
plain_part groups (plains.Num bytes signed) vector = parts.Plain (plains.Num bytes signed) vector
plain_part groups plains.Str vector = parts.Plain plains.Str vector
plain_part groups plains.Box4 vector = parts.Plain plains.Box4 vector
plain_part groups (plains.Struct place) vector = parts.Named (group_name groups place) vector

-- the type that is no vector, as a plain one
abbrev pub type_part : List Group → FieldType → Part
type_part groups (types.Num bytes signed) = parts.Plain (plains.Num bytes signed) false
type_part groups types.Str = parts.Plain plains.Str false
type_part groups types.Box4 = parts.Plain plains.Box4 false
type_part groups (types.Struct place) = parts.Named (group_name groups place) false
type_part groups (types.Vector plain) = plain_part groups plain true

abbrev pub field_parts : List Group → Field → List Part
field_parts groups field = type_part groups field.ty ∷ parts.Member field.name ∷ []

abbrev pub autoid_parts : Bool → Option ℕ → List Part
autoid_parts true size = parts.Autoid size ∷ []
autoid_parts false size = []

abbrev pub key_part : List Field → ℕ → Part
key_part fields place = parts.Key (field_name fields place)

abbrev pub index_parts : List Field → IndexDecl → List Part
index_parts fields index = parts.Index index.unique index.kind ∷ (map (key_part fields) index.key ++ parts.IndexName index.name index.estimate ∷ [])

abbrev pub kind_parts : List Field → EventKind → List Part
kind_parts fields events.New = parts.Event events.New ∷ []
kind_parts fields events.Delete = parts.Event events.Delete ∷ []
kind_parts fields events.Update = parts.Event events.Update ∷ []
kind_parts fields (events.UpdateField place) = parts.Event events.Update ∷ parts.Update (field_name fields place) ∷ []

abbrev pub event_parts : List Field → Event → List Part
event_parts fields event = kind_parts fields event.kind ++ parts.EventName event.name ∷ []

abbrev pub group_parts : Group → List Part
group_parts group = parts.Struct group.name ∷ flat_map (field_parts []) group.fields

-- fields, autoid, indexes and events, each group in its order
abbrev pub body_parts : List Group → Class → List Part
body_parts groups class = flat_map (field_parts groups) class.fields ++ (autoid_parts class.autoid class.estimate ++ (flat_map (index_parts class.fields) class.indexes ++ flat_map (event_parts class.fields) class.events))

abbrev pub class_parts : List Group → Class → List Part
class_parts groups class = parts.Class class.name ∷ body_parts groups class

-- the structs and then the classes
abbrev pub parts_of : Schema → List Part
parts_of schema = parts.Database schema.name ∷ (flat_map group_parts schema.groups ++ flat_map (class_parts schema.groups) schema.classes)
