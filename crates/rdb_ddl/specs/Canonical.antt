-- The canonical text of a schema.
use Rattle.std.specs.Prelude.{ℕ, ◌++◌, Bool, true, false, codes, List, [], ◌∷◌, Option, Some, None}
use Rattle.std.specs.List.{flat_map}
use Rattle.std.specs.Fmt.{decimal}
use Rattle.rdb_schema.specs.declared.schema.Plain.{Plain}
use Rattle.rdb_schema.specs.declared.schema.Plain.TheVariants as plains
use Rattle.rdb_schema.specs.declared.schema.FieldType.{FieldType}
use Rattle.rdb_schema.specs.declared.schema.FieldType.TheVariants as types
use Rattle.rdb_schema.specs.declared.schema.IndexKind.{IndexKind}
use Rattle.rdb_schema.specs.declared.schema.IndexKind.TheVariants as kinds
use Rattle.rdb_schema.specs.declared.schema.EventKind.{EventKind}
use Rattle.rdb_schema.specs.declared.schema.EventKind.TheVariants as events
use Rattle.rdb_schema.specs.declared.schema.Field.{Field}
use Rattle.rdb_schema.specs.declared.schema.IndexDecl.{IndexDecl}
use Rattle.rdb_schema.specs.declared.schema.Event.{Event}
use Rattle.rdb_schema.specs.declared.schema.Group.{Group}
use Rattle.rdb_schema.specs.declared.schema.Class.{Class}
use Rattle.rdb_schema.specs.declared.schema.Schema.{Schema}
use Rattle.rdb_schema.specs.Names.{group_name, field_name}

-- a whole number's type, as `uint4`
unfoldable pub number_text : ℕ → Bool → List ℕ
number_text bytes true = codes "int" ++ decimal bytes
number_text bytes false = codes "uint" ++ decimal bytes

unfoldable pub plain_text : List Group → Plain → List ℕ
plain_text groups (plains.Num bytes signed) = number_text bytes signed
plain_text groups plains.Str = codes "string"
plain_text groups plains.Box4 = codes "rect<int4>"
plain_text groups (plains.Struct place) = group_name groups place

unfoldable pub type_text : List Group → FieldType → List ℕ
type_text groups (types.Num bytes signed) = number_text bytes signed
type_text groups types.Str = codes "string"
type_text groups types.Box4 = codes "rect<int4>"
type_text groups (types.Struct place) = group_name groups place
type_text groups (types.Vector plain) = codes "vector<" ++ plain_text groups plain ++ codes ">"

-- each member stands in a line of its own, after two spaces
unfoldable pub field_text : List Group → Field → List ℕ
field_text groups field = codes "  " ++ type_text groups field.ty ++ codes " " ++ field.name ++ codes ";\n"

-- a size in brackets, where there is one
unfoldable pub size_text : Option ℕ → List ℕ
size_text None = []
size_text (Some size) = codes "[" ++ decimal size ++ codes "]"

unfoldable pub autoid_text : Bool → Option ℕ → List ℕ
autoid_text true size = codes "  autoid" ++ size_text size ++ codes ";\n"
autoid_text false size = []

unfoldable pub kind_text : IndexKind → List ℕ
kind_text kinds.Hash = codes "hash"
kind_text kinds.Tree = codes "tree"
kind_text kinds.Rtree = codes "rtree"
kind_text kinds.Patricia = codes "patricia"

unfoldable pub unique_text : Bool → List ℕ
unique_text true = codes "unique "
unique_text false = []

-- a sign before a field's name
abbrev pub named_after : List Field → List ℕ → ℕ → List ℕ
named_after fields sign place = sign ++ field_name fields place

-- the fields of a key, with commas between them
unfoldable pub key_text : List Field → List ℕ → List ℕ
key_text fields [] = []
key_text fields (place ∷ places) = field_name fields place ++ flat_map (named_after fields (codes ",")) places

unfoldable pub index_text : List Field → IndexDecl → List ℕ
index_text fields index = codes "  " ++ unique_text index.unique ++ kind_text index.kind ++ codes "<" ++ key_text fields index.key ++ codes "> " ++ index.name ++ size_text index.estimate ++ codes ";\n"

unfoldable pub event_kind_text : List Field → EventKind → List ℕ
event_kind_text fields events.New = codes "new"
event_kind_text fields events.Delete = codes "delete"
event_kind_text fields events.Update = codes "update"
event_kind_text fields (events.UpdateField place) = codes "update " ++ field_name fields place

unfoldable pub event_text : List Field → Event → List ℕ
event_text fields event = codes "  event<" ++ event_kind_text fields event.kind ++ codes "> " ++ event.name ++ codes ";\n"

-- a struct stands after an empty line
unfoldable pub group_text : Group → List ℕ
group_text group = codes "\nstruct " ++ group.name ++ codes " {\n" ++ flat_map (field_text []) group.fields ++ codes "};\n"

-- a class stands after an empty line: its fields, its autoid, its indexes and its events
unfoldable pub class_text : List Group → Class → List ℕ
class_text groups class = codes "\nclass " ++ class.name ++ codes " {\n" ++ flat_map (field_text groups) class.fields ++ autoid_text class.autoid class.estimate ++ flat_map (index_text class.fields) class.indexes ++ flat_map (event_text class.fields) class.events ++ codes "};\n"

-- the database's name, the structs and the classes, each in their order
unfoldable pub canonical : Schema → List ℕ
canonical schema = codes "declare database " ++ schema.name ++ codes ";\n" ++ flat_map group_text schema.groups ++ flat_map (class_text schema.groups) schema.classes
