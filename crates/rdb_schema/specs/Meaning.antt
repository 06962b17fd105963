-- What the parts of a schema declare.
use Rattle.std.specs.Prelude.{ℕ, Bool, true, false, List, [], ◌∷◌, ◌++◌, length, slice_get, min, Option, Some, None}
use Rattle.std.specs.List.{list_any, position_or_len}
use Rattle.std.specs.Option.{option_to_list}
use Rattle.rdb_schema.specs.declared.schema.Plain.{Plain}
use Rattle.rdb_schema.specs.declared.schema.Plain.TheVariants as plains
use Rattle.rdb_schema.specs.declared.schema.FieldType.{FieldType}
use Rattle.rdb_schema.specs.declared.schema.FieldType.TheVariants as types
use Rattle.rdb_schema.specs.declared.schema.IndexKind.{IndexKind}
use Rattle.rdb_schema.specs.declared.schema.EventKind.{EventKind}
use Rattle.rdb_schema.specs.declared.schema.EventKind.TheVariants.{UpdateField}
use Rattle.rdb_schema.specs.declared.schema.Field.{Field}
use Rattle.rdb_schema.specs.declared.schema.IndexDecl.{IndexDecl}
use Rattle.rdb_schema.specs.declared.schema.Event.{Event}
use Rattle.rdb_schema.specs.declared.schema.Group.{Group}
use Rattle.rdb_schema.specs.declared.schema.Class.{Class}
use Rattle.rdb_schema.specs.declared.schema.Schema.{Schema}
use Rattle.rdb_schema.specs.declared.syntax.Part.{Part}
use Rattle.rdb_schema.specs.declared.syntax.Part.TheVariants as parts
use Rattle.rdb_schema.specs.Rules.{same, body_of, is_autoid}

-- what each part declares, by the parts after it, in their order
unfoldable pub gather : {X : Type 0} → (Part → List Part → Option X) → List Part → List X
gather from [] = []
gather from (part ∷ rest) = option_to_list (from part rest) ++ gather from rest

-- a place as a number of 32 bits
abbrev pub number_of : ℕ → ℕ
number_of place = min place 4294967295

-- the place of the struct of that name, and of the field
abbrev pub group_place : List Group → List ℕ → ℕ
group_place groups name = number_of (position_or_len (λ group. same group.name name) groups)

abbrev pub field_place : List Field → List ℕ → ℕ
field_place fields name = number_of (position_or_len (λ field. same field.name name) fields)

-- the type of a field that is no vector
abbrev pub plain_type : Plain → FieldType
plain_type (plains.Num bytes signed) = types.Num bytes signed
plain_type plains.Str = types.Str
plain_type plains.Box4 = types.Box4
plain_type (plains.Struct place) = types.Struct place

abbrev pub typed : Plain → Bool → FieldType
typed ty true = types.Vector ty
typed ty false = plain_type ty

-- the type that a part gives to the field after it
abbrev pub type_from : List Group → Part → Option FieldType
type_from groups (parts.Plain ty vector) = Some (typed ty vector)
type_from groups (parts.Named name vector) = Some (typed (plains.Struct (group_place groups name)) vector)
type_from groups _ = None

-- a field is a type and a name directly after it
abbrev pub field_with : Option FieldType → List Part → Option Field
field_with (Some ty) (parts.Member name ∷ rest) = Some (record { name = name; ty = ty })
field_with _ _ = None

unfoldable pub field_from : List Group → Part → List Part → Option Field
field_from groups part rest = field_with (type_from groups part) rest

abbrev pub fields_of : List Group → List Part → List Field
fields_of groups body = gather (field_from groups) body

-- the field's name that a part of a key gives
unfoldable pub key_name : Part → Option (List ℕ)
key_name (parts.Key name) = Some name
key_name _ = None

-- a field's place before the places of more of them
abbrev pub key_with : List Field → Option (List ℕ) → List ℕ → List ℕ
key_with fields (Some name) more = field_place fields name ∷ more
key_with fields None more = []

-- the places of the fields of a key at the front
unfoldable pub key_of : List Field → List Part → List ℕ
key_of fields [] = []
key_of fields (part ∷ rest) = key_with fields (key_name part) (key_of fields rest)

-- an index is what opens it, the fields of its key, and its name
abbrev pub index_with : Bool → IndexKind → List ℕ → Option Part → Option IndexDecl
index_with unique kind key (Some (parts.IndexName name estimate)) = Some (record { name = name; kind = kind; unique = unique; key = key; estimate = estimate })
index_with unique kind key _ = None

unfoldable pub index_from : List Field → Part → List Part → Option IndexDecl
index_from fields (parts.Index unique kind) rest = index_with unique kind (key_of fields rest) (slice_get rest (length (key_of fields rest)))
index_from fields _ rest = None

abbrev pub indexes_of : List Field → List Part → List IndexDecl
indexes_of fields body = gather (index_from fields) body

-- an event is its kind, the field of an update if there is one, and its name
abbrev pub event_with : List Field → EventKind → List Part → Option Event
event_with fields kind (parts.EventName name ∷ rest) = Some (record { name = name; kind = kind })
event_with fields kind (parts.Update field ∷ parts.EventName name ∷ rest) = Some (record { name = name; kind = UpdateField (field_place fields field) })
event_with fields kind _ = None

unfoldable pub event_from : List Field → Part → List Part → Option Event
event_from fields (parts.Event kind) rest = event_with fields kind rest
event_from fields _ rest = None

abbrev pub events_of : List Field → List Part → List Event
events_of fields body = gather (event_from fields) body

-- the estimate that an autoid gives
unfoldable pub estimate_from : Part → Option (Option ℕ)
estimate_from (parts.Autoid estimate) = Some estimate
estimate_from _ = None

abbrev pub estimate_or : Option (Option ℕ) → Option ℕ → Option ℕ
estimate_or (Some estimate) other = estimate
estimate_or None other = other

-- the estimate of the first autoid
unfoldable pub estimate_of : List Part → Option ℕ
estimate_of [] = None
estimate_of (part ∷ rest) = estimate_or (estimate_from part) (estimate_of rest)

unfoldable pub class_of : List Group → List ℕ → List Part → Class
class_of groups name body =
    let fields = fields_of groups body in
    record { name = name; fields = fields; autoid = list_any is_autoid body; estimate = estimate_of body; indexes = indexes_of fields body; events = events_of fields body }

unfoldable pub group_from : Part → List Part → Option Group
group_from (parts.Struct name) rest = Some (record { name = name; fields = fields_of [] (body_of rest) })
group_from _ rest = None

abbrev pub groups_of : List Part → List Group
groups_of syntax = gather group_from syntax

unfoldable pub class_from : List Group → Part → List Part → Option Class
class_from groups (parts.Class name) rest = Some (class_of groups name (body_of rest))
class_from groups _ rest = None

abbrev pub classes_of : List Group → List Part → List Class
classes_of groups syntax = gather (class_from groups) syntax

-- the database's name, which stands first
abbrev pub name_of : List Part → List ℕ
name_of (parts.Database name ∷ rest) = name
name_of _ = []

-- the schema that the parts declare
abbrev pub declared : List Part → Schema
declared syntax = let groups = groups_of syntax in record { name = name_of syntax; groups = groups; classes = classes_of groups syntax }
