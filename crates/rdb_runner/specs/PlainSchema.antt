-- The schemas that a replay can run so far: one class, each field a number of four bytes without a sign, with `autoid` and
-- without an index or an event, and no struct.
use Rattle.std.specs.Prelude.{◌==◌, ◌&&◌, Bool, false, List, [], ◌∷◌, length}
use Rattle.std.specs.List.{list_all}
use Rattle.rdb_schema.specs.declared.schema.Class.{Class}
use Rattle.rdb_schema.specs.declared.schema.Field.{Field}
use Rattle.rdb_schema.specs.declared.schema.FieldType.{FieldType}
use Rattle.rdb_schema.specs.declared.schema.FieldType.TheVariants as types
use Rattle.rdb_schema.specs.declared.schema.Group.{Group}
use Rattle.rdb_schema.specs.declared.schema.Schema.{Schema}

-- whether a type is a number of four bytes without a sign
abbrev pub is_uint4 : FieldType → Bool
is_uint4 (types.Num bytes false) = bytes == 4
is_uint4 _ = false

-- whether each field is such a number
abbrev pub are_numbers : List Field → Bool
are_numbers fields = list_all (λ f. is_uint4 f.ty) fields

-- whether a class is of this form
abbrev pub is_plain_class : Class → Bool
is_plain_class class = class.autoid && (are_numbers class.fields && (length class.indexes == 0 && length class.events == 0))

-- whether there is one class, of this form, and no struct
abbrev pub are_plain : List Class → List Group → Bool
are_plain (class ∷ []) groups = is_plain_class class && length groups == 0
are_plain _ groups = false

-- whether a schema is of this form
abbrev pub is_plain_schema : Schema → Bool
is_plain_schema schema = are_plain schema.classes schema.groups
