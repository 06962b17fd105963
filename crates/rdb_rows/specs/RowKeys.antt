-- What the cells of a version say of its key.
use Rattle.std.specs.Prelude.{◌≡◌, ◌==◌, ◌&&◌, ◌++◌, ℕ, zero, suc, List, [], ◌∷◌, take, slice_get, Option, Some, None, Bool, true, false, Contains, if◌then◌else◌}
use Rattle.std.specs.List.{filter_map}
use Rattle.std.specs.Option.{option_map, option_map_or, option_and_then}
use Rattle.rdb_base.specs.declared.value.Value.{Value}
use Rattle.rdb_schema.specs.declared.schema.FieldType.{FieldType}
use Rattle.rdb_schema.specs.declared.schema.Schema.{Schema}
use Rattle.rdb_schema.specs.declared.types.ValueType.{ValueType}
use Rattle.rdb_schema.specs.declared.types.ValueType.TheVariants as values
use Rattle.rdb_schema.specs.Encoding.{row_bytes}
use Rattle.rdb_schema.specs.Indexes.{fields_of}
use Rattle.rdb_schema.specs.Types.{row_fits, types_of}
use Rattle.rdb_access.specs.Read.{read_values}
use Rattle.rdb_pages.specs.declared.cell.Cell.{Cell}
use Rattle.rdb_cells.specs.declared.formats.version.VersionHeader.{VersionHeader}
use Rattle.rdb_cells.specs.declared.kind.Kind.{Kind}
use Rattle.rdb_cells.specs.declared.kind.Kind.TheVariants as kind
use Rattle.rdb_cells.specs.Images.{Image}
use Rattle.rdb_cells.specs.Keys.{Version, Meaning}
use Rattle.rdb_cells.specs.RowFormat.{row_in}
use Rattle.rdb_cells.specs.VersionFormat.{header_in}
use Rattle.rdb_cells.specs.Words.{kind_number, number_of}
use Rattle.rdb_rows.specs.Rows.{cells_for}

-- where the key of an index stands: the types of the class's fields, and the numbers of those that are the key's
pub record KeyShape : Type 0 where
  pub types : List ValueType
  pub fields : List ℕ

-- the key of a class's index
abbrev pub key_shape : Schema → ℕ → ℕ → KeyShape
key_shape schema class index = record { types = types_of schema class; fields = fields_of schema class index }

-- each field of the key is a leaf
abbrev pub AreLeaves : KeyShape → Type 0
AreLeaves shape = (field : ℕ) → Contains shape.fields field → (ty : FieldType) × (slice_get shape.types field ≡ Some (values.Leaf ty))

-- those of the fields of these numbers
abbrev pub picked : {A : Type 0} → List A → List ℕ → List A
picked xs fields = filter_map (slice_get xs) fields

-- the types of the key's fields
abbrev pub key_types : KeyShape → List ValueType
key_types shape = picked shape.types shape.fields

-- the cell there, if it is of a kind
abbrev pub of_kind : Kind → Option Cell → Option Cell
of_kind kind None = None
of_kind kind (Some cell) = if kind_number cell == number_of kind then Some cell else None

-- the bytes in so many row cells, from a number on; fewer where there is no row cell
abbrev pub bytes_from : Image → ℕ → ℕ → List ℕ
bytes_from image zero n = []
bytes_from image (suc many) n =
    option_map_or (λ cell. (row_in cell).bytes ++ bytes_from image many (row_in cell).next.number) (of_kind kind.Row (image n)) []

abbrev pub same_bytes : List ℕ → List ℕ → Bool
same_bytes [] [] = true
same_bytes (x ∷ xs) (y ∷ ys) = (x == y) && same_bytes xs ys
same_bytes _ _ = false

-- the row, if bytes encode it
abbrev pub if_encoded : List ValueType → List ℕ → List Value → Option (List Value)
if_encoded types bytes row = if row_fits types row && same_bytes (row_bytes types row) bytes then Some row else None

-- the row that bytes encode, if they encode one
abbrev pub row_of : List ValueType → List ℕ → Option (List Value)
row_of types bytes = if_encoded types bytes (read_values types bytes)

-- the bytes of the row that a header leads to
abbrev pub row_at : Image → VersionHeader → List ℕ
row_at image h = take h.row_length (bytes_from image (cells_for h.row_length) h.first_row.number)

-- the version of a header whose row is this one
abbrev pub keyed : KeyShape → VersionHeader → List Value → Version
keyed shape h row = record { key = picked row shape.fields; id = h.id; serial = h.serial }

-- the version that a header says, if it isn't a tombstone and leads to a row of the class
abbrev pub version_of_header : KeyShape → Image → VersionHeader → Option Version
version_of_header shape image h =
    if h.tombstone then None else option_map (keyed shape h) (row_of shape.types (row_at image h))

-- the version whose header stands at a number, if it has a key
abbrev pub version_at : KeyShape → Image → ℕ → Option Version
version_at shape image n = option_and_then (λ cell. version_of_header shape image (header_in cell)) (of_kind kind.Version (image n))

-- what the keys of an index mean
abbrev pub key_meaning : KeyShape → Meaning
key_meaning shape = record { version_of = version_at shape; fits = row_fits (key_types shape); encoding = row_bytes (key_types shape) }
