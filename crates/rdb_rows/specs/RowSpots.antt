-- Rows in cells, and the leaves that are parts of their keys.
use Rattle.std.specs.Prelude.{◌≡◌, List, Some, true, slice_get}
use Rattle.rdb_base.specs.declared.value.Leaf.{Leaf}
use Rattle.rdb_base.specs.declared.value.Value.{Value}
use Rattle.rdb_base.specs.declared.value.Value.TheVariants as value
use Rattle.rdb_schema.specs.declared.types.ValueType.{ValueType}
use Rattle.rdb_schema.specs.Encoding.{row_bytes}
use Rattle.rdb_schema.specs.Types.{row_fits}
use Rattle.rdb_access.specs.Read.{read_values}
use Rattle.rdb_cells.specs.Images.{Image}
use Rattle.rdb_rows.specs.declared.key_fields.KeyField.{KeyField}
use Rattle.rdb_rows.specs.declared.spot.Spot.{Spot}
use Rattle.rdb_rows.specs.Spots.{Stand, BeginsLeaf}

-- a row of the types begins there, and is what is read from its bytes
pub record BeginsRow (image : Image) (first : Spot) (types : List ValueType) (row : List Value) : Type 0 where
  pub fits : row_fits types row ≡ true
  pub read : row ≡ read_values types (row_bytes types row)
  pub stand : Stand image first (row_bytes types row)

abbrev pub HasRow : Image → Spot → List ValueType → Type 0
HasRow image first types = (row : List Value) × BeginsRow image first types row

-- whatever row of the types begins there, this holds
abbrev pub ForRow : Image → Spot → List ValueType → (List Value → Type 0) → Type 0
ForRow image first types Holds = (row : List Value) → BeginsRow image first types row → Holds row

-- the row has a leaf in the key's field, and it begins there
pub record IsLeafOf (image : Image) (row : List Value) (field : KeyField) (spot : Spot) : Type 0 where
  pub l : Leaf
  pub there : slice_get row field.field ≡ Some (value.Leaf l)
  pub begins : BeginsLeaf image spot field.ty l
