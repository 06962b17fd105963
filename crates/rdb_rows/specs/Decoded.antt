-- The row that a version's bytes encode.
use Rattle.std.specs.Prelude.{◌≡◌, ℕ, List, Option, Some, None}
use Rattle.rdb_base.specs.declared.value.Value.{Value}
use Rattle.rdb_schema.specs.declared.types.ValueType.{ValueType}
use Rattle.rdb_schema.specs.Encodes.{Encodes}

-- a tombstone has no row; a version whose bytes encode a row of the types has that one
abbrev pub IsRowOf : List ValueType → Option (List ℕ) → Option (List Value) → Type 0
IsRowOf types None read = read ≡ None
IsRowOf types (Some bytes) read = (row : List Value) → Encodes types row bytes → read ≡ Some row
