-- Bytes that encode a row.
use Rattle.std.specs.Prelude.{◌≡◌, ℕ, IsTrue, List}
use Rattle.rdb_base.specs.declared.value.Value.{Value}
use Rattle.rdb_schema.specs.declared.types.ValueType.{ValueType}
use Rattle.rdb_schema.specs.Types.{row_fits}
use Rattle.rdb_schema.specs.Encoding.{row_bytes}
use Rattle.rdb_schema.specs.Proper.{IsProperRow}

-- the row is one that a program can hold, it has a value of each type, and the bytes are its encoding
pub record Encodes (types : List ValueType) (row : List Value) (bytes : List ℕ) : Type 0 where
  pub fits : IsTrue (row_fits types row)
  pub proper : IsProperRow row
  pub bytes_are : bytes ≡ row_bytes types row
