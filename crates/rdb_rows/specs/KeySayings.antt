-- What keys say of a version, by the version alone.
use Rattle.std.specs.Prelude.{List, Option}
use Rattle.std.specs.Option.{option_map, option_and_then}
use Rattle.rdb_base.specs.declared.value.Value.{Value}
use Rattle.rdb_cells.specs.Keys.{Version as Keyed}
use Rattle.rdb_rows.specs.declared.label.Label.{Label}
use Rattle.rdb_rows.specs.RowKeys.{KeyShape, picked, row_of}
use Rattle.rdb_rows.specs.Versions.{Version}

-- a version of a label with a row, as an index knows it
abbrev pub keyed_by : KeyShape → Label → List Value → Keyed
keyed_by shape label row = record { key = picked row shape.fields; id = label.id; serial = label.serial }

-- what is said of a version: it rests on the id, the serial and the bytes of the row alone
abbrev pub said_of : KeyShape → Version → Option Keyed
said_of shape v = option_and_then (λ bytes. option_map (keyed_by shape v.label) (row_of shape.types bytes)) v.row
