-- When the operations that a script's lines ask for fit.
use Rattle.std.specs.Prelude.{◌≡◌, ℕ, Bool, true, IsTrue, slice_get, Some}
use Rattle.std.specs.List.{AllByRecursion}
use Rattle.rdb_base.specs.declared.operation.Op.{Op}
use Rattle.rdb_base.specs.declared.operation.Op.TheVariants as op
use Rattle.rdb_base.specs.declared.operation.Reply.{Reply}
use Rattle.rdb_base.specs.declared.operation.Reply.TheVariants as reply
use Rattle.rdb_schema.specs.declared.schema.Schema.{Schema}
use Rattle.rdb_schema.specs.Values.{row_holds}
use Rattle.rdb_script.specs.declared.unit.ScriptLine.{ScriptLine}
use Rattle.rdb_model.specs.Database.{Database, objects_of}
use Rattle.rdb_model.specs.Fits.{fits_key}
use Rattle.rdb_bindings.specs.Filling.{Answered}

-- whether the key of a place that a `seek` is told fits its index
abbrev pub place_fits : Schema → Op → Reply → Bool
place_fits schema (op.Seek class index from up) (reply.At key id) = fits_key schema class index key
place_fits schema _ _ = true

-- the key of each place that a line was told last fits the line's index
abbrev pub PlacesFit : Schema → Answered → Type 0
PlacesFit schema answered =
    (number : ℕ) (line : ScriptLine) (told : Reply) → slice_get answered number ≡ Some (line, Some told) →
    IsTrue (place_fits schema line.op told)

-- each row of a database has the types of its class
abbrev pub RowsHold : Schema → Database → Type 0
RowsHold schema db = (class : ℕ) → AllByRecursion (λ o. IsTrue (row_holds schema class o.1)) (objects_of db class)
