-- Which of a script's lines the plain database can do. Private functions alone ask it, and every plain script has it.
use Rattle.std.specs.Prelude.{◌≡◌, IsTrue}
use Rattle.rdb_base.specs.declared.operation.Op.{Op}
use Rattle.rdb_base.specs.declared.operation.Op.TheVariants as op
use Rattle.rdb_schema.specs.declared.schema.Schema.{Schema}
use Rattle.rdb_script.specs.declared.unit.ScriptLine.{ScriptLine}
use Rattle.rdb_model.specs.Fits.{fits_row}

-- an operation that makes a row of the first class, which fits, or that reads one
abbrev pub CanDo : Schema → Op → Type 0
CanDo schema (op.New class row id) = (class ≡ 0) × IsTrue (fits_row schema 0 row)
CanDo schema (op.Get class id) = class ≡ 0
CanDo schema _ = ⊥

-- a line of such an operation
abbrev pub CanRun : Schema → ScriptLine → Type 0
CanRun schema line = CanDo schema line.op
