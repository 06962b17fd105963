-- The jobs that a replay can run so far, by what their files stand for: a plain schema, the items `1*` and `1`, and a script of
-- one transaction that commits and whose lines make rows and read rows by their ids.
use Rattle.std.specs.Prelude.{◌≡◌, ℕ, ◌==◌, ◌&&◌, ◌⊎◌, Bool, true, false, not, List, [], ◌∷◌, if◌then◌else◌, Option, Some, None, is_some}
use Rattle.std.specs.List.{list_all}
use Rattle.rdb_base.specs.declared.identity.Kind.TheVariants as kind
use Rattle.rdb_base.specs.declared.operation.Op.{Op}
use Rattle.rdb_base.specs.declared.operation.Op.TheVariants as op
use Rattle.rdb_schema.specs.declared.schema.Schema.{Schema}
use Rattle.rdb_script.specs.declared.item.Item.{Item}
use Rattle.rdb_script.specs.declared.item.Item.TheVariants as item
use Rattle.rdb_script.specs.declared.unit.Script.{Script}
use Rattle.rdb_script.specs.declared.unit.ScriptLine.{ScriptLine}
use Rattle.rdb_script.specs.declared.unit.Unit.{Unit as ScriptUnit}
use Rattle.rdb_script.specs.declared.unit.Unit.TheVariants as unit
use Rattle.rdb_runner.specs.PlainSchema.{is_plain_schema}

-- whether an operation makes a row of the first class, or reads one
abbrev pub is_plain_op : Op → Bool
is_plain_op (op.New class row id) = class == 0
is_plain_op (op.Get class id) = class == 0
is_plain_op _ = false

-- whether a line is such an operation, and takes no object from a name; the name that it may assign has no effect
abbrev pub is_plain_line : ScriptLine → Bool
is_plain_line line = not (is_some line.from) && is_plain_op line.op

-- the lines, where each is such a line
abbrev pub if_plain : List ScriptLine → Option (List ScriptLine)
if_plain lines = if list_all is_plain_line lines then Some lines else None

-- the lines of a transaction that may write and commits, where each is such a line; how often it would be begun again has no
-- effect, since the only client meets no conflict
abbrev pub plain_unit : ScriptUnit → Option (List ScriptLine)
plain_unit (unit.Tx kind.ReadWrite retries lines true) = if_plain lines
plain_unit _ = None

-- the lines of one such transaction and nothing else
abbrev pub only_unit : List ScriptUnit → Option (List ScriptLine)
only_unit (one ∷ []) = plain_unit one
only_unit _ = None

-- the lines of a script of one such transaction, without a stop
abbrev pub plain_lines : Script → Option (List ScriptLine)
plain_lines script = if is_some script.stop then None else only_unit script.units

-- whether an item is `1*`
abbrev pub is_first_unit : Item → Bool
is_first_unit (item.Unit client) = client == 1
is_first_unit _ = false

-- whether an item is `1`
abbrev pub is_first_step : Item → Bool
is_first_step (item.Step client) = client == 1
is_first_step _ = false

-- whether the items are `1*` and `1`
abbrev pub is_plain_schedule : List Item → Bool
is_plain_schedule (first ∷ second ∷ []) = is_first_unit first && is_first_step second
is_plain_schedule _ = false

-- a job of the simplest form, with these lines
pub record IsPlainJob (schema : Schema) (items : List Item) (script : Script) (lines : List ScriptLine) : Type 0 where
  pub schema_plain : is_plain_schema schema ≡ true
  pub schedule_plain : is_plain_schedule items ≡ true
  pub script_plain : plain_lines script ≡ Some lines

-- the first of schema, schedule and script, by its place, that isn't of the simplest form
abbrev pub IsOther : Schema → List Item → Script → ℕ → Type 0
IsOther schema items script place =
    ((place ≡ 0) × (is_plain_schema schema ≡ false))
    ⊎ (((place ≡ 1) × (is_plain_schema schema ≡ true) × (is_plain_schedule items ≡ false))
    ⊎ ((place ≡ 2) × (is_plain_schema schema ≡ true) × (is_plain_schedule items ≡ true) × (plain_lines script ≡ None)))
