-- Scripts: which lines may follow one another, what they make, and which is the first that is refused.
use Rattle.std.specs.Prelude.{◌≡◌, ⊤, ℕ, ◌+◌, ◌<◌, ◌≤◌, Bool, true, false, ◌==◌, ◌||◌, ◌&&◌, not, nat_lt, List, [], ◌∷◌, ◌++◌, length, Option, Some, None, Result, Ok, Err, ◌⊎◌, is_some}
use Rattle.std.specs.List.{list_any}
use Rattle.std.specs.Option.{option_map, option_map_or}
use Rattle.std.specs.FinMap.{empty, insert}
use Rattle.rdb_base.specs.declared.identity.Kind.{Kind}
use Rattle.rdb_base.specs.declared.identity.Kind.TheVariants as kind
use Rattle.rdb_base.specs.declared.operation.Op.{Op}
use Rattle.rdb_base.specs.declared.operation.Op.TheVariants as op
use Rattle.rdb_schema.specs.declared.schema.Schema.{Schema}
use Rattle.rdb_script.specs.declared.fault.ScriptFault.{ScriptFault}
use Rattle.rdb_script.specs.declared.fault.ScriptFault.TheVariants as fault
use Rattle.rdb_script.specs.declared.names.Assigned.{Assigned}
use Rattle.rdb_script.specs.declared.statement.Member.{Member}
use Rattle.rdb_script.specs.declared.statement.Statement.{Statement}
use Rattle.rdb_script.specs.declared.statement.Statement.TheVariants as saying
use Rattle.rdb_script.specs.declared.unit.Script.{Script}
use Rattle.rdb_script.specs.declared.unit.ScriptLine.{ScriptLine}
use Rattle.rdb_script.specs.declared.unit.Unit.{Unit as ScriptUnit}
use Rattle.rdb_script.specs.declared.unit.Unit.TheVariants as unit
use Rattle.rdb_script.specs.declared.progress.Running.{Running}
use Rattle.rdb_script.specs.declared.progress.Progress.{Progress}
use Rattle.rdb_script.specs.Lines.{lines}
use Rattle.rdb_script.specs.Statements.{Known, IsStatement}

-- before the first line
abbrev pub start : Progress
start = record { stop = None; units = []; running = None; begun = 0; names = empty; watched = [] }

-- ---- whether a line may stand where it does

abbrev pub writes : Op → Bool
writes (op.New class row id) = true
writes (op.Put class id row) = true
writes (op.Del class id) = true
writes _ = false

-- whether a transaction may have an operation: one that only reads has no write
abbrev pub may_have : Kind → Op → Bool
may_have kind.ReadWrite asked = true
may_have kind.ReadOnly asked = not (writes asked)

-- whether an open transaction takes one more operation, of 1,000 at most
abbrev pub takes : Op → Running → Bool
takes asked transaction = nat_lt (length transaction.lines) 1000 && may_have transaction.kind asked

-- whether an earlier line watches the event
abbrev pub is_watched : List Member → Member → Bool
is_watched watched m = list_any (λ w. w.class == m.class && w.place == m.place) watched

abbrev pub is_idle : Progress → Bool
is_idle p = not (is_some p.running)

-- whether no unit has begun
abbrev pub is_bare : Progress → Bool
is_bare p = is_idle p && (not (is_some p.stop) && length p.units == 0)

-- whether a statement may stand after those before it: `stop` before all else; `begin`, `watch` and `poll` outside a
-- transaction, of which there are at most 10,000; operations and ends inside; an event is watched once, and polled after
abbrev pub may_stand : Progress → Statement → Bool
may_stand p saying.Nothing = true
may_stand p (saying.Stop step) = is_bare p
may_stand p (saying.Begin mode retries) = is_idle p && nat_lt p.begun 10000
may_stand p (saying.Operation line) = option_map_or (takes line.op) p.running false
may_stand p saying.Commit = is_some p.running
may_stand p saying.Rollback = is_some p.running
may_stand p (saying.Watch class event) = is_idle p && not (is_watched p.watched (record { class = class; place = event }))
may_stand p (saying.Poll class event) = is_idle p && is_watched p.watched (record { class = class; place = event })

-- ---- what the lines make

-- what an operation's name stands for: what `new` makes or `find` finds, or a place that `seek` finds
abbrev pub assigned_by : Op → Option Assigned
assigned_by (op.New class row id) = Some (record { class = class; index = None })
assigned_by (op.Find class index key) = Some (record { class = class; index = None })
assigned_by (op.Seek class index from up) = Some (record { class = class; index = Some index })
assigned_by _ = None

-- the name stands for what its last assigning line gives it
abbrev pub assign : Known → Option (List ℕ) → Option Assigned → Known
assign known (Some name) (Some assigned) = insert known name assigned
assign known _ _ = known

abbrev pub with_line : ScriptLine → Running → Running
with_line line transaction = record transaction { lines = transaction.lines ++ line ∷ [] }

-- the unit of a transaction that ends
abbrev pub ended : Bool → Running → ScriptUnit
ended commits transaction = unit.Tx transaction.kind transaction.retries transaction.lines commits

-- the units with that of a transaction that ends, if there is one
abbrev pub with_ended : List ScriptUnit → Bool → Option Running → List ScriptUnit
with_ended units commits None = units
with_ended units commits (Some transaction) = units ++ ended commits transaction ∷ []

abbrev pub after : Progress → Statement → Progress
after p saying.Nothing = p
after p (saying.Stop step) = record p { stop = Some step }
after p (saying.Begin mode retries) = record p { running = Some (record { kind = mode; retries = retries; lines = [] }); begun = p.begun + 1 }
after p (saying.Operation line) = record p { running = option_map (with_line line) p.running; names = assign p.names line.name (assigned_by line.op) }
after p saying.Commit = record p { units = with_ended p.units true p.running; running = None }
after p saying.Rollback = record p { units = with_ended p.units false p.running; running = None }
after p (saying.Watch class event) =
    record p { units = p.units ++ unit.Watch class event ∷ []; watched = p.watched ++ (record { class = class; place = event }) ∷ [] }
after p (saying.Poll class event) = record p { units = p.units ++ unit.Poll class event ∷ [] }

-- a line that isn't refused, and how far the script has come behind it
pub record IsStep (schema : Schema) (p : Progress) (line : List ℕ) (next : Progress) : Type 0 where
  pub says : Statement
  pub said : IsStatement schema p.names line says
  pub may : may_stand p says ≡ true
  pub is : next ≡ after p says

-- lines none of which is refused, and how far the script has come behind them
abbrev pub Runs : Schema → Progress → List (List ℕ) → Progress → Type 0
Runs schema p [] end = end ≡ p
Runs schema p (line ∷ rest) end = (next : Progress) × IsStep schema p line next × Runs schema next rest end

-- a text is a script that stands for this
pub record IsScript (schema : Schema) (text : List ℕ) (script : Script) : Type 0 where
  pub end : Progress
  pub runs : Runs schema start (lines text) end
  pub idle : is_idle end ≡ true
  pub is : script ≡ record { stop = end.stop; units = end.units }

-- what is wrong behind the lines that were read: a line is refused, or the text ends inside a transaction
abbrev pub IsWrong : Schema → Progress → List (List ℕ) → Type 0
IsWrong schema p [] = is_idle p ≡ false
IsWrong schema p (line ∷ rest) = (next : Progress) → IsStep schema p line next → ⊥

-- the line of this number, from 1, is the first that is refused; it may be the one after the last
pub record IsFirstRefused (schema : Schema) (text : List ℕ) (number : ℕ) : Type 0 where
  pub before : List (List ℕ)
  pub rest : List (List ℕ)
  pub p : Progress
  pub split : lines text ≡ before ++ rest
  pub runs : Runs schema start before p
  pub place : number ≡ length before + 1
  pub wrong : IsWrong schema p rest

-- the fault is the text's first, or memory was wanting
abbrev pub IsScriptFault : Schema → List ℕ → ScriptFault → Type 0
IsScriptFault schema text (fault.Line number) = IsFirstRefused schema text number
IsScriptFault schema text fault.NoMemory = ⊤

-- the answer is this script, unless memory was wanting
abbrev pub IsScriptRead : Result Script ScriptFault → Script → Type 0
IsScriptRead (Ok found) script = found ≡ script
IsScriptRead (Err (fault.Line number)) script = ⊥
IsScriptRead (Err fault.NoMemory) script = ⊤
