-- What a script's lines hold: the rows that are made fit the schema, and a transaction has at most 1,000 lines.
use Rattle.std.proofs.Common.{◌≡◌, ℕ, ◌+◌, ◌<◌, ◌≤◌, Bool, true, false, ◌&&◌, cond, not, ltb, lit≤, List, [], ◌∷◌, ◌++◌, length, Option, Some, None, refl, sym, ap, ◌∙◌, subst, arith, length-append}
use Rattle.std.specs.Prelude.{IsTrue, nat_le, is_some}
use Rattle.std.specs.List.{AllByRecursion, list_all}
use Rattle.std.specs.Option.{option_map, option_map_or}
use Rattle.std.proofs.lemmas.Bool.{false≢true}
use Rattle.std.proofs.lemmas.Bool.Decides.{nat_tests}
use Rattle.rdb_base.specs.declared.identity.Kind.TheVariants as kind
use Rattle.rdb_base.specs.declared.operation.Op.{Op}
use Rattle.rdb_base.specs.declared.operation.Op.TheVariants as op
use Rattle.rdb_base.specs.declared.value.Value.{Value}
use Rattle.rdb_schema.specs.declared.schema.Schema.{Schema}
use Rattle.rdb_model.specs.Fits.{fits_row}
use Rattle.rdb_script.specs.declared.progress.Progress.{Progress}
use Rattle.rdb_script.specs.declared.progress.Running.{Running}
use Rattle.rdb_script.specs.declared.statement.Call.{Call}
use Rattle.rdb_script.specs.declared.statement.Keyword.{Keyword}
use Rattle.rdb_script.specs.declared.statement.Keyword.TheVariants as keyword
use Rattle.rdb_script.specs.declared.statement.Statement.{Statement}
use Rattle.rdb_script.specs.declared.statement.Statement.TheVariants as saying
use Rattle.rdb_script.specs.declared.statement.Verb.{Verb}
use Rattle.rdb_script.specs.declared.statement.Verb.TheVariants as verb
use Rattle.rdb_script.specs.declared.unit.Script.{Script}
use Rattle.rdb_script.specs.declared.unit.ScriptLine.{ScriptLine}
use Rattle.rdb_script.specs.declared.unit.Unit.{Unit as ScriptUnit}
use Rattle.rdb_script.specs.declared.unit.Unit.TheVariants as unit
use Rattle.rdb_script.specs.Lines.{behind}
use Rattle.rdb_script.specs.Scripts.{start, takes, may_have, may_stand, with_line, with_ended, after, Runs, IsScript}
use Rattle.rdb_script.specs.Statements.{Known, IsLastRow, IsCall, IsAsked, IsSaidBy, is_silent, is_assignment}
use Rattle.rdb_script.specs.declared.item.Item.{Item}
use Rattle.rdb_runner.specs.PlainJob.{is_plain_op, is_plain_line, plain_unit, only_unit, plain_lines, IsPlainJob}
use Rattle.rdb_runner.specs.Runs.{CanDo, CanRun}
use Rattle.rdb_runner.proofs.PlainShape.{both_true, none_left}

-- a row that is made fits
abbrev IsWritten : Schema → Op → Type 0
IsWritten schema (op.New class row id) = IsTrue (fits_row schema class row)
IsWritten schema _ = Unit {0}

within : (n : ℕ) → n ≤ 4000 → nat_le n 4000 ≡ true
within n h = grind (arith, nat_tests)

and_true : (a b : Bool) → a ≡ true → b ≡ true → (a && b) ≡ true
and_true true b ea eb = eb
and_true false b ea eb = ea

row_fits : (schema : Schema) (class : ℕ) (text : List ℕ) (row : List Value) → IsLastRow schema class text row → IsTrue (fits_row schema class row)
row_fits schema class text row h = and_true _ _ h.is.1 (within _ h.short)

call_written : (schema : Schema) (known : Known) (asked : Verb) (text : List ℕ) (call : Call) → IsCall schema known asked text call → IsWritten schema call.op
call_written schema known verb.New text call h = subst (λ (k : Call). IsWritten schema k.op) (sym h.is) (row_fits schema h.class _ h.row h.written)
call_written schema known verb.Get text call h = subst (λ (k : Call). IsWritten schema k.op) (sym h.is) tt
call_written schema known verb.Put text call h = subst (λ (k : Call). IsWritten schema k.op) (sym h.is) tt
call_written schema known verb.Del text call h = subst (λ (k : Call). IsWritten schema k.op) (sym h.is) tt
call_written schema known verb.Find text call h = subst (λ (k : Call). IsWritten schema k.op) (sym h.is) tt
call_written schema known verb.Seek text call h = subst (λ (k : Call). IsWritten schema k.op) (sym h.is) tt
call_written schema known verb.Area text call h = subst (λ (k : Call). IsWritten schema k.op) (sym h.is) tt
call_written schema known verb.Prefix text call h = subst (λ (k : Call). IsWritten schema k.op) (sym h.is) tt
call_written schema known verb.Count text call h = subst (λ (k : Call). IsWritten schema k.op) (sym h.is) tt

-- an operation that is said is written
abbrev IsSaid : Schema → Statement → Type 0
IsSaid schema (saying.Operation line) = IsWritten schema line.op
IsSaid schema _ = Unit {0}

asked_said : (schema : Schema) (known : Known) (k : Keyword) (text : List ℕ) (says : Statement) → IsAsked schema known k text says → IsSaid schema says
asked_said schema known keyword.Stop text says h = subst (IsSaid schema) (sym h.is) tt
asked_said schema known keyword.Begin text says h = subst (IsSaid schema) (sym h.is) tt
asked_said schema known keyword.Commit text says h = subst (IsSaid schema) (sym h.1) tt
asked_said schema known keyword.Rollback text says h = subst (IsSaid schema) (sym h.1) tt
asked_said schema known keyword.Watch text says h = subst (IsSaid schema) (sym h.2) tt
asked_said schema known keyword.Poll text says h = subst (IsSaid schema) (sym h.2) tt
asked_said schema known (keyword.Operation asked) text says h = subst (IsSaid schema) (sym h.is) (call_written schema known asked text h.call h.written)

said_by : (silent assigning : Bool) (schema : Schema) (known : Known) (line : List ℕ) (says : Statement) → IsSaidBy silent assigning schema known line says → IsSaid schema says
said_by true assigning schema known line says h = subst (IsSaid schema) (sym h) tt
said_by false true schema known line says h =
    let a = h.1 in
    subst (IsSaid schema) (sym h.2) (subst (λ (l : ScriptLine). IsWritten schema l.op) (sym a.is) (call_written schema known a.asked _ a.call a.written))
said_by false false schema known line says h = asked_said schema known h.0 (behind line) says h.2

-- the lines of a transaction
abbrev AreWritten : Schema → List ScriptLine → Type 0
AreWritten schema lines = AllByRecursion (λ (l : ScriptLine). IsWritten schema l.op) lines × (length lines ≤ 1000)

abbrev IsWrittenUnit : Schema → ScriptUnit → Type 0
IsWrittenUnit schema (unit.Tx mode retries lines commits) = AreWritten schema lines
IsWrittenUnit schema (unit.Watch class event) = Unit {0}
IsWrittenUnit schema (unit.Poll class event) = Unit {0}

abbrev IsWrittenRun : Schema → Option Running → Type 0
IsWrittenRun schema None = Unit {0}
IsWrittenRun schema (Some transaction) = AreWritten schema transaction.lines

-- what holds of how far a script has come
record IsSound (schema : Schema) (p : Progress) : Type 0 where
  units : AllByRecursion (IsWrittenUnit schema) p.units
  running : IsWrittenRun schema p.running

all_more : {X : Type 0} → (P : X → Type 0) (xs : List X) (x : X) → AllByRecursion P xs → P x → AllByRecursion P (xs ++ x ∷ [])
all_more P [] x all h = (h, tt)
all_more P (y ∷ xs) x all h = (all.0, all_more P xs x all.1 h)

below : (n : ℕ) → ltb n 1000 ≡ true → n < 1000
below n h = grind (arith, nat_tests)

grown : (lines : List ScriptLine) (line : ScriptLine) → length lines < 1000 → length (lines ++ line ∷ []) ≤ 1000
grown lines line few = let count : length (lines ++ line ∷ []) ≡ length lines + 1 = length-append lines (line ∷ []) in omega arith

one_more : (schema : Schema) (line : ScriptLine) (r : Option Running) → IsWritten schema line.op → option_map_or (takes line.op) r false ≡ true → IsWrittenRun schema r → IsWrittenRun schema (option_map (with_line line) r)
one_more schema line None said may h = tt
one_more schema line (Some t) said may h =
    let few = below (length t.lines) (both_true (ltb (length t.lines) 1000) (may_have t.kind line.op) may).0 in
    (all_more (λ (l : ScriptLine). IsWritten schema l.op) t.lines line h.0 said, grown t.lines line few)

one_ended : (schema : Schema) (units : List ScriptUnit) (commits : Bool) (r : Option Running) → AllByRecursion (IsWrittenUnit schema) units → IsWrittenRun schema r → AllByRecursion (IsWrittenUnit schema) (with_ended units commits r)
one_ended schema units commits None all h = all
one_ended schema units commits (Some t) all h = all_more (IsWrittenUnit schema) units _ all h

after_sound : (schema : Schema) (p : Progress) (says : Statement) → IsSaid schema says → may_stand p says ≡ true → IsSound schema p → IsSound schema (after p says)
after_sound schema p saying.Nothing said may h = h
after_sound schema p (saying.Stop step) said may h = record { units = h.units; running = h.running }
after_sound schema p (saying.Begin mode retries) said may h = record { units = h.units; running = (tt, lit≤ tt) }
after_sound schema p (saying.Operation line) said may h = record { units = h.units; running = one_more schema line p.running said may h.running }
after_sound schema p saying.Commit said may h = record { units = one_ended schema p.units true p.running h.units h.running; running = tt }
after_sound schema p saying.Rollback said may h = record { units = one_ended schema p.units false p.running h.units h.running; running = tt }
after_sound schema p (saying.Watch class event) said may h = record { units = all_more (IsWrittenUnit schema) p.units (unit.Watch class event) h.units tt; running = h.running }
after_sound schema p (saying.Poll class event) said may h = record { units = all_more (IsWrittenUnit schema) p.units (unit.Poll class event) h.units tt; running = h.running }

runs_sound : (schema : Schema) (p : Progress) (lines : List (List ℕ)) (end : Progress) → IsSound schema p → Runs schema p lines end → IsSound schema end
runs_sound schema p [] end h runs = subst (IsSound schema) (sym runs) h
runs_sound schema p (line ∷ rest) end h runs =
    let step = runs.1 in
    let said = said_by (is_silent line) (is_assignment line) schema p.names line step.says step.said.1 in
    runs_sound schema runs.0 rest end (subst (IsSound schema) (sym step.is) (after_sound schema p step.says said step.may h)) runs.2

can_do : (schema : Schema) (asked : Op) → is_plain_op asked ≡ true → IsWritten schema asked → CanDo schema asked
can_do schema (op.New class row id) plain h = let first = none_left class plain in (first, subst (λ (k : ℕ). IsTrue (fits_row schema k row)) first h)
can_do schema (op.Get class id) plain h = none_left class plain
can_do schema (op.Put class id row) plain h = absurd (false≢true plain)
can_do schema (op.Del class id) plain h = absurd (false≢true plain)
can_do schema (op.Find class index key) plain h = absurd (false≢true plain)
can_do schema (op.Seek class index from up) plain h = absurd (false≢true plain)
can_do schema (op.Area class index rect inside) plain h = absurd (false≢true plain)
can_do schema (op.Prefix class index text way) plain h = absurd (false≢true plain)
can_do schema (op.Count class) plain h = absurd (false≢true plain)

all_can : (schema : Schema) (lines : List ScriptLine) → list_all is_plain_line lines ≡ true → AllByRecursion (λ (l : ScriptLine). IsWritten schema l.op) lines → AllByRecursion (CanRun schema) lines
all_can schema [] plain h = tt
all_can schema (l ∷ lines) plain h =
    let t = both_true (is_plain_line l) (list_all is_plain_line lines) plain in
    (can_do schema l.op (both_true (not (is_some l.from)) (is_plain_op l.op) t.0).1 h.0, all_can schema lines t.1 h.1)

chosen : {X : Type 0} → (b : Bool) (x y : X) → cond b (Some x) None ≡ Some y → (b ≡ true) × (x ≡ y)
chosen true x y e = (refl, cc)
chosen false x y e = let no : None ≡ Some y = e in cc

-- what can be run of a job's lines
pub record AreRunnable (schema : Schema) (lines : List ScriptLine) : Type 0 where
  pub each : AllByRecursion (CanRun schema) lines
  pub few : length lines ≤ 1000

of_unit : (schema : Schema) (u : ScriptUnit) (lines : List ScriptLine) → IsWrittenUnit schema u → plain_unit u ≡ Some lines → AreRunnable schema lines
of_unit schema (unit.Tx kind.ReadWrite retries ls true) lines h e =
    let t = chosen (list_all is_plain_line ls) ls lines e in
    subst (AreRunnable schema) t.1 (record { each = all_can schema ls t.0 h.0; few = h.1 })
of_unit schema (unit.Tx kind.ReadWrite retries ls false) lines h e = let no : None ≡ Some lines = e in cc
of_unit schema (unit.Tx kind.ReadOnly retries ls commits) lines h e = let no : None ≡ Some lines = e in cc
of_unit schema (unit.Watch class event) lines h e = let no : None ≡ Some lines = e in cc
of_unit schema (unit.Poll class event) lines h e = let no : None ≡ Some lines = e in cc

of_units : (schema : Schema) (units : List ScriptUnit) (lines : List ScriptLine) → AllByRecursion (IsWrittenUnit schema) units → only_unit units ≡ Some lines → AreRunnable schema lines
of_units schema [] lines all e = let no : None ≡ Some lines = e in cc
of_units schema (u ∷ []) lines all e = of_unit schema u lines all.0 e
of_units schema (u ∷ v ∷ units) lines all e = let no : None ≡ Some lines = e in cc

unstopped : (b : Bool) (found : Option (List ScriptLine)) (lines : List ScriptLine) → cond b None found ≡ Some lines → found ≡ Some lines
unstopped true found lines e = let no : None ≡ Some lines = e in cc
unstopped false found lines e = e

-- the lines of a plain script can be run
pub plain_runs : (schema : Schema) (text : List ℕ) (script : Script) (lines : List ScriptLine) → IsScript schema text script → plain_lines script ≡ Some lines → AreRunnable schema lines
plain_runs schema text script lines h e =
    let sound = runs_sound schema start _ h.end (record { units = tt; running = tt }) h.runs in
    of_units schema h.end.units lines sound.units (unstopped (is_some h.end.stop) (only_unit h.end.units) lines (sym (ap plain_lines h.is) ∙ e))

pub lines_can_run : (schema : Schema) (text : List ℕ) (items : List Item) (script : Script) (lines : List ScriptLine) → IsScript schema text script → IsPlainJob schema items script lines → AllByRecursion (CanRun schema) lines
lines_can_run schema text items script lines is plain = (plain_runs schema text script lines is plain.script_plain).each

pub lines_are_few : (schema : Schema) (text : List ℕ) (items : List Item) (script : Script) (lines : List ScriptLine) → IsScript schema text script → IsPlainJob schema items script lines → length lines ≤ 1000
lines_are_few schema text items script lines is plain = (plain_runs schema text script lines is plain.script_plain).few
