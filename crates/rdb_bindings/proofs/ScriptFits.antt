-- Each line of a text that is a script fits, filled: line by line, as the text is read.
use Rattle.std.proofs.Common.{◌≡◌, ℕ, Bool, true, false, not, cond, List, [], ◌∷◌, ◌++◌, Option, Some, None, is_some, refl, sym, ap, ap₂, subst, ◌∙◌, append_assoc}
use Rattle.std.specs.Option.{option_and_then, option_map, option_map_or}
use Rattle.std.specs.Str.{bytes_eq}
use Rattle.std.specs.FinMap.{get, get-insert, get-empty}
use Rattle.std.proofs.lemmas.Cmp.{nat_list_cmp_total}
use Rattle.std.proofs.lemmas.List.{append-nil}
use Rattle.std.proofs.lemmas.List.Concat.{flat_map-append}
use Rattle.rdb_base.specs.declared.identity.Kind.{Kind}
use Rattle.rdb_schema.specs.declared.schema.Schema.{Schema}
use Rattle.rdb_script.specs.declared.names.Assigned.{Assigned}
use Rattle.rdb_script.specs.declared.progress.Progress.{Progress}
use Rattle.rdb_script.specs.declared.progress.Running.{Running}
use Rattle.rdb_script.specs.declared.statement.Call.{Call}
use Rattle.rdb_script.specs.declared.statement.Keyword.{Keyword}
use Rattle.rdb_script.specs.declared.statement.Keyword.TheVariants as keyword
use Rattle.rdb_script.specs.declared.statement.Statement.{Statement}
use Rattle.rdb_script.specs.declared.statement.Statement.TheVariants as saying
use Rattle.rdb_script.specs.declared.statement.Verb.{Verb}
use Rattle.rdb_script.specs.declared.statement.Verb.TheVariants as verb
use Rattle.rdb_script.specs.declared.unit.Script.{Script}
use Rattle.rdb_script.specs.declared.unit.ScriptLine.{ScriptLine}
use Rattle.rdb_script.specs.declared.unit.Unit.{Unit as ScriptUnit}
use Rattle.rdb_script.specs.declared.unit.Unit.TheVariants as unit
use Rattle.rdb_script.specs.Lines.{word, behind, lines}
use Rattle.rdb_script.specs.Statements.{Known, IsCall, IsAsked, IsSaidBy, assigns as may_assign, is_silent, is_assignment}
use Rattle.rdb_script.specs.Scripts.{start, after, assign, assigned_by, ended, is_idle, may_have, may_stand, takes, with_ended, with_line, Runs, IsScript}
use Rattle.rdb_model.specs.Answer.{find_last}
use Rattle.rdb_model.specs.Fits.{Fits}
use Rattle.rdb_model.proofs.FitsLemmas.{first_of, second_of}
use Rattle.rdb_bindings.specs.Filling.{Answered, lines_answered, lines_in, lines_of, assigns, filled}
use Rattle.rdb_bindings.specs.Fitting.{PlacesFit}
use Rattle.rdb_bindings.proofs.PlaceLemmas.{find_last_more}
use Rattle.rdb_bindings.proofs.SurveyLemmas.{same_name}
use Rattle.rdb_bindings.proofs.CursorFits.{AreKnown}
use Rattle.rdb_bindings.proofs.CallFits.{call_fits}

-- whatever replies the lines above were told, a line fits
abbrev pub FitsBelow : Schema → Kind → List ScriptLine → ScriptLine → Type 0
FitsBelow schema may above line = (answered : Answered) → lines_answered answered ≡ above → PlacesFit schema answered → Fits schema (filled answered line) may

-- so do the lines of a transaction, and those of units
abbrev pub LinesFit : Schema → Kind → List ScriptLine → List ScriptLine → Type 0
LinesFit schema may above [] = Unit {0}
LinesFit schema may above (l ∷ ls) = FitsBelow schema may above l × LinesFit schema may (above ++ l ∷ []) ls

abbrev pub UnitFits : Schema → List ScriptLine → ScriptUnit → Type 0
UnitFits schema above (unit.Tx may retries ls commits) = LinesFit schema may above ls
UnitFits schema above (unit.Watch class event) = Unit {0}
UnitFits schema above (unit.Poll class event) = Unit {0}

abbrev pub UnitsFit : Schema → List ScriptLine → List ScriptUnit → Type 0
UnitsFit schema above [] = Unit {0}
UnitsFit schema above (u ∷ us) = UnitFits schema above u × UnitsFit schema (above ++ lines_in u) us

-- the transaction that is open
abbrev pub running_lines : Option Running → List ScriptLine
running_lines None = []
running_lines (Some r) = r.lines

abbrev pub RunningFits : Schema → List ScriptLine → Option Running → Type 0
RunningFits schema above None = Unit {0}
RunningFits schema above (Some r) = LinesFit schema r.kind above r.lines

-- how far a script has come: all lines so far fit, and the names are those that they assign
pub record SoFar (schema : Schema) (units : List ScriptUnit) (running : Option Running) (known : Known) : Type 0 where
  pub units_fit : UnitsFit schema [] units
  pub running_fits : RunningFits schema (lines_of units) running
  pub names_known : AreKnown known (lines_of units ++ running_lines running)

-- one line more, and one unit more
line_more : (schema : Schema) (may : Kind) (above ls : List ScriptLine) (line : ScriptLine) → LinesFit schema may above ls → FitsBelow schema may (above ++ ls) line → LinesFit schema may above (ls ++ line ∷ [])
line_more schema may above [] line fit fits = (subst (λ (all : List ScriptLine). FitsBelow schema may all line) (append-nil above) fits, tt)
line_more schema may above (l ∷ ls) line fit fits =
    (fit.0, line_more schema may (above ++ l ∷ []) ls line fit.1 (subst (λ (all : List ScriptLine). FitsBelow schema may all line) (sym (append_assoc above (l ∷ []) ls)) fits))

unit_more : (schema : Schema) (above : List ScriptLine) (us : List ScriptUnit) (u : ScriptUnit) → UnitsFit schema above us → UnitFits schema (above ++ lines_of us) u → UnitsFit schema above (us ++ u ∷ [])
unit_more schema above [] u fit fits = (subst (λ (all : List ScriptLine). UnitFits schema all u) (append-nil above) fits, tt)
unit_more schema above (v ∷ us) u fit fits =
    (fit.0, unit_more schema (above ++ lines_in v) us u fit.1 (subst (λ (all : List ScriptLine). UnitFits schema all u) (sym (append_assoc above (lines_in v) (lines_of us))) fits))

lines_of_more : (us : List ScriptUnit) (u : ScriptUnit) → lines_of (us ++ u ∷ []) ≡ lines_of us ++ lines_in u
lines_of_more us u = flat_map-append lines_in us (u ∷ []) ∙ ap (λ ls. lines_of us ++ ls) (append-nil (lines_in u))

-- a line that assigns a name asks for an operation that gives one
abbrev pub GivesIts : Option (List ℕ) → Option Assigned → Type 0
GivesIts None gives = Unit {0}
GivesIts (Some name) None = ⊥
GivesIts (Some name) (Some gives) = Unit {0}

call_gives : (schema : Schema) (known : Known) (asked : Verb) (text : List ℕ) (call : Call) (name : Option (List ℕ)) → may_assign asked ≡ true → IsCall schema known asked text call → GivesIts name (assigned_by call.op)
call_gives schema known verb.New text call None may h = tt
call_gives schema known verb.New text call (Some name) may h = subst (λ (c : Call). GivesIts (Some name) (assigned_by c.op)) (sym h.is) tt
call_gives schema known verb.Find text call None may h = tt
call_gives schema known verb.Find text call (Some name) may h = subst (λ (c : Call). GivesIts (Some name) (assigned_by c.op)) (sym h.is) tt
call_gives schema known verb.Seek text call None may h = tt
call_gives schema known verb.Seek text call (Some name) may h = subst (λ (c : Call). GivesIts (Some name) (assigned_by c.op)) (sym h.is) tt
call_gives schema known verb.Get text call name may h = absurd (cc)
call_gives schema known verb.Put text call name may h = absurd (cc)
call_gives schema known verb.Del text call name may h = absurd (cc)
call_gives schema known verb.Area text call name may h = absurd (cc)
call_gives schema known verb.Prefix text call name may h = absurd (cc)
call_gives schema known verb.Count text call name may h = absurd (cc)

-- the names behind a line
names_more : (known : Known) (ls : List ScriptLine) (line : ScriptLine) → AreKnown known ls → GivesIts line.name (assigned_by line.op) → AreKnown (assign known line.name (assigned_by line.op)) (ls ++ line ∷ [])
names_more known ls line are gives name =
    go line.name (assigned_by line.op) gives
    ∙ sym (ap (λ (o : Option ScriptLine). option_and_then (λ (l : ScriptLine). assigned_by l.op) o) (find_last_more (assigns name) ls line) ∙ by_test (assigns name line))
  where
    by_test : (b : Bool) → option_and_then (λ (l : ScriptLine). assigned_by l.op) (cond b (Some line) (find_last (assigns name) ls)) ≡ cond b (assigned_by line.op) (option_and_then (λ (l : ScriptLine). assigned_by l.op) (find_last (assigns name) ls))
    by_test true = refl
    by_test false = refl

    go : (own : Option (List ℕ)) (gives : Option Assigned) → GivesIts own gives → get (assign known own gives) name ≡ cond (option_map_or (λ o. bytes_eq o name) own false) gives (option_and_then (λ (l : ScriptLine). assigned_by l.op) (find_last (assigns name) ls))
    go None gives is = are name
    go (Some own) None is = absurd is
    go (Some own) (Some given) is =
        get-insert nat_list_cmp_total known own given name
        ∙ ap₂ (λ (b : Bool) (o : Option Assigned). cond b (Some given) o) (same_name own name) (are name)

-- a line of operations that may stand
line_fits : (schema : Schema) (known : Known) (may : Kind) (above : List ScriptLine) (asked : Verb) (text : List ℕ) (call : Call) (name : Option (List ℕ)) → AreKnown known above → may_have may call.op ≡ true → IsCall schema known asked text call → FitsBelow schema may above (record { name = name; from = call.from; op = call.op })
line_fits schema known may above asked text call name are has is = λ answered same fit.
    call_fits schema known may answered asked text call (subst (AreKnown known) (sym same) are) fit is has

-- what a line says that asks for an operation
record IsAsking (schema : Schema) (known : Known) (line : ScriptLine) : Type 0 where
  asked : Verb
  text : List ℕ
  call : Call
  name : Option (List ℕ)
  written : IsCall schema known asked text call
  gives : GivesIts name (assigned_by call.op)
  is : line ≡ record { name = name; from = call.from; op = call.op }

same_line : (a b : ScriptLine) → saying.Operation a ≡ saying.Operation b → a ≡ b
same_line a b e = (cc)

plain_asking : (schema : Schema) (known : Known) (asked : Keyword) (text : List ℕ) (l : ScriptLine) → IsAsked schema known asked text (saying.Operation l) → IsAsking schema known l
plain_asking schema known keyword.Stop text l h = absurd (let e = h.is in cc)
plain_asking schema known keyword.Begin text l h = absurd (let e = h.is in cc)
plain_asking schema known keyword.Commit text l h = absurd (let e = h.1 in cc)
plain_asking schema known keyword.Rollback text l h = absurd (let e = h.1 in cc)
plain_asking schema known keyword.Watch text l h = absurd (let e = h.2 in cc)
plain_asking schema known keyword.Poll text l h = absurd (let e = h.2 in cc)
plain_asking schema known (keyword.Operation asked) text l h = record {
  asked = asked;
  text = text;
  call = h.call;
  name = None;
  written = h.written;
  gives = tt;
  is = same_line l (record { name = None; from = h.call.from; op = h.call.op }) h.is;
}

asking : (silent assigning : Bool) (schema : Schema) (known : Known) (line : List ℕ) (l : ScriptLine) → IsSaidBy silent assigning schema known line (saying.Operation l) → IsAsking schema known l
asking true assigning schema known line l h = absurd (cc)
asking false true schema known line l h = record {
  asked = h.1.asked;
  text = behind (behind (behind line));
  call = h.1.call;
  name = Some (word line);
  written = h.1.written;
  gives = call_gives schema known h.1.asked (behind (behind (behind line))) h.1.call (Some (word line)) h.1.may h.1.written;
  is = same_line l h.0 h.2 ∙ h.1.is;
}
asking false false schema known line l h = plain_asking schema known h.0 (behind line) l h.2

-- behind each kind of statement
module _ (schema : Schema) (us : List ScriptUnit) (known : Known) where
  operates : (running : Option Running) (l : ScriptLine) → SoFar schema us running known → IsAsking schema known l → AreKnown known (lines_of us ++ running_lines running) → option_map_or (takes l.op) running false ≡ true → SoFar schema us (option_map (with_line l) running) (assign known l.name (assigned_by l.op))
  operates None l far asks are stands = absurd (cc)
  operates (Some r) l far asks are stands =
      let has = subst (λ (line : ScriptLine). may_have r.kind line.op ≡ true) asks.is (second_of _ (may_have r.kind l.op) stands) in
      let fits = subst (λ (line : ScriptLine). FitsBelow schema r.kind (lines_of us ++ r.lines) line) (sym asks.is) (line_fits schema known r.kind (lines_of us ++ r.lines) asks.asked asks.text asks.call asks.name are has asks.written) in
      let gives = subst (λ (line : ScriptLine). GivesIts line.name (assigned_by line.op)) (sym asks.is) asks.gives in
      record {
        units_fit = far.units_fit;
        running_fits = line_more schema r.kind (lines_of us) r.lines l far.running_fits fits;
        names_known = subst (AreKnown (assign known l.name (assigned_by l.op))) (append_assoc (lines_of us) r.lines (l ∷ [])) (names_more known (lines_of us ++ r.lines) l are gives);
      }

  ends : (running : Option Running) (commits : Bool) → SoFar schema us running known → is_some running ≡ true → SoFar schema (with_ended us commits running) None known
  ends None commits far open_ = absurd (cc)
  ends (Some r) commits far open_ = record {
    units_fit = unit_more schema [] us (ended commits r) far.units_fit far.running_fits;
    running_fits = tt;
    names_known = subst (AreKnown known) (sym (lines_of_more us (ended commits r)) ∙ sym (append-nil (lines_of (us ++ ended commits r ∷ [])))) far.names_known;
  }

  begins : (running : Option Running) (may : Kind) (retries : ℕ) → SoFar schema us running known → not (is_some running) ≡ true → SoFar schema us (Some (record { kind = may; retries = retries; lines = [] })) known
  begins None may retries far idle = record { units_fit = far.units_fit; running_fits = tt; names_known = far.names_known }
  begins (Some r) may retries far idle = absurd (cc)

  passes : (running : Option Running) (u : ScriptUnit) → SoFar schema us running known → not (is_some running) ≡ true → lines_in u ≡ [] → ((above : List ScriptLine) → UnitFits schema above u) → SoFar schema (us ++ u ∷ []) running known
  passes None u far idle none fits = record {
    units_fit = unit_more schema [] us u far.units_fit (fits (lines_of us));
    running_fits = tt;
    names_known = subst (λ (ls : List ScriptLine). AreKnown known (ls ++ [])) (sym (lines_of_more us u ∙ ap (λ ls. lines_of us ++ ls) none ∙ append-nil (lines_of us))) far.names_known;
  }
  passes (Some r) u far idle none fits = absurd (cc)

-- how far a script has come, of what its reader keeps
abbrev pub FitsSoFar : Schema → Progress → Type 0
FitsSoFar schema p = SoFar schema p.units p.running p.names

said_fits : (schema : Schema) (p : Progress) (line : List ℕ) (says : Statement) → FitsSoFar schema p → IsSaidBy (is_silent line) (is_assignment line) schema p.names line says → may_stand p says ≡ true → FitsSoFar schema (after p says)
said_fits schema p line saying.Nothing far said may = far
said_fits schema p line (saying.Stop step) far said may = far
said_fits schema p line (saying.Begin mode retries) far said may = begins schema p.units p.names p.running mode retries far (first_of (is_idle p) _ may)
said_fits schema p line (saying.Operation l) far said may = operates schema p.units p.names p.running l far (asking (is_silent line) (is_assignment line) schema p.names line l said) far.names_known may
said_fits schema p line saying.Commit far said may = ends schema p.units p.names p.running true far may
said_fits schema p line saying.Rollback far said may = ends schema p.units p.names p.running false far may
said_fits schema p line (saying.Watch class event) far said may = passes schema p.units p.names p.running (unit.Watch class event) far (first_of (is_idle p) _ may) refl (λ above. tt)
said_fits schema p line (saying.Poll class event) far said may = passes schema p.units p.names p.running (unit.Poll class event) far (first_of (is_idle p) _ may) refl (λ above. tt)

runs_fit : (schema : Schema) (p end : Progress) (ls : List (List ℕ)) → FitsSoFar schema p → Runs schema p ls end → FitsSoFar schema end
runs_fit schema p end [] far e = subst (FitsSoFar schema) (sym e) far
runs_fit schema p end (line ∷ ls) far h =
    runs_fit schema h.0 end ls (subst (FitsSoFar schema) (sym h.1.is) (said_fits schema p line h.1.says far h.1.said.1 h.1.may)) h.2

starts : (schema : Schema) → FitsSoFar schema start
starts schema = record { units_fit = tt; running_fits = tt; names_known = get-empty _ }

pub script_fits : (schema : Schema) (text : List ℕ) (script : Script) → IsScript schema text script → UnitsFit schema [] script.units
script_fits schema text script is =
    subst (λ (s : Script). UnitsFit schema [] s.units) (sym is.is) (runs_fit schema start is.end (lines text) (starts schema) is.runs).units_fit
