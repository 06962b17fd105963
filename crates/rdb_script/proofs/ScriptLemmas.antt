-- How far the reader of a script has come.
use Rattle.std.proofs.Common.{◌≡◌, ℕ, ◌+◌, Bool, true, false, not, List, [], ◌∷◌, ◌++◌, length, Option, Some, None, refl, sym, ap, ◌∙◌, subst, arith, append_assoc, length-append}
use Rattle.std.specs.Prelude.{is_some}
use Rattle.std.specs.Bool.{OnTrue}
use Rattle.std.proofs.lemmas.Bool.{false≢true}
use Rattle.std.proofs.lemmas.List.{append-nil}
use Rattle.rdb_schema.specs.declared.schema.Schema.{Schema}
use Rattle.rdb_script.specs.declared.statement.Statement.{Statement}
use Rattle.rdb_script.specs.declared.progress.Progress.{Progress}
use Rattle.rdb_script.specs.declared.unit.Script.{Script}
use Rattle.rdb_script.specs.Lines.{lines}
use Rattle.rdb_script.specs.Statements.{IsStatement}
use Rattle.rdb_script.specs.Scripts.{start, is_idle, may_stand, after, IsStep, Runs, IsScript, IsWrong, IsFirstRefused}

-- every step that a line may make is this one
abbrev pub IsOnlyStep : Schema → Progress → List ℕ → Bool → Progress → Type 0
IsOnlyStep schema p line took next = (other : Progress) → IsStep schema p line other → (took ≡ true) × (other ≡ next)

pub no_statement : (schema : Schema) (p next : Progress) (line : List ℕ) → ((says : Statement) → IsStatement schema p.names line says → ◌≡◌ {A = Option Statement} None (Some says)) → IsOnlyStep schema p line false next
no_statement schema p next line exact = λ other s. absurd (let none = exact s.says s.said in cc)

pub may_not : (schema : Schema) (p next : Progress) (line : List ℕ) (said : Statement) → ((says : Statement) → IsStatement schema p.names line says → Some said ≡ Some says) → may_stand p said ≡ false → IsOnlyStep schema p line false next
may_not schema p next line said exact not_ = λ other s.
    let same : said ≡ s.says = let e = exact s.says s.said in cc in
    absurd (false≢true (sym not_ ∙ ap (may_stand p) same ∙ s.may))

pub steps : (schema : Schema) (p next : Progress) (line : List ℕ) (said : Statement) → IsStatement schema p.names line said → may_stand p said ≡ true → next ≡ after p said → IsStep schema p line next
steps schema p next line said is may e = record { says = said; said = is; may = may; is = e }

pub only_step : (schema : Schema) (p next : Progress) (line : List ℕ) (said : Statement) → ((says : Statement) → IsStatement schema p.names line says → Some said ≡ Some says) → next ≡ after p said → IsOnlyStep schema p line true next
only_step schema p next line said exact e = λ other s.
    let same : said ≡ s.says = let h = exact s.says s.said in cc in
    (refl, s.is ∙ ap (after p) (sym same) ∙ sym e)

-- the lines that were read, and how far the script has come behind them
pub record HasRun (schema : Schema) (text rest : List ℕ) (p : Progress) (number : ℕ) : Type 0 where
  pub before : List (List ℕ)
  pub split : lines text ≡ before ++ lines rest
  pub runs : Runs schema start before p
  pub place : number ≡ length before + 1

-- whatever the text's lines make, the rest makes it from here on
abbrev pub RunsOn : Schema → List ℕ → List ℕ → Progress → Type 0
RunsOn schema text rest p = (end : Progress) → Runs schema start (lines text) end → Runs schema p (lines rest) end

runs-snoc : (schema : Schema) (p q next : Progress) (before : List (List ℕ)) (line : List ℕ) → Runs schema p before q → IsStep schema q line next → Runs schema p (before ++ line ∷ []) next
runs-snoc schema p q next [] line e s = (next, subst (λ (at : Progress). IsStep schema at line next) e s, refl)
runs-snoc schema p q next (first ∷ before) line h s = (h.0, h.1, runs-snoc schema h.0 q next before line h.2 s)

pub begins : (schema : Schema) (text : List ℕ) → HasRun schema text text start 1
begins schema text = record { before = []; split = refl; runs = refl; place = refl }

pub goes_on : (schema : Schema) (text rest line behind : List ℕ) (p next : Progress) (number : ℕ) → HasRun schema text rest p number → lines rest ≡ line ∷ lines behind → IsStep schema p line next → HasRun schema text behind next (number + 1)
goes_on schema text rest line behind p next number h e s = record {
  before = h.before ++ line ∷ [];
  split = h.split ∙ ap (λ (ls : List (List ℕ)). h.before ++ ls) e ∙ sym (append_assoc h.before (line ∷ []) (lines behind));
  runs = runs-snoc schema start p next h.before line h.runs s;
  place = let place = h.place in omega (arith, length-append h.before (line ∷ []));
}

-- what the first line and the others make
runs-cons : (schema : Schema) (p end : Progress) (ls : List (List ℕ)) (line : List ℕ) (others : List (List ℕ)) → ls ≡ line ∷ others → Runs schema p ls end → (next : Progress) × IsStep schema p line next × Runs schema next others end
runs-cons schema p end ls line others e h = subst (λ (l : List (List ℕ)). Runs schema p l end) e h

runs-nil : (schema : Schema) (p end : Progress) (ls : List (List ℕ)) → ls ≡ [] → Runs schema p ls end → end ≡ p
runs-nil schema p end ls e h = subst (λ (l : List (List ℕ)). Runs schema p l end) e h

pub runs_on : (schema : Schema) (text rest line behind : List ℕ) (p next : Progress) → RunsOn schema text rest p → lines rest ≡ line ∷ lines behind → IsOnlyStep schema p line true next → RunsOn schema text behind next
runs_on schema text rest line behind p next on e only = λ end h.
    let r = runs-cons schema p end (lines rest) line (lines behind) e (on end h) in
    subst (λ (at : Progress). Runs schema at (lines behind) end) (only r.0 r.1).1 r.2

-- a line that is refused
pub refused_at : (schema : Schema) (text rest line behind : List ℕ) (p next : Progress) (number : ℕ) → HasRun schema text rest p number → lines rest ≡ line ∷ lines behind → IsOnlyStep schema p line false next → IsFirstRefused schema text number
refused_at schema text rest line behind p next number h e only = record {
  before = h.before;
  rest = line ∷ lines behind;
  p = p;
  split = h.split ∙ ap (λ (ls : List (List ℕ)). h.before ++ ls) e;
  runs = h.runs;
  place = h.place;
  wrong = λ other s. false≢true (only other s).0;
}

pub no_script : (schema : Schema) (text rest line behind : List ℕ) (p next : Progress) (script : Script) → RunsOn schema text rest p → lines rest ≡ line ∷ lines behind → IsOnlyStep schema p line false next → IsScript schema text script → ⊥
no_script schema text rest line behind p next script on e only s =
    let r = runs-cons schema p s.end (lines rest) line (lines behind) e (on s.end s.runs) in
    false≢true (only r.0 r.1).0

-- a text that ends inside a transaction
pub not_ended : (schema : Schema) (text rest : List ℕ) (p : Progress) (number : ℕ) → HasRun schema text rest p number → lines rest ≡ [] → is_idle p ≡ false → IsFirstRefused schema text number
not_ended schema text rest p number h e open_ = record {
  before = h.before;
  rest = [];
  p = p;
  split = h.split ∙ ap (λ (ls : List (List ℕ)). h.before ++ ls) e;
  runs = h.runs;
  place = h.place;
  wrong = open_;
}

pub no_open_script : (schema : Schema) (text rest : List ℕ) (p : Progress) (script : Script) → RunsOn schema text rest p → lines rest ≡ [] → is_idle p ≡ false → IsScript schema text script → ⊥
no_open_script schema text rest p script on e open_ s =
    let same = runs-nil schema p s.end (lines rest) e (on s.end s.runs) in
    false≢true (sym open_ ∙ ap is_idle (sym same) ∙ s.idle)

-- a text that was read to its end
pub is_script : (schema : Schema) (text rest : List ℕ) (p : Progress) (number : ℕ) → HasRun schema text rest p number → lines rest ≡ [] → is_idle p ≡ true → IsScript schema text (record { stop = p.stop; units = p.units })
is_script schema text rest p number h e idle =
    let all : lines text ≡ h.before = h.split ∙ ap (λ (ls : List (List ℕ)). h.before ++ ls) e ∙ append-nil h.before in
    record {
      end = p;
      runs = subst (λ (ls : List (List ℕ)). Runs schema start ls p) (sym all) h.runs;
      idle = idle;
      is = refl;
    }

pub only_script : (schema : Schema) (text rest : List ℕ) (p : Progress) (script : Script) → RunsOn schema text rest p → lines rest ≡ [] → IsScript schema text script → ◌≡◌ {A = Script} (record { stop = p.stop; units = p.units }) script
only_script schema text rest p script on e s =
    let same = runs-nil schema p s.end (lines rest) e (on s.end s.runs) in
    let made : Progress → Script = λ (q : Progress). record { stop = q.stop; units = q.units } in
    ap made (sym same) ∙ sym s.is

-- what the answer says of the step
pub took_step : (schema : Schema) (p next : Progress) (line : List ℕ) (took : Bool) → took ≡ true → OnTrue took (IsStep schema p line next) → IsStep schema p line next
took_step schema p next line true e h = h
took_step schema p next line false e h = absurd (false≢true e)

pub only_took : (schema : Schema) (p next : Progress) (line : List ℕ) (took is : Bool) → took ≡ is → ((other : Progress) → IsStep schema p line other → (took ≡ true) × (other ≡ next)) → IsOnlyStep schema p line is next
only_took schema p next line took is e h = λ other s. (sym e ∙ (h other s).0, (h other s).1)
