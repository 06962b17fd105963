-- How far the reader of a report has come.
use Rattle.std.proofs.Common.{◌≡◌, ◌≢◌, ℕ, ◌+◌, Bool, true, false, List, [], ◌∷◌, ◌++◌, length, Option, Result, Err, Some, None, refl, sym, ap, ◌∙◌, subst, arith, append_assoc, length-append}
use Rattle.std.specs.Bool.{OnTrue, OnFalse}
use Rattle.std.proofs.lemmas.Bool.{false≢true}
use Rattle.std.proofs.lemmas.List.{append-nil}
use Rattle.rdb_base.specs.declared.journal.Entry.{Entry}
use Rattle.rdb_schema.specs.declared.schema.Schema.{Schema}
use Rattle.rdb_audit.specs.declared.progress.Progress.{Progress}
use Rattle.rdb_audit.specs.declared.progress.ReportLine.{ReportLine}
use Rattle.rdb_audit.specs.declared.progress.Section.TheVariants as section
use Rattle.rdb_audit.specs.declared.reader.ReadFault.{ReadFault}
use Rattle.rdb_audit.specs.declared.reader.ReadFault.TheVariants as faults
use Rattle.rdb_audit.specs.Verdicts.{IsJournalRead}
use Rattle.rdb_audit.specs.Grammar.{lines, start, entries, text_of, MayStand, after, IsLine, Runs, IsReport, IsFirstBad}

-- every line that may stand here leads there, or none may
abbrev pub IsOnlyLine : Schema → Progress → List ℕ → Bool → Progress → Type 0
IsOnlyLine schema p line took next = (other : Progress) → IsLine schema p line other → (took ≡ true) × (other ≡ next)

pub no_line : (schema : Schema) (p next : Progress) (line : List ℕ) → ((says : ReportLine) → line ≡ text_of schema p says → MayStand schema p says → ◌≡◌ {A = Option ReportLine} None (Some says)) → IsOnlyLine schema p line false next
no_line schema p next line exact = λ other s. absurd (let none = exact s.said s.text s.may in cc)

pub one_line : (schema : Schema) (p next : Progress) (line : List ℕ) (said : ReportLine) → (line ≡ text_of schema p said) × MayStand schema p said → next ≡ after p said → IsLine schema p line next
one_line schema p next line said found e = record { said = said; text = found.0; may = found.1; is = e }

pub only_line : (schema : Schema) (p next : Progress) (line : List ℕ) (said : ReportLine) → ((says : ReportLine) → line ≡ text_of schema p says → MayStand schema p says → Some said ≡ Some says) → next ≡ after p said → IsOnlyLine schema p line true next
only_line schema p next line said exact e = λ other s.
    let same : said ≡ s.said = let h = exact s.said s.text s.may in cc in
    (refl, s.is ∙ ap (after p) (sym same) ∙ sym e)

-- the lines that were read, and how far the report has come behind them
pub record HasRun (schema : Schema) (text rest : List ℕ) (p : Progress) (number : ℕ) : Type 0 where
  pub before : List (List ℕ)
  pub split : lines text ≡ before ++ lines rest
  pub runs : Runs schema start before p
  pub place : number ≡ length before + 1

-- whatever the text's lines lead to, the rest leads to it from here on
abbrev pub RunsOn : Schema → List ℕ → List ℕ → Progress → Type 0
RunsOn schema text rest p = (end : Progress) → Runs schema start (lines text) end → Runs schema p (lines rest) end

runs-snoc : (schema : Schema) (p q next : Progress) (before : List (List ℕ)) (line : List ℕ) → Runs schema p before q → IsLine schema q line next → Runs schema p (before ++ line ∷ []) next
runs-snoc schema p q next [] line e s = (next, subst (λ (at : Progress). IsLine schema at line next) e s, refl)
runs-snoc schema p q next (first ∷ before) line h s = (h.0, h.1, runs-snoc schema h.0 q next before line h.2 s)

pub begins : (schema : Schema) (text : List ℕ) → HasRun schema text text start 1
begins schema text = record { before = []; split = refl; runs = refl; place = refl }

pub goes_on : (schema : Schema) (text rest line behind : List ℕ) (p next : Progress) (number : ℕ) → HasRun schema text rest p number → lines rest ≡ line ∷ lines behind → IsLine schema p line next → HasRun schema text behind next (number + 1)
goes_on schema text rest line behind p next number h e s = record {
  before = h.before ++ line ∷ [];
  split = h.split ∙ ap (λ (ls : List (List ℕ)). h.before ++ ls) e ∙ sym (append_assoc h.before (line ∷ []) (lines behind));
  runs = runs-snoc schema start p next h.before line h.runs s;
  place = let place = h.place in omega (arith, length-append h.before (line ∷ []));
}

-- what the first line and the others lead to
runs-cons : (schema : Schema) (p end : Progress) (ls : List (List ℕ)) (line : List ℕ) (others : List (List ℕ)) → ls ≡ line ∷ others → Runs schema p ls end → (next : Progress) × IsLine schema p line next × Runs schema next others end
runs-cons schema p end ls line others e h = subst (λ (l : List (List ℕ)). Runs schema p l end) e h

runs-nil : (schema : Schema) (p end : Progress) (ls : List (List ℕ)) → ls ≡ [] → Runs schema p ls end → end ≡ p
runs-nil schema p end ls e h = subst (λ (l : List (List ℕ)). Runs schema p l end) e h

pub runs_on : (schema : Schema) (text rest line behind : List ℕ) (p next : Progress) → RunsOn schema text rest p → lines rest ≡ line ∷ lines behind → IsOnlyLine schema p line true next → RunsOn schema text behind next
runs_on schema text rest line behind p next on e only = λ end h.
    let r = runs-cons schema p end (lines rest) line (lines behind) e (on end h) in
    subst (λ (at : Progress). Runs schema at (lines behind) end) (only r.0 r.1).1 r.2

-- a line that may not stand where it stands
pub bad_at : (schema : Schema) (text rest line behind : List ℕ) (p next : Progress) (number : ℕ) → HasRun schema text rest p number → lines rest ≡ line ∷ lines behind → IsOnlyLine schema p line false next → IsFirstBad schema text number
bad_at schema text rest line behind p next number h e only = record {
  before = h.before;
  rest = line ∷ lines behind;
  p = p;
  split = h.split ∙ ap (λ (ls : List (List ℕ)). h.before ++ ls) e;
  runs = h.runs;
  place = h.place;
  wrong = λ other s. false≢true (only other s).0;
}

pub no_report : (schema : Schema) (text rest line behind : List ℕ) (p next : Progress) (journal : List Entry) → RunsOn schema text rest p → lines rest ≡ line ∷ lines behind → IsOnlyLine schema p line false next → IsReport schema text journal → ⊥
no_report schema text rest line behind p next journal on e only s =
    let r = runs-cons schema p s.end (lines rest) line (lines behind) e (on s.end s.runs) in
    false≢true (only r.0 r.1).0

-- a text without the totals
pub unended : (schema : Schema) (text rest : List ℕ) (p : Progress) (number : ℕ) → HasRun schema text rest p number → lines rest ≡ [] → p.section ≢ section.Over → IsFirstBad schema text number
unended schema text rest p number h e open_ = record {
  before = h.before;
  rest = [];
  p = p;
  split = h.split ∙ ap (λ (ls : List (List ℕ)). h.before ++ ls) e;
  runs = h.runs;
  place = h.place;
  wrong = open_;
}

pub no_unended : (schema : Schema) (text rest : List ℕ) (p : Progress) (journal : List Entry) → RunsOn schema text rest p → lines rest ≡ [] → p.section ≢ section.Over → IsReport schema text journal → ⊥
no_unended schema text rest p journal on e open_ s =
    let same = runs-nil schema p s.end (lines rest) e (on s.end s.runs) in
    open_ (ap (λ (q : Progress). q.section) (sym same) ∙ s.over)

-- a text that was read to its end
pub is_report : (schema : Schema) (text rest : List ℕ) (p : Progress) (number : ℕ) → HasRun schema text rest p number → lines rest ≡ [] → p.section ≡ section.Over → IsReport schema text (entries p)
is_report schema text rest p number h e over =
    let all : lines text ≡ h.before = h.split ∙ ap (λ (ls : List (List ℕ)). h.before ++ ls) e ∙ append-nil h.before in
    record {
      end = p;
      runs = subst (λ (ls : List (List ℕ)). Runs schema start ls p) (sym all) h.runs;
      over = over;
      is = refl;
    }

pub only_report : (schema : Schema) (text rest : List ℕ) (p : Progress) (journal : List Entry) → RunsOn schema text rest p → lines rest ≡ [] → IsReport schema text journal → entries p ≡ journal
only_report schema text rest p journal on e s =
    let same = runs-nil schema p s.end (lines rest) e (on s.end s.runs) in
    ap entries (sym same) ∙ sym s.is

-- what the answer says of the line
pub took_line : (schema : Schema) (p next : Progress) (line : List ℕ) (took : Bool) → took ≡ true → OnTrue took (IsLine schema p line next) → IsLine schema p line next
took_line schema p next line true e h = h
took_line schema p next line false e h = absurd (false≢true e)

pub only_took : (schema : Schema) (p next : Progress) (line : List ℕ) (took is : Bool) → took ≡ is → ((other : Progress) → IsLine schema p line other → (took ≡ true) × (other ≡ next)) → IsOnlyLine schema p line is next
only_took schema p next line took is e h = λ other s. (sym e ∙ (h other s).0, (h other s).1)

-- the equation that a test of the section gives
pub is_over : (p : Progress) (b : Bool) → b ≡ true → OnTrue b (p.section ≡ section.Over) → p.section ≡ section.Over
is_over p true e h = h
is_over p false e h = absurd (false≢true e)

pub not_over : (p : Progress) (b : Bool) → b ≡ false → OnFalse b (p.section ≢ section.Over) → p.section ≢ section.Over
not_over p true e h = absurd (false≢true (sym e))
not_over p false e h = h

-- where memory was wanting nothing is said of the journal
pub none_read : (r : Result (List Entry) ReadFault) (fault : ReadFault) (journal : List Entry) → r ≡ Err fault → fault ≡ faults.NoMemory → IsJournalRead r journal
none_read r fault journal e f = subst (λ (q : Result (List Entry) ReadFault). IsJournalRead q journal) (sym (e ∙ ap (λ (y : ReadFault). Err y) f)) tt
