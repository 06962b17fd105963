-- What is said of a line that begins as that of the totals does.
use Rattle.std.proofs.Common.{◌≡◌, ◌≢◌, ℕ, Bool, true, false, List, Result, Ok, Err, IfOk, refl, sym, ◌∙◌}
use Rattle.std.specs.Bool.{OnTrue, OnFalse}
use Rattle.rdb_schema.specs.declared.schema.Schema.{Schema}
use Rattle.rdb_journal.specs.Report.{totals_line}
use Rattle.rdb_audit.specs.declared.progress.Progress.{Progress}
use Rattle.rdb_audit.specs.declared.progress.Section.TheVariants as section
use Rattle.rdb_audit.specs.declared.progress.ReportLine.{ReportLine}
use Rattle.rdb_audit.specs.declared.progress.ReportLine.TheVariants as says
use Rattle.rdb_audit.specs.Grammar.{entries, is_last, text_of, MayStand, after, IsLine}
use Rattle.rdb_audit.proofs.LineLemmas.{last_says}

abbrev pub Took : Progress → List ℕ → Progress → Type 0
Took p line next = (line ≡ totals_line (entries p)) × (p.section ≢ section.Over) × (next ≡ after p says.Totals)

abbrev pub Only : Progress → List ℕ → Type 0
Only p line = line ≡ totals_line (entries p) → p.section ≡ section.Over

took_b : (schema : Schema) (p next : Progress) (line : List ℕ) (b : Bool) → OnTrue b (Took p line next) → OnTrue b (IsLine schema p line next)
took_b schema p next line true h = record { said = says.Totals; text = h.0; may = h.1; is = h.2 }
took_b schema p next line false h = tt

only_b : (schema : Schema) (p next other : Progress) (line : List ℕ) (b : Bool) → OnTrue b (Took p line next) → OnFalse b (Only p line) → line ≡ totals_line (entries p) → p.section ≢ section.Over → other ≡ after p says.Totals → (b ≡ true) × (other ≡ next)
only_b schema p next other line true took only text may is = (refl, is ∙ sym took.2)
only_b schema p next other line false took only text may is = absurd (may (only text))

only_line : (schema : Schema) (p next other : Progress) (line : List ℕ) (b : Bool) → is_last line ≡ true → OnTrue b (Took p line next) → OnFalse b (Only p line) → IsLine schema p line other → (b ≡ true) × (other ≡ next)
only_line schema p next other line b last took only s =
    last_says schema p line (λ (said : ReportLine). MayStand schema p said → other ≡ after p said → (b ≡ true) × (other ≡ next)) s.said s.text last
    (λ may is. only_b schema p next other line b took only (totals_text s.said s.text last) may is) s.may s.is
  where
    totals_text : (said : ReportLine) → line ≡ text_of schema p said → is_last line ≡ true → line ≡ totals_line (entries p)
    totals_text said t l = last_says schema p line (λ (u : ReportLine). line ≡ text_of schema p u → line ≡ totals_line (entries p)) said t l (λ e. e) t

pub totals_took : {E : Type 0} (schema : Schema) (p next : Progress) (line : List ℕ) (r : Result Bool E) → IfOk r (λ b. OnTrue b (Took p line next)) → IfOk r (λ b. OnTrue b (IsLine schema p line next))
totals_took schema p next line (Ok b) h = took_b schema p next line b h
totals_took schema p next line (Err f) h = tt

pub totals_only : {E : Type 0} (schema : Schema) (p next : Progress) (line : List ℕ) (r : Result Bool E) → is_last line ≡ true → IfOk r (λ b. OnTrue b (Took p line next)) → IfOk r (λ b. OnFalse b (Only p line))
    → IfOk r (λ b. (other : Progress) → IsLine schema p line other → (b ≡ true) × (other ≡ next))
totals_only schema p next line (Ok b) last took only = λ other s. only_line schema p next other line b last took only s
totals_only schema p next line (Err f) last took only = tt
