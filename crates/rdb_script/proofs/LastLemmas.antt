-- Values that stand last in a line.
use Rattle.std.proofs.Common.{◌≡◌, ℕ, ◌≤◌, ◌<◌, Bool, true, false, List, ◌++◌, Option, Some, None, refl, sym, ap, ◌∙◌, subst, arith}
use Rattle.std.specs.Prelude.{IsSomeAnd}
use Rattle.std.proofs.lemmas.Bool.{false≢true}
use Rattle.rdb_base.specs.declared.value.Value.{Value}
use Rattle.rdb_base.specs.declared.value.Rect.{Rect}
use Rattle.rdb_schema.specs.declared.schema.Schema.{Schema}
use Rattle.rdb_schema.specs.Values.{row_length}
use Rattle.rdb_schema.specs.Capped.{capped}
use Rattle.rdb_script.specs.declared.statement.Member.{Member}
use Rattle.rdb_script.specs.Lines.{after_blanks, is_end}
use Rattle.rdb_literals.specs.SpelledValues.{IsSpelledRow, IsSpelledKey, IsSpelledText, IsRectText}
use Rattle.rdb_script.specs.Statements.{IsLastRow, IsLastKey, IsLastRect, IsLastText}

pub row_found : (schema : Schema) (class : ℕ) (text front spelled rest : List ℕ) (row : List Value) (len : ℕ) → front ≡ after_blanks text → IsSpelledRow schema class spelled row → front ≡ spelled ++ rest → is_end rest ≡ true → len ≡ capped (row_length schema class row) → len ≤ 4000 → IsLastRow schema class text row
row_found schema class text front spelled rest row len f is e last l short = record { spelled = spelled; rest = rest; split = sym f ∙ e; is = is; last = last; short = omega arith }

pub key_found : (schema : Schema) (m : Member) (text front spelled rest : List ℕ) (key : List Value) → front ≡ after_blanks text → IsSpelledKey schema m.class m.place spelled key → front ≡ spelled ++ rest → is_end rest ≡ true → IsLastKey schema m text key
key_found schema m text front spelled rest key f is e last = record { spelled = spelled; rest = rest; split = sym f ∙ e; is = is; last = last }

pub rect_found : (text front spelled rest : List ℕ) (rect : Rect) → front ≡ after_blanks text → IsRectText spelled rect → front ≡ spelled ++ rest → is_end rest ≡ true → IsLastRect text rect
rect_found text front spelled rest rect f is e last = record { spelled = spelled; rest = rest; split = sym f ∙ e; is = is; last = last }

pub text_found : (text front spelled rest words : List ℕ) → front ≡ after_blanks text → IsSpelledText spelled words → front ≡ spelled ++ rest → is_end rest ≡ true → IsLastText text words
text_found text front spelled rest words f is e last = record { spelled = spelled; rest = rest; split = sym f ∙ e; is = is; last = last }

-- what is left isn't blank, and yet it is
pub left_over : (rest other : List ℕ) → is_end rest ≡ false → rest ≡ other → is_end other ≡ true → ⊥
left_over rest other some same none = false≢true (sym some ∙ ap is_end same ∙ none)

pub too_long : (schema : Schema) (class len : ℕ) (row other : List Value) → len ≡ capped (row_length schema class row) → 4000 < len → row ≡ other → row_length schema class other ≤ 4000 → ⊥
too_long schema class len row other l long same short = let e : row_length schema class row ≡ row_length schema class other = ap (row_length schema class) same in omega arith

-- what is known of what was found, once it is seen
pub at_none : {X : Type 0} (P : X → Type 0) (r : Option X) → r ≡ None → IsSomeAnd r P → ⊥
at_none P None e h = h
at_none P (Some x) e h = cc

pub at_some : {X : Type 0} (P : X → Type 0) (r : Option X) (x : X) → r ≡ Some x → IsSomeAnd r P → P x
at_some {X = X} P r x e h = subst (λ (o : Option X). IsSomeAnd o P) e h
