-- With which signs values begin, for the law of what is written.
use Rattle.std.proofs.Common.{◌≡◌, ℕ, ℤ, ◌<◌, ◌≤◌, List, [], ◌∷◌, ◌++◌, Bool, true, false, sym, subst, arith}
use Rattle.std.specs.Str.Parse.{IsNumeral}
use Rattle.std.proofs.lemmas.Str.Parse.{digit_from_value}
use Rattle.rdb_base.specs.declared.value.Rect.{Rect}
use Rattle.rdb_base.specs.declared.value.Leaf.{Leaf}
use Rattle.rdb_base.specs.declared.value.Leaf.TheVariants as leaf
use Rattle.rdb_base.specs.declared.value.Element.{Element}
use Rattle.rdb_base.specs.declared.value.Element.TheVariants as element
use Rattle.rdb_base.specs.declared.value.Value.{Value}
use Rattle.rdb_base.specs.declared.value.Value.TheVariants as value
use Rattle.rdb_literals.specs.Spelling.{signed, IsQuoted}
use Rattle.rdb_literals.specs.SpelledValues.{IsNumberText, IsListText, IsRectText, IsLeafText, IsElementText, IsValueText, BeginsValue}

-- the text begins with a byte between these
abbrev pub BeginsIn : ℕ → ℕ → List ℕ → Type 0
BeginsIn low high [] = ⊥
BeginsIn low high (byte ∷ rest) = (low ≤ byte) × (byte ≤ high)

pub number_in : (text : List ℕ) (n : ℤ) → IsNumberText text n → BeginsIn 45 57 text
number_in text n is = by_sign is.0 is.1 is.2 is.3
  where
    by_sign : (negative : Bool) (digits : List ℕ) → text ≡ signed negative digits → IsNumeral 10 digits → BeginsIn 45 57 text
    by_sign true digits e numeral = subst (BeginsIn 45 57) (sym e) (omega arith, omega arith)
    by_sign false [] e numeral = absurd (omega (arith, numeral.0))
    by_sign false (d ∷ ds) e numeral = let range = digit_from_value d numeral.1.0 in subst (BeginsIn 45 57) (sym e) (omega arith, omega arith)

pub quoted_in : (text words : List ℕ) → IsQuoted text words → BeginsIn 34 34 text
quoted_in text words is = subst (BeginsIn 34 34) (sym is.1) (omega arith, omega arith)

pub list_in : {X : Type 0} (R : List ℕ → X → Type 0) (sign close : ℕ) (text : List ℕ) (xs : List X) → IsListText R sign close text xs → BeginsIn sign sign text
list_in R sign close text [] is = subst (BeginsIn sign sign) (sym is.2) (omega arith, omega arith)
list_in R sign close text (x ∷ xs) is = subst (BeginsIn sign sign) (sym is.6) (omega arith, omega arith)

pub rect_in : (text : List ℕ) (rect : Rect) → IsRectText text rect → BeginsIn 91 91 text
rect_in text rect is = list_in IsNumberText 91 93 text (rect.x1 ∷ rect.y1 ∷ rect.x2 ∷ rect.y2 ∷ []) is.0

-- texts that begin with different bytes differ
pub clash : (a b c d : ℕ) (s t x y : List ℕ) → BeginsIn a b s → BeginsIn c d t → b < c → s ++ x ≡ t ++ y → ⊥
clash a b c d [] t x y hs ht lt e = hs
clash a b c d (h ∷ s) [] x y hs ht lt e = ht
clash a b c d (h ∷ s) (k ∷ t) x y hs ht lt e = let same : h ≡ k = cc in omega arith

at_number : (text : List ℕ) → BeginsIn 45 57 text → BeginsValue text
at_number [] h = h
at_number (b ∷ rest) h = (λ e. omega arith, λ e. omega arith, λ e. omega arith, λ e. omega arith, λ e. omega arith, λ e. omega arith)

at_sign : (sign : ℕ) (text : List ℕ) → BeginsValue (sign ∷ []) → BeginsIn sign sign text → BeginsValue text
at_sign sign [] none h = h
at_sign sign (b ∷ rest) none h = let same : b ≡ sign = omega arith in subst (λ (x : ℕ). BeginsValue (x ∷ [])) (sym same) none

-- signs that differ from those that begin no value
begins_34 : BeginsValue (34 ∷ [])
begins_34 = (λ e. omega arith, λ e. omega arith, λ e. omega arith, λ e. omega arith, λ e. omega arith, λ e. omega arith)

begins_40 : BeginsValue (40 ∷ [])
begins_40 = (λ e. omega arith, λ e. omega arith, λ e. omega arith, λ e. omega arith, λ e. omega arith, λ e. omega arith)

begins_91 : BeginsValue (91 ∷ [])
begins_91 = (λ e. omega arith, λ e. omega arith, λ e. omega arith, λ e. omega arith, λ e. omega arith, λ e. omega arith)

begins_123 : BeginsValue (123 ∷ [])
begins_123 = (λ e. omega arith, λ e. omega arith, λ e. omega arith, λ e. omega arith, λ e. omega arith, λ e. omega arith)

pub leaf_begins : (text : List ℕ) (l : Leaf) → IsLeafText text l → BeginsValue text
leaf_begins text (leaf.Num number) is = at_number text (number_in text number is)
leaf_begins text (leaf.Text words) is = at_sign 34 text begins_34 (quoted_in text words is)
leaf_begins text (leaf.Rect rect) is = at_sign 91 text begins_91 (rect_in text rect is)

pub number_begins : (text : List ℕ) (number : ℤ) → IsNumberText text number → BeginsValue text
number_begins text number is = at_number text (number_in text number is)

pub element_begins : (text : List ℕ) (e : Element) → IsElementText text e → BeginsValue text
element_begins text (element.Leaf l) is = leaf_begins text l is
element_begins text (element.Group leaves) is = at_sign 123 text begins_123 (list_in IsLeafText 123 125 text leaves is)

pub value_begins : (text : List ℕ) (v : Value) → IsValueText text v → BeginsValue text
value_begins text (value.Leaf l) is = leaf_begins text l is
value_begins text (value.List elements) is = at_sign 40 text begins_40 (list_in IsElementText 40 41 text elements is)
value_begins text (value.Group leaves) is = at_sign 123 text begins_123 (list_in IsLeafText 123 125 text leaves is)
