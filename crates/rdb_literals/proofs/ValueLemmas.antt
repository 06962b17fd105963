-- The kinds of values, which differ in their first signs.
use Rattle.std.proofs.Common.{◌≡◌, ℕ, ℤ, List, ◌++◌, sym, arith}
use Rattle.rdb_base.specs.declared.value.Rect.{Rect}
use Rattle.rdb_base.specs.declared.value.Leaf.{Leaf}
use Rattle.rdb_base.specs.declared.value.Leaf.TheVariants as leaf
use Rattle.rdb_base.specs.declared.value.Element.{Element}
use Rattle.rdb_base.specs.declared.value.Element.TheVariants as element
use Rattle.rdb_base.specs.declared.value.Value.{Value}
use Rattle.rdb_base.specs.declared.value.Value.TheVariants as value
use Rattle.rdb_literals.specs.Spelling.{IsQuoted}
use Rattle.rdb_literals.specs.SpelledValues.{IsNumberText, IsRectText, IsListText, IsLeafText, IsElementText, IsValueText}
use Rattle.rdb_literals.specs.FirstSigns.{BeginsIn, clash, number_in, quoted_in, rect_in}

-- a fact of each leaf, by its kind
pub leaf_by : (P : Leaf → Type 0) (text : List ℕ) (l : Leaf) → ((n : ℤ) → IsNumberText text n → P (leaf.Num n)) → ((words : List ℕ) → IsQuoted text words → P (leaf.Text words)) → ((r : Rect) → IsRectText text r → P (leaf.Rect r))
    → IsLeafText text l → P l
leaf_by P text (leaf.Num n) num txt rect is = num n is
leaf_by P text (leaf.Text words) num txt rect is = txt words is
leaf_by P text (leaf.Rect r) num txt rect is = rect r is

pub element_by : (P : Element → Type 0) (text : List ℕ) (e : Element) → ((l : Leaf) → IsLeafText text l → P (element.Leaf l)) → ((leaves : List Leaf) → IsListText IsLeafText 123 125 text leaves → P (element.Group leaves)) → IsElementText text e → P e
element_by P text (element.Leaf l) one group is = one l is
element_by P text (element.Group leaves) one group is = group leaves is

pub value_by : (P : Value → Type 0) (text : List ℕ) (v : Value) → ((l : Leaf) → IsLeafText text l → P (value.Leaf l)) → ((es : List Element) → IsListText IsElementText 40 41 text es → P (value.List es))
    → ((leaves : List Leaf) → IsListText IsLeafText 123 125 text leaves → P (value.Group leaves)) → IsValueText text v → P v
value_by P text (value.Leaf l) one list group is = one l is
value_by P text (value.List es) one list group is = list es is
value_by P text (value.Group leaves) one list group is = group leaves is

-- no leaf begins as a vector or as a struct
pub no_leaf_40 : (s t x y : List ℕ) (l : Leaf) → BeginsIn 40 40 s → IsLeafText t l → s ++ x ≡ t ++ y → ⊥
no_leaf_40 s t x y (leaf.Num n) h is e = clash 40 40 45 57 s t x y h (number_in t n is) (omega arith) e
no_leaf_40 s t x y (leaf.Text words) h is e = clash 34 34 40 40 t s y x (quoted_in t words is) h (omega arith) (sym e)
no_leaf_40 s t x y (leaf.Rect r) h is e = clash 40 40 91 91 s t x y h (rect_in t r is) (omega arith) e

pub no_leaf_123 : (s t x y : List ℕ) (l : Leaf) → BeginsIn 123 123 s → IsLeafText t l → s ++ x ≡ t ++ y → ⊥
no_leaf_123 s t x y (leaf.Num n) h is e = clash 45 57 123 123 t s y x (number_in t n is) h (omega arith) (sym e)
no_leaf_123 s t x y (leaf.Text words) h is e = clash 34 34 123 123 t s y x (quoted_in t words is) h (omega arith) (sym e)
no_leaf_123 s t x y (leaf.Rect r) h is e = clash 91 91 123 123 t s y x (rect_in t r is) h (omega arith) (sym e)
