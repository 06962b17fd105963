-- The printed form of a value is one of the ways in which it may be written.
use Rattle.std.proofs.Common.{◌≡◌, ℕ, suc, ℤ, pos, neg_ℤ, ◌<◌, ◌^◌, Bool, true, false, ◌&&◌, ◌==◌, if◌then◌else◌, List, [], ◌∷◌, ◌++◌, length, Option, Some, None, slice_get, refl, sym, ap, arith, append_assoc}
use Rattle.std.specs.Prelude.{codes, flat_map, nat_le, int_le, negsuc}
use Rattle.std.specs.Fmt.{signed_decimal, decimal}
use Rattle.std.specs.List.{join_by, list_all}
use Rattle.std.specs.Option.{option_map_or}
use Rattle.std.proofs.lemmas.Bool.{and_parts, false≢true}
use Rattle.std.proofs.lemmas.Bool.Decides.{nat_tests}
use Rattle.std.proofs.lemmas.Fmt.{decimal_is_IsNumeral}
use Rattle.std.proofs.lemmas.Int.{ints}
use Rattle.rdb_base.specs.declared.value.Rect.{Rect}
use Rattle.rdb_base.specs.declared.value.Leaf.{Leaf}
use Rattle.rdb_base.specs.declared.value.Leaf.TheVariants as leaf
use Rattle.rdb_base.specs.declared.value.Element.{Element}
use Rattle.rdb_base.specs.declared.value.Element.TheVariants as element
use Rattle.rdb_base.specs.declared.value.Value.{Value}
use Rattle.rdb_base.specs.declared.value.Value.TheVariants as value
use Rattle.rdb_schema.specs.declared.schema.Plain.{Plain}
use Rattle.rdb_schema.specs.declared.schema.Plain.TheVariants as plain
use Rattle.rdb_schema.specs.declared.schema.FieldType.{FieldType}
use Rattle.rdb_schema.specs.declared.schema.FieldType.TheVariants as ty
use Rattle.rdb_schema.specs.declared.schema.Field.{Field}
use Rattle.rdb_schema.specs.declared.schema.Group.{Group}
use Rattle.rdb_schema.specs.declared.schema.Class.{Class}
use Rattle.rdb_schema.specs.declared.schema.Schema.{Schema}
use Rattle.rdb_literals.specs.Printed.{escaped, rect_text, leaf_text, group_text, element_text, value_text, row_text}
use Rattle.rdb_schema.specs.Values.{has_bits, num_holds, leaf_holds, leaves_hold, group_holds, element_holds, holds, values_hold, row_holds}
use Rattle.rdb_literals.specs.SpelledValues.{IsNumberText, IsListEnd, IsListText, IsRectText, IsLeafText, IsElementText, IsValueText, IsRowText}
use Rattle.rdb_schema.specs.Proper.{HasEdges, IsProperLeaf, IsProperElement, IsProperValue, IsProperRow, EachIs}
use Rattle.rdb_literals.proofs.PrintedLemmas.{printed_spelled}

-- a number of at most 64 bits and a sign
abbrev Small : ℤ → Type 0
Small (pos n) = n < 2 ^ 64
Small (negsuc n) = suc n < 2 ^ 64

between : (low high : ℕ) (n : ℤ) → low < 2 ^ 63 → high < 2 ^ 64 → (int_le (negsuc low) n && int_le n (pos high)) ≡ true → Small n
between low high (pos m) lt gt e = let b = (and_parts (int_le (negsuc low) (pos m)) (int_le (pos m) (pos high)) e).1 in grind (arith, nat_tests, ints)
between low high (negsuc k) lt gt e = let b = (and_parts (int_le (negsuc low) (negsuc k)) (int_le (negsuc k) (pos high)) e).0 in grind (arith, nat_tests, ints)

from_zero : (high : ℕ) (n : ℤ) → high < 2 ^ 64 → (int_le (pos 0) n && int_le n (pos high)) ≡ true → Small n
from_zero high (pos m) gt e = let b = (and_parts (int_le (pos 0) (pos m)) (int_le (pos m) (pos high)) e).1 in grind (arith, nat_tests, ints)
from_zero high (negsuc k) gt e = absurd (cc)

bits_8 : (signed : Bool) (n : ℤ) → has_bits 8 signed n ≡ true → Small n
bits_8 true n e = between 127 127 n (omega arith) (omega arith) e
bits_8 false n e = from_zero 255 n (omega arith) e

bits_16 : (signed : Bool) (n : ℤ) → has_bits 16 signed n ≡ true → Small n
bits_16 true n e = between 32767 32767 n (omega arith) (omega arith) e
bits_16 false n e = from_zero 65535 n (omega arith) e

bits_32 : (signed : Bool) (n : ℤ) → has_bits 32 signed n ≡ true → Small n
bits_32 true n e = between 2147483647 2147483647 n (omega arith) (omega arith) e
bits_32 false n e = from_zero 4294967295 n (omega arith) e

bits_64 : (signed : Bool) (n : ℤ) → has_bits 64 signed n ≡ true → Small n
bits_64 true n e = between 9223372036854775807 9223372036854775807 n (omega arith) (omega arith) e
bits_64 false n e = from_zero 18446744073709551615 n (omega arith) e

held_small : (bytes : ℕ) (signed : Bool) (n : ℤ) → num_holds bytes signed n ≡ true → Small n
held_small bytes signed n = by_tests (bytes == 1) (bytes == 2) (bytes == 4) (bytes == 8)
  where
    by_tests : (a b c d : Bool) → (if a then has_bits 8 signed n else (if b then has_bits 16 signed n else (if c then has_bits 32 signed n else (if d then has_bits 64 signed n else false)))) ≡ true → Small n
    by_tests true b c d e = bits_8 signed n e
    by_tests false true c d e = bits_16 signed n e
    by_tests false false true d e = bits_32 signed n e
    by_tests false false false true e = bits_64 signed n e
    by_tests false false false false e = absurd (false≢true e)

number_printed : (n : ℤ) → Small n → IsNumberText (signed_decimal n) n
number_printed (pos n) small =
    let d = decimal_is_IsNumeral n small in
    (false, decimal n, refl, d.0, omega (arith, d.1), ap pos (sym d.1))
number_printed (negsuc n) small =
    let d = decimal_is_IsNumeral (suc n) small in
    (true, decimal (suc n), refl, d.0, omega (arith, d.1), ap (λ (m : ℕ). neg_ℤ (pos m)) (sym d.1))

-- the elements behind the first, as they are printed
abbrev tail_text : {X : Type 0} → (X → List ℕ) → List X → List ℕ
tail_text print xs = flat_map (λ x. codes "," ++ print x) xs

module _ {X : Type 0} (R : List ℕ → X → Type 0) (print : X → List ℕ) where
  end_printed : (close : ℕ) (xs : List X) → EachIs (λ x. R (print x) x) xs → IsListEnd R close (tail_text print xs ++ close ∷ []) xs
  end_printed close [] each = ([], tt, refl)
  end_printed close (x ∷ xs) each =
      ([], [], print x, tail_text print xs ++ close ∷ [], tt, tt, each.0, end_printed close xs each.1, ap (λ (t : List ℕ). 44 ∷ t) (append_assoc (print x) (tail_text print xs) (close ∷ [])))

  pub list_printed : (sign close : ℕ) (xs : List X) → EachIs (λ x. R (print x) x) xs → IsListText R sign close (sign ∷ (join_by print (codes ",") xs ++ close ∷ [])) xs
  list_printed sign close [] each = ([], tt, refl)
  list_printed sign close (x ∷ xs) each =
      ([], print x, tail_text print xs ++ close ∷ [], tt, each.0, end_printed close xs each.1, ap (λ (t : List ℕ). sign ∷ t) (append_assoc (print x) (tail_text print xs) (close ∷ [])))

-- four numbers in square brackets
rect_printed : (rect : Rect) → IsProperLeaf (leaf.Rect rect) → (int_le rect.x1 rect.x2 && int_le rect.y1 rect.y2) ≡ true → IsRectText (rect_text rect) rect
rect_printed rect proper ordered = (
  by_text (signed_decimal rect.x1) (signed_decimal rect.y1) (signed_decimal rect.x2) (signed_decimal rect.y2)
      (number_printed rect.x1 (held_small 4 true rect.x1 proper.x1)) (number_printed rect.y1 (held_small 4 true rect.y1 proper.y1))
      (number_printed rect.x2 (held_small 4 true rect.x2 proper.x2)) (number_printed rect.y2 (held_small 4 true rect.y2 proper.y2)),
  (proper, ordered),
)
  where
    by_text : (a b c d : List ℕ) → IsNumberText a rect.x1 → IsNumberText b rect.y1 → IsNumberText c rect.x2 → IsNumberText d rect.y2
        → IsListText IsNumberText 91 93 (codes "[" ++ a ++ codes "," ++ b ++ codes "," ++ c ++ codes "," ++ d ++ codes "]") (rect.x1 ∷ rect.y1 ∷ rect.x2 ∷ rect.y2 ∷ [])
    by_text a b c d ia ib ic id_ = (
      [],
      a,
      44 ∷ (b ++ 44 ∷ (c ++ 44 ∷ (d ++ 93 ∷ []))),
      tt,
      ia,
      ([], [], b, 44 ∷ (c ++ 44 ∷ (d ++ 93 ∷ [])), tt, tt, ib, ([], [], c, 44 ∷ (d ++ 93 ∷ []), tt, tt, ic, ([], [], d, 93 ∷ [], tt, tt, id_, ([], tt, refl), refl), refl), refl),
      simp append_assoc refl,
    )

leaf_printed : (t : FieldType) (l : Leaf) → leaf_holds t l ≡ true → IsProperLeaf l → IsLeafText (leaf_text l) l
leaf_printed (ty.Num bytes signed) (leaf.Num n) e proper = number_printed n (held_small bytes signed n e)
leaf_printed ty.Str (leaf.Text words) e proper = (flat_map escaped words, refl, printed_spelled words, proper)
leaf_printed ty.Box4 (leaf.Rect rect) e proper = rect_printed rect proper e
leaf_printed (ty.Num bytes signed) (leaf.Text words) e proper = absurd (false≢true e)
leaf_printed (ty.Num bytes signed) (leaf.Rect rect) e proper = absurd (false≢true e)
leaf_printed ty.Str (leaf.Num n) e proper = absurd (false≢true e)
leaf_printed ty.Str (leaf.Rect rect) e proper = absurd (false≢true e)
leaf_printed ty.Box4 (leaf.Num n) e proper = absurd (false≢true e)
leaf_printed ty.Box4 (leaf.Text words) e proper = absurd (false≢true e)
leaf_printed (ty.Vector of) (leaf.Num n) e proper = absurd (false≢true e)
leaf_printed (ty.Vector of) (leaf.Text words) e proper = absurd (false≢true e)
leaf_printed (ty.Vector of) (leaf.Rect rect) e proper = absurd (false≢true e)
leaf_printed (ty.Struct group) (leaf.Num n) e proper = absurd (false≢true e)
leaf_printed (ty.Struct group) (leaf.Text words) e proper = absurd (false≢true e)
leaf_printed (ty.Struct group) (leaf.Rect rect) e proper = absurd (false≢true e)

leaves_printed : (fs : List Field) (ls : List Leaf) → leaves_hold fs ls ≡ true → EachIs IsProperLeaf ls → EachIs (λ l. IsLeafText (leaf_text l) l) ls
leaves_printed [] [] e proper = tt
leaves_printed [] (l ∷ ls) e proper = absurd (false≢true e)
leaves_printed (f ∷ fs) [] e proper = tt
leaves_printed (f ∷ fs) (l ∷ ls) e proper =
    let parts = and_parts (leaf_holds f.ty l) (leaves_hold fs ls) e in
    (leaf_printed f.ty l parts.0 proper.0, leaves_printed fs ls parts.1 proper.1)

group_printed : (schema : Schema) (group : ℕ) (ls : List Leaf) → group_holds schema group ls ≡ true → EachIs IsProperLeaf ls → IsListText IsLeafText 123 125 (group_text ls) ls
group_printed schema group ls e proper = list_printed IsLeafText leaf_text 123 125 ls (by_group (slice_get schema.groups group) e)
  where
    by_group : (g : Option Group) → option_map_or (λ d. leaves_hold d.fields ls) g false ≡ true → EachIs (λ l. IsLeafText (leaf_text l) l) ls
    by_group None f = absurd (false≢true f)
    by_group (Some d) f = leaves_printed d.fields ls f proper

element_printed : (schema : Schema) (of : Plain) (x : Element) → element_holds schema of x ≡ true → IsProperElement x → IsElementText (element_text x) x
element_printed schema (plain.Num bytes signed) (element.Leaf l) e proper = leaf_printed (ty.Num bytes signed) l e proper
element_printed schema plain.Str (element.Leaf l) e proper = leaf_printed ty.Str l e proper
element_printed schema plain.Box4 (element.Leaf l) e proper = leaf_printed ty.Box4 l e proper
element_printed schema (plain.Struct group) (element.Leaf l) e proper = absurd (false≢true e)
element_printed schema (plain.Num bytes signed) (element.Group ls) e proper = absurd (false≢true e)
element_printed schema plain.Str (element.Group ls) e proper = absurd (false≢true e)
element_printed schema plain.Box4 (element.Group ls) e proper = absurd (false≢true e)
element_printed schema (plain.Struct group) (element.Group ls) e proper = group_printed schema group ls e proper

elements_printed : (schema : Schema) (of : Plain) (xs : List Element) → list_all (element_holds schema of) xs ≡ true → EachIs IsProperElement xs → EachIs (λ x. IsElementText (element_text x) x) xs
elements_printed schema of [] e proper = tt
elements_printed schema of (x ∷ xs) e proper =
    let parts = and_parts (element_holds schema of x) (list_all (element_holds schema of) xs) e in
    (element_printed schema of x parts.0 proper.0, elements_printed schema of xs parts.1 proper.1)

pub value_printed : (schema : Schema) (t : FieldType) (v : Value) → holds schema t v ≡ true → IsProperValue v → IsValueText (value_text v) v
value_printed schema (ty.Num bytes signed) (value.Leaf l) e proper = leaf_printed (ty.Num bytes signed) l e proper
value_printed schema ty.Str (value.Leaf l) e proper = leaf_printed ty.Str l e proper
value_printed schema ty.Box4 (value.Leaf l) e proper = leaf_printed ty.Box4 l e proper
value_printed schema (ty.Vector of) (value.Leaf l) e proper = absurd (false≢true e)
value_printed schema (ty.Struct group) (value.Leaf l) e proper = absurd (false≢true e)
value_printed schema (ty.Num bytes signed) (value.List xs) e proper = absurd (false≢true e)
value_printed schema ty.Str (value.List xs) e proper = absurd (false≢true e)
value_printed schema ty.Box4 (value.List xs) e proper = absurd (false≢true e)
value_printed schema (ty.Vector of) (value.List xs) e proper =
    list_printed IsElementText element_text 40 41 xs (elements_printed schema of xs (and_parts (nat_le (length xs) 64) (list_all (element_holds schema of) xs) e).1 proper)
value_printed schema (ty.Struct group) (value.List xs) e proper = absurd (false≢true e)
value_printed schema (ty.Num bytes signed) (value.Group ls) e proper = absurd (false≢true e)
value_printed schema ty.Str (value.Group ls) e proper = absurd (false≢true e)
value_printed schema ty.Box4 (value.Group ls) e proper = absurd (false≢true e)
value_printed schema (ty.Vector of) (value.Group ls) e proper = absurd (false≢true e)
value_printed schema (ty.Struct group) (value.Group ls) e proper = group_printed schema group ls e proper

values_printed : (schema : Schema) (fs : List Field) (vs : List Value) → values_hold schema fs vs ≡ true → IsProperRow vs → EachIs (λ v. IsValueText (value_text v) v) vs
values_printed schema [] [] e proper = tt
values_printed schema [] (v ∷ vs) e proper = absurd (false≢true e)
values_printed schema (f ∷ fs) [] e proper = tt
values_printed schema (f ∷ fs) (v ∷ vs) e proper =
    let parts = and_parts (holds schema f.ty v) (values_hold schema fs vs) e in
    (value_printed schema f.ty v parts.0 proper.0, values_printed schema fs vs parts.1 proper.1)

pub key_printed : (schema : Schema) (fs : List Field) (vs : List Value) → values_hold schema fs vs ≡ true → IsProperRow vs → IsRowText (row_text vs) vs
key_printed schema fs vs e proper = list_printed IsValueText value_text 123 125 vs (values_printed schema fs vs e proper)

pub row_printed : (schema : Schema) (class : ℕ) (row : List Value) → row_holds schema class row ≡ true → IsProperRow row → IsRowText (row_text row) row
row_printed schema class row e proper = by_class (slice_get schema.classes class) e
  where
    by_class : (c : Option Class) → option_map_or (λ d. values_hold schema d.fields row) c false ≡ true → IsRowText (row_text row) row
    by_class None f = absurd (false≢true f)
    by_class (Some d) f = key_printed schema d.fields row f proper
