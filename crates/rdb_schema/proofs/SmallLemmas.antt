-- Rows that hold are short.
use Rattle.std.proofs.Common.{◌≡◌, ℕ, ◌*◌, ◌≤◌, Bool, true, false, ◌&&◌, List, [], ◌∷◌, length, Option, Some, None, slice_get, refl, if◌then◌else◌, ◌==◌, arith}
use Rattle.std.specs.Prelude.{nat_le, ℤ}
use Rattle.std.specs.List.{list_all}
use Rattle.std.specs.Option.{option_map_or}
use Rattle.std.proofs.lemmas.Bool.Decides.{nat_tests}
use Rattle.rdb_base.specs.declared.value.Leaf.{Leaf}
use Rattle.rdb_base.specs.declared.value.Leaf.TheVariants as leaf
use Rattle.rdb_base.specs.declared.value.Element.{Element}
use Rattle.rdb_base.specs.declared.value.Element.TheVariants as element
use Rattle.rdb_base.specs.declared.value.Value.{Value}
use Rattle.rdb_base.specs.declared.value.Value.TheVariants as value
use Rattle.rdb_schema.specs.declared.schema.Plain.{Plain}
use Rattle.rdb_schema.specs.declared.schema.Plain.TheVariants as plain
use Rattle.rdb_schema.specs.declared.schema.FieldType.{FieldType}
use Rattle.rdb_schema.specs.declared.schema.FieldType.TheVariants as ty
use Rattle.rdb_schema.specs.declared.schema.Field.{Field}
use Rattle.rdb_schema.specs.declared.schema.Group.{Group}
use Rattle.rdb_schema.specs.declared.schema.Class.{Class}
use Rattle.rdb_schema.specs.declared.schema.Schema.{Schema}
use Rattle.rdb_schema.specs.Values.{has_bits, num_holds, leaf_holds, leaves_hold, group_holds, element_holds, holds, values_hold, row_holds, leaf_length, leaves_length, group_length, element_length, elements_length, value_length, values_length, row_length}
use Rattle.rdb_schema.specs.Schemas.{IsSchema}
use Rattle.rdb_schema.proofs.SchemaLemmas.{few_fields, few_group_fields}

first_of : (a b : Bool) → (a && b) ≡ true → a ≡ true
first_of true b e = refl
first_of false b e = e

second_of : (a b : Bool) → (a && b) ≡ true → b ≡ true
second_of true b e = e
second_of false b e = (cc)

bytes_small : (bytes : ℕ) (signed : Bool) (n : ℤ) → num_holds bytes signed n ≡ true → bytes ≤ 8
bytes_small bytes signed n e = go (has_bits 8 signed n) (has_bits 16 signed n) (has_bits 32 signed n) (has_bits 64 signed n) e
  where
    go : (a b c d : Bool) → (if bytes == 1 then a else (if bytes == 2 then b else (if bytes == 4 then c else (if bytes == 8 then d else false)))) ≡ true → bytes ≤ 8
    go a b c d e = grind (arith, nat_tests)

few_of : (n : ℕ) → nat_le n 64 ≡ true → n ≤ 64
few_of n e = grind (arith, nat_tests)

leaf_small : (t : FieldType) (l : Leaf) → leaf_holds t l ≡ true → leaf_length t l ≤ 256
leaf_small (ty.Num bytes signed) (leaf.Num n) e = let small = bytes_small bytes signed n e in omega arith
leaf_small (ty.Num bytes signed) (leaf.Text words) e = omega arith
leaf_small (ty.Num bytes signed) (leaf.Rect box) e = omega arith
leaf_small ty.Str (leaf.Num n) e = omega arith
leaf_small ty.Str (leaf.Text words) e = grind (arith, nat_tests)
leaf_small ty.Str (leaf.Rect box) e = omega arith
leaf_small ty.Box4 (leaf.Num n) e = omega arith
leaf_small ty.Box4 (leaf.Text words) e = omega arith
leaf_small ty.Box4 (leaf.Rect box) e = omega arith
leaf_small (ty.Vector of) l e = omega arith
leaf_small (ty.Struct group) l e = omega arith

leaves_small : (fs : List Field) (ls : List Leaf) → leaves_hold fs ls ≡ true → leaves_length fs ls ≤ 256 * length fs
leaves_small [] [] e = omega arith
leaves_small [] (l ∷ ls) e = omega arith
leaves_small (f ∷ fs) [] e = omega arith
leaves_small (f ∷ fs) (l ∷ ls) e =
    let here = leaf_small f.ty l (first_of (leaf_holds f.ty l) (leaves_hold fs ls) e) in
    let rest = leaves_small fs ls (second_of (leaf_holds f.ty l) (leaves_hold fs ls) e) in
    omega arith

module _ (schema : Schema) (is_one : IsSchema schema) where
  group_small : (group : ℕ) (ls : List Leaf) → group_holds schema group ls ≡ true → group_length schema group ls ≤ 8192
  group_small group ls e = go (slice_get schema.groups group) refl e
    where
      go : (o : Option Group) → slice_get schema.groups group ≡ o → option_map_or (λ g. leaves_hold g.fields ls) o false ≡ true → option_map_or (λ g. leaves_length g.fields ls) o 0 ≤ 8192
      go None is e = omega arith
      go (Some g) is e = omega (arith, leaves_small g.fields ls e, few_group_fields schema is_one group g is)

  element_small : (of : Plain) (x : Element) → element_holds schema of x ≡ true → element_length schema of x ≤ 8192
  element_small (plain.Num bytes signed) (element.Leaf l) e = omega (arith, leaf_small (ty.Num bytes signed) l e)
  element_small (plain.Num bytes signed) (element.Group ls) e = omega arith
  element_small plain.Str (element.Leaf l) e = omega (arith, leaf_small ty.Str l e)
  element_small plain.Str (element.Group ls) e = omega arith
  element_small plain.Box4 (element.Leaf l) e = omega (arith, leaf_small ty.Box4 l e)
  element_small plain.Box4 (element.Group ls) e = omega arith
  element_small (plain.Struct group) (element.Leaf l) e = omega arith
  element_small (plain.Struct group) (element.Group ls) e = group_small group ls e

  elements_small : (of : Plain) (xs : List Element) → list_all (element_holds schema of) xs ≡ true → elements_length schema of xs ≤ 8192 * length xs
  elements_small of [] e = omega arith
  elements_small of (x ∷ xs) e =
      let here = element_small of x (first_of (element_holds schema of x) (list_all (element_holds schema of) xs) e) in
      let rest = elements_small of xs (second_of (element_holds schema of x) (list_all (element_holds schema of) xs) e) in
      omega arith

  value_small : (t : FieldType) (v : Value) → holds schema t v ≡ true → value_length schema t v ≤ 524289
  value_small (ty.Num bytes signed) (value.Leaf l) e = omega (arith, leaf_small (ty.Num bytes signed) l e)
  value_small (ty.Num bytes signed) (value.List xs) e = omega arith
  value_small (ty.Num bytes signed) (value.Group ls) e = omega arith
  value_small ty.Str (value.Leaf l) e = omega (arith, leaf_small ty.Str l e)
  value_small ty.Str (value.List xs) e = omega arith
  value_small ty.Str (value.Group ls) e = omega arith
  value_small ty.Box4 (value.Leaf l) e = omega (arith, leaf_small ty.Box4 l e)
  value_small ty.Box4 (value.List xs) e = omega arith
  value_small ty.Box4 (value.Group ls) e = omega arith
  value_small (ty.Vector of) (value.Leaf l) e = omega arith
  value_small (ty.Vector of) (value.List xs) e =
      let rest = elements_small of xs (second_of (nat_le (length xs) 64) (list_all (element_holds schema of) xs) e) in
      let few_elements : length xs ≤ 64 = few_of (length xs) (first_of (nat_le (length xs) 64) (list_all (element_holds schema of) xs) e) in
      omega arith
  value_small (ty.Vector of) (value.Group ls) e = omega arith
  value_small (ty.Struct group) (value.Leaf l) e = omega arith
  value_small (ty.Struct group) (value.List xs) e = omega arith
  value_small (ty.Struct group) (value.Group ls) e = let small = group_small group ls e in omega arith

  values_small : (fs : List Field) (vs : List Value) → values_hold schema fs vs ≡ true → values_length schema fs vs ≤ 524289 * length fs
  values_small [] [] e = omega arith
  values_small [] (v ∷ vs) e = omega arith
  values_small (f ∷ fs) [] e = omega arith
  values_small (f ∷ fs) (v ∷ vs) e =
      let here = value_small f.ty v (first_of (holds schema f.ty v) (values_hold schema fs vs) e) in
      let rest = values_small fs vs (second_of (holds schema f.ty v) (values_hold schema fs vs) e) in
      omega arith

  -- the length of a row that holds fits 32 bits
  pub row_small : (class : ℕ) (row : List Value) → row_holds schema class row ≡ true → row_length schema class row ≤ 16777248
  row_small class row e = go (slice_get schema.classes class) refl e
    where
      go : (o : Option Class) → slice_get schema.classes class ≡ o → option_map_or (λ c. values_hold schema c.fields row) o false ≡ true → option_map_or (λ c. values_length schema c.fields row) o 0 ≤ 16777248
      go None is e = omega arith
      go (Some c) is e = omega (arith, values_small c.fields row e, few_fields schema is_one class c is)
