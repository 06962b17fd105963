-- The encoding of a row is as long as `row_length` says, and a row of a class is one of the class's types.
use Rattle.std.proofs.Common.{◌≡◌, ℕ, zero, suc, ℤ, true, false, ◌&&◌, List, [], ◌∷◌, length, map, flat_map, Option, Some, None, slice_get, refl, sym, ap, ◌∙◌, arith, length-append}
use Rattle.std.specs.Prelude.{nat_le}
use Rattle.std.specs.List.{list_all}
use Rattle.std.specs.Option.{option_map_or}
use Rattle.byteorder.specs.Numbers.{length-bytes_low_first}
use Rattle.rdb_base.specs.declared.limits.TheConstants.{MAX_ELEMENTS}
use Rattle.rdb_base.specs.declared.value.Leaf.{Leaf}
use Rattle.rdb_base.specs.declared.value.Leaf.TheVariants as leaf
use Rattle.rdb_base.specs.declared.value.Element.{Element}
use Rattle.rdb_base.specs.declared.value.Element.TheVariants as element
use Rattle.rdb_base.specs.declared.value.Value.{Value}
use Rattle.rdb_base.specs.declared.value.Value.TheVariants as value
use Rattle.rdb_schema.specs.declared.schema.Plain.{Plain}
use Rattle.rdb_schema.specs.declared.schema.Plain.TheVariants as plain
use Rattle.rdb_schema.specs.declared.schema.FieldType.{FieldType}
use Rattle.rdb_schema.specs.declared.schema.FieldType.TheVariants as ty
use Rattle.rdb_schema.specs.declared.schema.Field.{Field}
use Rattle.rdb_schema.specs.declared.schema.Group.{Group}
use Rattle.rdb_schema.specs.declared.schema.Class.{Class}
use Rattle.rdb_schema.specs.declared.schema.Schema.{Schema}
use Rattle.rdb_schema.specs.Values.{leaf_holds, leaves_hold, element_holds, holds, values_hold, row_holds, leaf_length, leaves_length, element_length, elements_length, value_length, values_length, row_length}
use Rattle.rdb_schema.specs.Types.{leaf_types, element_type, value_type, types_of, all_pairs, element_fits, value_fits, row_fits, number_fits}
use Rattle.rdb_schema.specs.Encoding.{pattern, number_bytes, leaf_bytes, leaves_bytes, element_bytes, value_bytes, row_bytes, encoding}
use Rattle.rdb_schema.specs.declared.types.ElementType.TheVariants as elements
use Rattle.rdb_schema.specs.declared.types.ValueType.{ValueType}
use Rattle.rdb_schema.specs.declared.types.ValueType.TheVariants as values

-- a number takes its bytes
pub length-number : (bytes : ℕ) (n : _) → length (number_bytes bytes n) ≡ bytes
length-number bytes n = length-bytes_low_first 0 bytes (pattern bytes n)

length-leaf : (t : FieldType) (l : Leaf) → length (leaf_bytes t l) ≡ leaf_length t l
length-leaf (ty.Num bytes signed) (leaf.Num n) = length-number bytes n
length-leaf (ty.Num bytes signed) (leaf.Text words) = refl
length-leaf (ty.Num bytes signed) (leaf.Rect box) = refl
length-leaf ty.Str (leaf.Num n) = refl
length-leaf ty.Str (leaf.Text words) = omega arith
length-leaf ty.Str (leaf.Rect box) = refl
length-leaf ty.Box4 (leaf.Num n) = refl
length-leaf ty.Box4 (leaf.Text words) = refl
length-leaf ty.Box4 (leaf.Rect box) = refl
length-leaf (ty.Vector of) l = refl
length-leaf (ty.Struct group) l = refl

length-leaves : (fs : List Field) (ls : List Leaf) → length (leaves_bytes (map (λ f. f.ty) fs) ls) ≡ leaves_length fs ls
length-leaves [] [] = refl
length-leaves [] (l ∷ ls) = refl
length-leaves (f ∷ fs) [] = refl
length-leaves (f ∷ fs) (l ∷ ls) =
    omega (arith, length-append (leaf_bytes f.ty l) (leaves_bytes (map (λ f. f.ty) fs) ls), length-leaf f.ty l, length-leaves fs ls)

length-element : (schema : Schema) (of : Plain) (e : Element) → length (element_bytes (element_type schema of) e) ≡ element_length schema of e
length-element schema (plain.Num bytes signed) (element.Leaf l) = length-leaf (ty.Num bytes signed) l
length-element schema (plain.Num bytes signed) (element.Group ls) = refl
length-element schema plain.Str (element.Leaf l) = length-leaf ty.Str l
length-element schema plain.Str (element.Group ls) = refl
length-element schema plain.Box4 (element.Leaf l) = length-leaf ty.Box4 l
length-element schema plain.Box4 (element.Group ls) = refl
length-element schema (plain.Struct group) (element.Leaf l) = go (slice_get schema.groups group)
  where
    go : (o : Option Group) → length (element_bytes (option_map_or (λ g. elements.Group (leaf_types g)) o (elements.Leaf (ty.Struct group))) (element.Leaf l)) ≡ 0
    go None = refl
    go (Some g) = refl
length-element schema (plain.Struct group) (element.Group ls) = go (slice_get schema.groups group)
  where
    go : (o : Option Group) → length (element_bytes (option_map_or (λ g. elements.Group (leaf_types g)) o (elements.Leaf (ty.Struct group))) (element.Group ls)) ≡ option_map_or (λ g. leaves_length g.fields ls) o 0
    go None = refl
    go (Some g) = length-leaves g.fields ls

length-elements : (schema : Schema) (of : Plain) (es : List Element) → length (flat_map (element_bytes (element_type schema of)) es) ≡ elements_length schema of es
length-elements schema of [] = refl
length-elements schema of (e ∷ es) =
    omega (arith, length-append (element_bytes (element_type schema of) e) (flat_map (element_bytes (element_type schema of)) es), length-element schema of e, length-elements schema of es)

length-value : (schema : Schema) (t : FieldType) (v : Value) → length (value_bytes (value_type schema t) v) ≡ value_length schema t v
length-value schema (ty.Num bytes signed) (value.Leaf l) = length-leaf (ty.Num bytes signed) l
length-value schema (ty.Num bytes signed) (value.List es) = refl
length-value schema (ty.Num bytes signed) (value.Group ls) = refl
length-value schema ty.Str (value.Leaf l) = length-leaf ty.Str l
length-value schema ty.Str (value.List es) = refl
length-value schema ty.Str (value.Group ls) = refl
length-value schema ty.Box4 (value.Leaf l) = length-leaf ty.Box4 l
length-value schema ty.Box4 (value.List es) = refl
length-value schema ty.Box4 (value.Group ls) = refl
length-value schema (ty.Vector of) (value.Leaf l) = refl
length-value schema (ty.Vector of) (value.List es) = omega (arith, length-elements schema of es)
length-value schema (ty.Vector of) (value.Group ls) = refl
length-value schema (ty.Struct group) (value.Leaf l) = go (slice_get schema.groups group)
  where
    go : (o : Option Group) → length (value_bytes (option_map_or (λ g. values.Group (leaf_types g)) o (values.Leaf (ty.Struct group))) (value.Leaf l)) ≡ 0
    go None = refl
    go (Some g) = refl
length-value schema (ty.Struct group) (value.List es) = go (slice_get schema.groups group)
  where
    go : (o : Option Group) → length (value_bytes (option_map_or (λ g. values.Group (leaf_types g)) o (values.Leaf (ty.Struct group))) (value.List es)) ≡ 0
    go None = refl
    go (Some g) = refl
length-value schema (ty.Struct group) (value.Group ls) = go (slice_get schema.groups group)
  where
    go : (o : Option Group) → length (value_bytes (option_map_or (λ g. values.Group (leaf_types g)) o (values.Leaf (ty.Struct group))) (value.Group ls)) ≡ option_map_or (λ g. leaves_length g.fields ls) o 0
    go None = refl
    go (Some g) = length-leaves g.fields ls

length-values : (schema : Schema) (fs : List Field) (vs : List Value) → length (row_bytes (map (λ f. value_type schema f.ty) fs) vs) ≡ values_length schema fs vs
length-values schema [] [] = refl
length-values schema [] (v ∷ vs) = refl
length-values schema (f ∷ fs) [] = refl
length-values schema (f ∷ fs) (v ∷ vs) =
    omega (arith, length-append (value_bytes (value_type schema f.ty) v) (row_bytes (map (λ f. value_type schema f.ty) fs) vs), length-value schema f.ty v, length-values schema fs vs)

-- the encoding of a row is as long as `row_length` says
pub length-encoding : (schema : Schema) (class : ℕ) (row : List Value) → length (encoding schema class row) ≡ row_length schema class row
length-encoding schema class row = go (slice_get schema.classes class)
  where
    go : (o : Option Class) → length (row_bytes (option_map_or (λ c. map (λ f. value_type schema f.ty) c.fields) o []) row) ≡ option_map_or (λ c. values_length schema c.fields row) o 0
    go None = none row
      where
        none : (vs : List Value) → length (row_bytes [] vs) ≡ 0
        none [] = refl
        none (v ∷ vs) = refl
    go (Some c) = length-values schema c.fields row

fits-leaves : (fs : List Field) (ls : List Leaf) → all_pairs leaf_holds (map (λ f. f.ty) fs) ls ≡ leaves_hold fs ls
fits-leaves [] [] = refl
fits-leaves [] (l ∷ ls) = refl
fits-leaves (f ∷ fs) [] = refl
fits-leaves (f ∷ fs) (l ∷ ls) = ap (λ b. leaf_holds f.ty l && b) (fits-leaves fs ls)

fits-element : (schema : Schema) (of : Plain) (e : Element) → element_fits (element_type schema of) e ≡ element_holds schema of e
fits-element schema (plain.Num bytes signed) (element.Leaf l) = refl
fits-element schema (plain.Num bytes signed) (element.Group ls) = refl
fits-element schema plain.Str (element.Leaf l) = refl
fits-element schema plain.Str (element.Group ls) = refl
fits-element schema plain.Box4 (element.Leaf l) = refl
fits-element schema plain.Box4 (element.Group ls) = refl
fits-element schema (plain.Struct group) (element.Leaf l) = go (slice_get schema.groups group)
  where
    go : (o : Option Group) → element_fits (option_map_or (λ g. elements.Group (leaf_types g)) o (elements.Leaf (ty.Struct group))) (element.Leaf l) ≡ false
    go None = refl
    go (Some g) = refl
fits-element schema (plain.Struct group) (element.Group ls) = go (slice_get schema.groups group)
  where
    go : (o : Option Group) → element_fits (option_map_or (λ g. elements.Group (leaf_types g)) o (elements.Leaf (ty.Struct group))) (element.Group ls) ≡ option_map_or (λ g. leaves_hold g.fields ls) o false
    go None = refl
    go (Some g) = fits-leaves g.fields ls

fits-elements : (schema : Schema) (of : Plain) (es : List Element) → list_all (element_fits (element_type schema of)) es ≡ list_all (element_holds schema of) es
fits-elements schema of [] = refl
fits-elements schema of (e ∷ es) =
    ap (λ b. b && list_all (element_fits (element_type schema of)) es) (fits-element schema of e) ∙ ap (λ b. element_holds schema of e && b) (fits-elements schema of es)

fits-value : (schema : Schema) (t : FieldType) (v : Value) → value_fits (value_type schema t) v ≡ holds schema t v
fits-value schema (ty.Num bytes signed) (value.Leaf l) = refl
fits-value schema (ty.Num bytes signed) (value.List es) = refl
fits-value schema (ty.Num bytes signed) (value.Group ls) = refl
fits-value schema ty.Str (value.Leaf l) = refl
fits-value schema ty.Str (value.List es) = refl
fits-value schema ty.Str (value.Group ls) = refl
fits-value schema ty.Box4 (value.Leaf l) = refl
fits-value schema ty.Box4 (value.List es) = refl
fits-value schema ty.Box4 (value.Group ls) = refl
fits-value schema (ty.Vector of) (value.Leaf l) = refl
fits-value schema (ty.Vector of) (value.List es) = ap (λ b. nat_le (length es) MAX_ELEMENTS && b) (fits-elements schema of es)
fits-value schema (ty.Vector of) (value.Group ls) = refl
fits-value schema (ty.Struct group) (value.Leaf l) = go (slice_get schema.groups group)
  where
    go : (o : Option Group) → value_fits (option_map_or (λ g. values.Group (leaf_types g)) o (values.Leaf (ty.Struct group))) (value.Leaf l) ≡ false
    go None = refl
    go (Some g) = refl
fits-value schema (ty.Struct group) (value.List es) = go (slice_get schema.groups group)
  where
    go : (o : Option Group) → value_fits (option_map_or (λ g. values.Group (leaf_types g)) o (values.Leaf (ty.Struct group))) (value.List es) ≡ false
    go None = refl
    go (Some g) = refl
fits-value schema (ty.Struct group) (value.Group ls) = go (slice_get schema.groups group)
  where
    go : (o : Option Group) → value_fits (option_map_or (λ g. values.Group (leaf_types g)) o (values.Leaf (ty.Struct group))) (value.Group ls) ≡ option_map_or (λ g. leaves_hold g.fields ls) o false
    go None = refl
    go (Some g) = fits-leaves g.fields ls

fits-values : (schema : Schema) (fs : List Field) (vs : List Value) → row_fits (map (λ f. value_type schema f.ty) fs) vs ≡ values_hold schema fs vs
fits-values schema [] [] = refl
fits-values schema [] (v ∷ vs) = refl
fits-values schema (f ∷ fs) [] = refl
fits-values schema (f ∷ fs) (v ∷ vs) =
    ap (λ b. b && row_fits (map (λ f. value_type schema f.ty) fs) vs) (fits-value schema f.ty v) ∙ ap (λ b. holds schema f.ty v && b) (fits-values schema fs vs)

-- a row of a declared class is one of the class's types, and no other is
pub fits-row : (schema : Schema) (class : ℕ) (c : Class) (row : List Value) → slice_get schema.classes class ≡ Some c → row_fits (types_of schema class) row ≡ row_holds schema class row
fits-row schema class c row e =
    ap (λ o. row_fits (option_map_or (λ c. map (λ f. value_type schema f.ty) c.fields) o []) row) e ∙ fits-values schema c.fields row
    ∙ sym (ap (λ o. option_map_or (λ c. values_hold schema c.fields row) o false) e)

-- a row of a class is one of the class's types
pub row_fits_of : (schema : Schema) (class : ℕ) (row : List Value) → row_holds schema class row ≡ true → row_fits (types_of schema class) row ≡ true
row_fits_of schema class row e = go (slice_get schema.classes class) e
  where
    go : (o : Option Class) → option_map_or (λ c. values_hold schema c.fields row) o false ≡ true → row_fits (option_map_or (λ c. map (λ f. value_type schema f.ty) c.fields) o []) row ≡ true
    go None e = absurd cc
    go (Some c) e = fits-values schema c.fields row ∙ e

-- a number that is one of a field's type may be written over the field's
pub number_fits_of : (schema : Schema) (class field : ℕ) (c : Class) (f : Field) (n : ℤ) → slice_get schema.classes class ≡ Some c → slice_get c.fields field ≡ Some f
    → holds schema f.ty (value.Leaf (leaf.Num n)) ≡ true → number_fits (slice_get (types_of schema class) field) n ≡ true
number_fits_of schema class field c f n e d h =
    ap (λ o. number_fits (slice_get (option_map_or (λ c. map (λ f. value_type schema f.ty) c.fields) o []) field) n) e
    ∙ ap (λ o. number_fits o n) (get_mapped c.fields field f d) ∙ fits f.ty (fits-value schema f.ty (value.Leaf (leaf.Num n)) ∙ h)
  where
    get_mapped : (fs : List Field) (k : ℕ) (f : Field) → slice_get fs k ≡ Some f → slice_get (map (λ f. value_type schema f.ty) fs) k ≡ Some (value_type schema f.ty)
    get_mapped [] k f e = absurd cc
    get_mapped (x ∷ fs) zero f e = let same : x ≡ f = cc in ap (λ y. Some (value_type schema y.ty)) same
    get_mapped (x ∷ fs) (suc k) f e = get_mapped fs k f e

    fits : (t : FieldType) → value_fits (value_type schema t) (value.Leaf (leaf.Num n)) ≡ true → number_fits (Some (value_type schema t)) n ≡ true
    fits t e = by_type (value_type schema t) e
      where
        by_type : (t : ValueType) → value_fits t (value.Leaf (leaf.Num n)) ≡ true → number_fits (Some t) n ≡ true
        by_type (values.Leaf t) e = e
        by_type (values.Vector of) e = e
        by_type (values.Group ts) e = e
