-- What values a type has, and how many bytes they take by the encoding of rows.
use Rattle.std.specs.Prelude.{ℕ, ◌+◌, ◌-◌, ◌^◌, Bool, true, false, ◌&&◌, ◌==◌, nat_le, ℤ, pos, neg_ℤ, int_le, List, [], ◌∷◌, length, slice_get, if◌then◌else◌}
use Rattle.std.specs.List.{list_all}
use Rattle.std.specs.Option.{option_map_or}
use Rattle.rdb_base.specs.declared.value.Leaf.{Leaf}
use Rattle.rdb_base.specs.declared.value.Leaf.TheVariants as leaf
use Rattle.rdb_base.specs.declared.value.Element.{Element}
use Rattle.rdb_base.specs.declared.value.Element.TheVariants as element
use Rattle.rdb_base.specs.declared.value.Value.{Value}
use Rattle.rdb_base.specs.declared.value.Value.TheVariants as value
use Rattle.rdb_schema.specs.declared.schema.Plain.{Plain}
use Rattle.rdb_schema.specs.declared.schema.Plain.TheVariants as plain
use Rattle.rdb_schema.specs.declared.schema.FieldType.{FieldType}
use Rattle.rdb_schema.specs.declared.schema.FieldType.TheVariants as ty
use Rattle.rdb_schema.specs.declared.schema.Field.{Field}
use Rattle.rdb_schema.specs.declared.schema.Schema.{Schema}

-- whether a number has that many bits, in two's complement where it is signed
abbrev pub has_bits : ℕ → Bool → ℤ → Bool
has_bits bits true n = int_le (neg_ℤ (pos (2 ^ (bits - 1)))) n && int_le n (pos (2 ^ (bits - 1) - 1))
has_bits bits false n = int_le (pos 0) n && int_le n (pos (2 ^ bits - 1))

-- whether a number is in the range of its bytes, of which there are 1, 2, 4 or 8
abbrev pub num_holds : ℕ → Bool → ℤ → Bool
num_holds bytes signed n =
    if bytes == 1 then has_bits 8 signed n
    else (if bytes == 2 then has_bits 16 signed n
    else (if bytes == 4 then has_bits 32 signed n
    else (if bytes == 8 then has_bits 64 signed n else false)))

-- whether a leaf is one of a type: numbers in range, texts of at most 255 bytes, boxes whose first corner isn't beyond the second
abbrev pub leaf_holds : FieldType → Leaf → Bool
leaf_holds (ty.Num bytes signed) (leaf.Num n) = num_holds bytes signed n
leaf_holds ty.Str (leaf.Text words) = nat_le (length words) 255
leaf_holds ty.Box4 (leaf.Rect box) = int_le box.x1 box.x2 && int_le box.y1 box.y2
leaf_holds _ _ = false

-- whether a struct's leaves are one for each of its fields, each of its type
abbrev pub leaves_hold : List Field → List Leaf → Bool
leaves_hold [] [] = true
leaves_hold (f ∷ fs) (l ∷ ls) = leaf_holds f.ty l && leaves_hold fs ls
leaves_hold _ _ = false

-- whether leaves are those of the struct of that number
abbrev pub group_holds : Schema → ℕ → List Leaf → Bool
group_holds schema group leaves = option_map_or (λ g. leaves_hold g.fields leaves) (slice_get schema.groups group) false

-- whether an element is one of a vector's type
abbrev pub element_holds : Schema → Plain → Element → Bool
element_holds schema (plain.Num bytes signed) (element.Leaf l) = leaf_holds (ty.Num bytes signed) l
element_holds schema plain.Str (element.Leaf l) = leaf_holds ty.Str l
element_holds schema plain.Box4 (element.Leaf l) = leaf_holds ty.Box4 l
element_holds schema (plain.Struct group) (element.Group leaves) = group_holds schema group leaves
element_holds schema _ _ = false

-- whether a value is one of a type: vectors have at most 64 elements
abbrev pub holds : Schema → FieldType → Value → Bool
holds schema (ty.Num bytes signed) (value.Leaf l) = leaf_holds (ty.Num bytes signed) l
holds schema ty.Str (value.Leaf l) = leaf_holds ty.Str l
holds schema ty.Box4 (value.Leaf l) = leaf_holds ty.Box4 l
holds schema (ty.Vector of) (value.List elements) = nat_le (length elements) 64 && list_all (element_holds schema of) elements
holds schema (ty.Struct group) (value.Group leaves) = group_holds schema group leaves
holds schema _ _ = false

-- whether values are one for each of the fields, each of its type
abbrev pub values_hold : Schema → List Field → List Value → Bool
values_hold schema [] [] = true
values_hold schema (f ∷ fs) (v ∷ vs) = holds schema f.ty v && values_hold schema fs vs
values_hold schema _ _ = false

-- how many bytes a leaf of a type takes: a number its bytes, a text one more than it has, a box 16
abbrev pub leaf_length : FieldType → Leaf → ℕ
leaf_length (ty.Num bytes signed) (leaf.Num n) = bytes
leaf_length ty.Str (leaf.Text words) = 1 + length words
leaf_length ty.Box4 (leaf.Rect box) = 16
leaf_length _ _ = 0

-- how many bytes a struct's leaves take, one after another
abbrev pub leaves_length : List Field → List Leaf → ℕ
leaves_length (f ∷ fs) (l ∷ ls) = leaf_length f.ty l + leaves_length fs ls
leaves_length _ _ = 0

-- how many bytes the leaves of the struct of that number take
abbrev pub group_length : Schema → ℕ → List Leaf → ℕ
group_length schema group leaves = option_map_or (λ g. leaves_length g.fields leaves) (slice_get schema.groups group) 0

-- how many bytes an element takes
abbrev pub element_length : Schema → Plain → Element → ℕ
element_length schema (plain.Num bytes signed) (element.Leaf l) = leaf_length (ty.Num bytes signed) l
element_length schema plain.Str (element.Leaf l) = leaf_length ty.Str l
element_length schema plain.Box4 (element.Leaf l) = leaf_length ty.Box4 l
element_length schema (plain.Struct group) (element.Group leaves) = group_length schema group leaves
element_length schema _ _ = 0

-- how many bytes elements take, one after another
abbrev pub elements_length : Schema → Plain → List Element → ℕ
elements_length schema of [] = 0
elements_length schema of (e ∷ es) = element_length schema of e + elements_length schema of es

-- how many bytes a value takes: a vector one more than its elements
abbrev pub value_length : Schema → FieldType → Value → ℕ
value_length schema (ty.Num bytes signed) (value.Leaf l) = leaf_length (ty.Num bytes signed) l
value_length schema ty.Str (value.Leaf l) = leaf_length ty.Str l
value_length schema ty.Box4 (value.Leaf l) = leaf_length ty.Box4 l
value_length schema (ty.Vector of) (value.List elements) = 1 + elements_length schema of elements
value_length schema (ty.Struct group) (value.Group leaves) = group_length schema group leaves
value_length schema _ _ = 0

-- how many bytes values take, one after another
abbrev pub values_length : Schema → List Field → List Value → ℕ
values_length schema (f ∷ fs) (v ∷ vs) = value_length schema f.ty v + values_length schema fs vs
values_length schema _ _ = 0

-- whether a row is one of a class: a value for each field, each of its type
abbrev pub row_holds : Schema → ℕ → List Value → Bool
row_holds schema class row = option_map_or (λ c. values_hold schema c.fields row) (slice_get schema.classes class) false

-- how many bytes a row of a class takes
abbrev pub row_length : Schema → ℕ → List Value → ℕ
row_length schema class row = option_map_or (λ c. values_length schema c.fields row) (slice_get schema.classes class) 0
