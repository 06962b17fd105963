-- What is left of bytes behind the value of a type that they begin with.
use Rattle.std.specs.Prelude.{ℕ, zero, suc, ◌+◌, ◌-◌, ℤ, pos, Bool, ◌&&◌, nat_lt, nat_le, if◌then◌else◌, List, [], ◌∷◌, ◌++◌, length, take, drop, slice_index, slice_get, Option, Some, None}
use Rattle.byteorder.specs.Endian.{little_number, little_bytes, twos_complement}
use Rattle.rdb_schema.specs.declared.schema.FieldType.{FieldType}
use Rattle.rdb_schema.specs.declared.schema.FieldType.TheVariants as ty
use Rattle.rdb_schema.specs.Encoding.{pattern}
use Rattle.rdb_schema.specs.declared.types.ElementType.{ElementType}
use Rattle.rdb_schema.specs.declared.types.ElementType.TheVariants as elements
use Rattle.rdb_schema.specs.declared.types.ValueType.{ValueType}
use Rattle.rdb_schema.specs.declared.types.ValueType.TheVariants as values

-- how many bytes the leaf takes with which bytes begin: a text says it in its first byte
abbrev pub leaf_width : FieldType → List ℕ → ℕ
leaf_width (ty.Num bytes signed) xs = bytes
leaf_width ty.Str xs = 1 + slice_index xs 0
leaf_width ty.Box4 xs = 16
leaf_width _ xs = 0

-- what is left behind a leaf
abbrev pub after_leaf : FieldType → List ℕ → List ℕ
after_leaf t xs = drop (leaf_width t xs) xs

-- what is left behind a struct's leaves
abbrev pub after_leaves : List FieldType → List ℕ → List ℕ
after_leaves [] xs = xs
after_leaves (t ∷ ts) xs = after_leaves ts (after_leaf t xs)

-- what is left behind an element
abbrev pub after_element : ElementType → List ℕ → List ℕ
after_element (elements.Leaf t) xs = after_leaf t xs
after_element (elements.Group ts) xs = after_leaves ts xs

-- what is left behind so many elements
abbrev pub after_elements : ElementType → ℕ → List ℕ → List ℕ
after_elements of zero xs = xs
after_elements of (suc n) xs = after_elements of n (after_element of xs)

-- what is left behind a value: a vector says in its first byte how many elements it has
abbrev pub after_value : ValueType → List ℕ → List ℕ
after_value (values.Leaf t) xs = after_leaf t xs
after_value (values.Vector of) xs = after_elements of (slice_index xs 0) (drop 1 xs)
after_value (values.Group ts) xs = after_leaves ts xs

-- what is left behind values, one after another
abbrev pub after_values : List ValueType → List ℕ → List ℕ
after_values [] xs = xs
after_values (t ∷ ts) xs = after_values ts (after_value t xs)

-- the number that bytes begin with, of 1 to 8 bytes with the lowest first, in two's complement where it is signed; 0 where there are fewer
abbrev pub number_from : ℕ → Bool → List ℕ → ℤ
number_from bytes signed xs =
    if nat_lt 0 bytes && (nat_le bytes 8 && nat_le bytes (length xs)) then (if signed then twos_complement bytes (little_number bytes xs) else pos (little_number bytes xs)) else pos 0

-- the number that bytes begin with, where the type is a number's
abbrev pub number_by : Option ValueType → List ℕ → ℤ
number_by (Some (values.Leaf (ty.Num bytes signed))) xs = number_from bytes signed xs
number_by _ xs = pos 0

-- the number in a field
abbrev pub number_in : List ValueType → ℕ → List ℕ → ℤ
number_in types field xs = number_by (slice_get types field) (after_values (take field types) xs)

-- what stands in front of what is left
abbrev pub before : List ℕ → List ℕ → List ℕ
before xs rest = take (length xs - length rest) xs

-- the bytes of the value that bytes begin with, where the type is a vector's
abbrev pub items_by : Option ValueType → List ℕ → List ℕ
items_by (Some (values.Vector of)) xs = before xs (after_value (values.Vector of) xs)
items_by _ xs = []

-- the bytes of a vector in a field
abbrev pub items_in : List ValueType → ℕ → List ℕ → List ℕ
items_in types field xs = items_by (slice_get types field) (after_values (take field types) xs)

-- the words of the text that bytes begin with
abbrev pub text_from : List ℕ → List ℕ
text_from xs = take (slice_index xs 0) (drop 1 xs)

-- the words of the text that bytes begin with, where the type is a text's
abbrev pub text_by : Option ValueType → List ℕ → List ℕ
text_by (Some (values.Leaf ty.Str)) xs = text_from xs
text_by _ xs = []

-- the words of the text in a field
abbrev pub text_in : List ValueType → ℕ → List ℕ → List ℕ
text_in types field xs = text_by (slice_get types field) (after_values (take field types) xs)

-- bytes with a number's pattern of that many bytes over their first ones, the lowest first; as they are where there are fewer
abbrev pub overwritten : ℕ → ℕ → List ℕ → List ℕ
overwritten w x xs = if nat_lt 0 w && (nat_le w 8 && nat_le w (length xs)) then little_bytes w x ++ drop w xs else xs

-- bytes with a number over the value that they begin with, where the type is a number's
abbrev pub overwritten_by : ValueType → ℤ → List ℕ → List ℕ
overwritten_by (values.Leaf (ty.Num w signed)) n xs = overwritten w (pattern w n) xs
overwritten_by _ n xs = xs

-- the same from a place on
abbrev pub with_number_by : Option ValueType → ℤ → ℕ → List ℕ → List ℕ
with_number_by (Some t) n start xs = take start xs ++ overwritten_by t n (drop start xs)
with_number_by None n start xs = xs

-- bytes with a number over that in a field
abbrev pub with_number : List ValueType → ℕ → ℤ → List ℕ → List ℕ
with_number types field n xs = with_number_by (slice_get types field) n (length xs - length (after_values (take field types) xs)) xs
