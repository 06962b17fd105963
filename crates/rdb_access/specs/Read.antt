-- What is read of any bytes by a type, where they begin with a value's or not.
use Rattle.std.specs.Prelude.{ℕ, zero, suc, ℤ, pos, nat_le, if◌then◌else◌, List, [], ◌∷◌, length, drop, slice_index}
use Rattle.std.specs.Int.{w32, cast_signed}
use Rattle.std.specs.Str.Lossy.{utf8_lossy}
use Rattle.byteorder.specs.Endian.{little_number}
use Rattle.rdb_base.specs.declared.value.Rect.{Rect}
use Rattle.rdb_base.specs.declared.value.Leaf.{Leaf}
use Rattle.rdb_base.specs.declared.value.Leaf.TheVariants as leaf
use Rattle.rdb_base.specs.declared.value.Element.{Element}
use Rattle.rdb_base.specs.declared.value.Element.TheVariants as element
use Rattle.rdb_base.specs.declared.value.Value.{Value}
use Rattle.rdb_base.specs.declared.value.Value.TheVariants as value
use Rattle.rdb_schema.specs.declared.schema.FieldType.{FieldType}
use Rattle.rdb_schema.specs.declared.schema.FieldType.TheVariants as ty
use Rattle.rdb_schema.specs.declared.types.ElementType.{ElementType}
use Rattle.rdb_schema.specs.declared.types.ElementType.TheVariants as elements
use Rattle.rdb_schema.specs.declared.types.ValueType.{ValueType}
use Rattle.rdb_schema.specs.declared.types.ValueType.TheVariants as values
use Rattle.rdb_access.specs.Walk.{after_leaf, after_element, after_value, number_from, text_from}

-- the edge that bytes begin with, of 4 bytes; 0 where there are fewer
abbrev pub edge_from : List ℕ → ℤ
edge_from xs = if nat_le 4 (length xs) then cast_signed w32 (little_number 4 xs) else pos 0

-- the box that bytes begin with
abbrev pub rect_from : List ℕ → Rect
rect_from xs = record { x1 = edge_from xs; y1 = edge_from (drop 4 xs); x2 = edge_from (drop 8 xs); y2 = edge_from (drop 12 xs) }

-- the leaf that bytes begin with; 0 where the type has no leaves
abbrev pub read_leaf : FieldType → List ℕ → Leaf
read_leaf (ty.Num bytes signed) xs = leaf.Num (number_from bytes signed xs)
read_leaf ty.Str xs = leaf.Text (utf8_lossy (text_from xs))
read_leaf ty.Box4 xs = leaf.Rect (rect_from xs)
read_leaf _ xs = leaf.Num (pos 0)

-- a struct's leaves, one after another
abbrev pub read_leaves : List FieldType → List ℕ → List Leaf
read_leaves [] xs = []
read_leaves (t ∷ ts) xs = read_leaf t xs ∷ read_leaves ts (after_leaf t xs)

-- the element that bytes begin with
abbrev pub read_element : ElementType → List ℕ → Element
read_element (elements.Leaf t) xs = element.Leaf (read_leaf t xs)
read_element (elements.Group ts) xs = element.Group (read_leaves ts xs)

-- so many elements, one after another
abbrev pub read_elements : ElementType → ℕ → List ℕ → List Element
read_elements of zero xs = []
read_elements of (suc n) xs = read_element of xs ∷ read_elements of n (after_element of xs)

-- the value that bytes begin with
abbrev pub read_value : ValueType → List ℕ → Value
read_value (values.Leaf t) xs = value.Leaf (read_leaf t xs)
read_value (values.Vector of) xs = value.List (read_elements of (slice_index xs 0) (drop 1 xs))
read_value (values.Group ts) xs = value.Group (read_leaves ts xs)

-- the values of types, one after another
abbrev pub read_values : List ValueType → List ℕ → List Value
read_values [] xs = []
read_values (t ∷ ts) xs = read_value t xs ∷ read_values ts (after_value t xs)
