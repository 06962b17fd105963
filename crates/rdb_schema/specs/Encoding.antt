-- Rows as bytes: fields in declared order with nothing between them, numbers with their lowest byte first.
use Rattle.std.specs.Prelude.{ℕ, suc, ◌-◌, ◌^◌, ℤ, pos, negsuc, List, [], ◌∷◌, ◌++◌, length, flat_map}
use Rattle.rdb_base.specs.declared.value.Rect.{Rect}
use Rattle.rdb_base.specs.declared.value.Leaf.{Leaf}
use Rattle.rdb_base.specs.declared.value.Leaf.TheVariants as leaf
use Rattle.rdb_base.specs.declared.value.Element.{Element}
use Rattle.rdb_base.specs.declared.value.Element.TheVariants as element
use Rattle.rdb_base.specs.declared.value.Value.{Value}
use Rattle.rdb_base.specs.declared.value.Value.TheVariants as value
use Rattle.rdb_schema.specs.declared.schema.FieldType.{FieldType}
use Rattle.rdb_schema.specs.declared.schema.FieldType.TheVariants as ty
use Rattle.rdb_schema.specs.declared.schema.Schema.{Schema}
use Rattle.rdb_schema.specs.declared.types.ElementType.{ElementType}
use Rattle.rdb_schema.specs.declared.types.ElementType.TheVariants as elements
use Rattle.rdb_schema.specs.declared.types.ValueType.{ValueType}
use Rattle.rdb_schema.specs.declared.types.ValueType.TheVariants as values
use Rattle.rdb_schema.specs.Types.{types_of}
use Rattle.byteorder.specs.Endian.{little_bytes}

-- a number in two's complement of that many bytes, as a natural number
abbrev pub pattern : ℕ → ℤ → ℕ
pattern bytes (pos n) = n
pattern bytes (negsuc n) = 256 ^ bytes - suc n

-- a number's bytes, the lowest first
abbrev pub number_bytes : ℕ → ℤ → List ℕ
number_bytes bytes n = little_bytes bytes (pattern bytes n)

-- a text's bytes: how many there are, in one byte, and they
abbrev pub text_bytes : List ℕ → List ℕ
text_bytes words = length words ∷ words

-- a box's bytes: x1, y1, x2 and y2, of four bytes each
abbrev pub rect_bytes : Rect → List ℕ
rect_bytes box = number_bytes 4 box.x1 ++ (number_bytes 4 box.y1 ++ (number_bytes 4 box.x2 ++ number_bytes 4 box.y2))

-- a leaf's bytes by its type; none where it isn't one of the type
abbrev pub leaf_bytes : FieldType → Leaf → List ℕ
leaf_bytes (ty.Num bytes signed) (leaf.Num n) = number_bytes bytes n
leaf_bytes ty.Str (leaf.Text words) = text_bytes words
leaf_bytes ty.Box4 (leaf.Rect box) = rect_bytes box
leaf_bytes _ _ = []

-- the bytes of the pairs of two lists, one after another
abbrev pub pairs_bytes : {A B : Type 0} → (A → B → List ℕ) → List A → List B → List ℕ
pairs_bytes bytes (x ∷ xs) (y ∷ ys) = bytes x y ++ pairs_bytes bytes xs ys
pairs_bytes bytes _ _ = []

-- a struct's bytes are its fields'
abbrev pub leaves_bytes : List FieldType → List Leaf → List ℕ
leaves_bytes types leaves = pairs_bytes leaf_bytes types leaves

-- an element's bytes by its type
abbrev pub element_bytes : ElementType → Element → List ℕ
element_bytes (elements.Leaf t) (element.Leaf l) = leaf_bytes t l
element_bytes (elements.Group ts) (element.Group ls) = leaves_bytes ts ls
element_bytes _ _ = []

-- a vector's bytes: how many elements there are, in one byte, and theirs
abbrev pub vector_bytes : ElementType → List Element → List ℕ
vector_bytes of es = length es ∷ flat_map (element_bytes of) es

-- a value's bytes by its type
abbrev pub value_bytes : ValueType → Value → List ℕ
value_bytes (values.Leaf t) (value.Leaf l) = leaf_bytes t l
value_bytes (values.Vector of) (value.List es) = vector_bytes of es
value_bytes (values.Group ts) (value.Group ls) = leaves_bytes ts ls
value_bytes _ _ = []

-- a row's bytes by the types of its class's fields
abbrev pub row_bytes : List ValueType → List Value → List ℕ
row_bytes types row = pairs_bytes value_bytes types row

-- the encoding of a row of a class
abbrev pub encoding : Schema → ℕ → List Value → List ℕ
encoding schema class row = row_bytes (types_of schema class) row
