-- The printed form of values: the one text of a value that a report has.
use Rattle.std.specs.Prelude.{ℕ, ◌/◌, ◌%◌, ◌||◌, ◌==◌, false, nat_lt, if◌then◌else◌, List, [], ◌∷◌, ◌++◌, codes, flat_map}
use Rattle.std.specs.Fmt.{signed_decimal, digit_glyph}
use Rattle.std.specs.List.{join_by}
use Rattle.rdb_base.specs.declared.value.Rect.{Rect as Box}
use Rattle.rdb_base.specs.declared.value.Leaf.{Leaf}
use Rattle.rdb_base.specs.declared.value.Leaf.TheVariants as leaf
use Rattle.rdb_base.specs.declared.value.Element.{Element}
use Rattle.rdb_base.specs.declared.value.Element.TheVariants as element
use Rattle.rdb_base.specs.declared.value.Value.{Value}
use Rattle.rdb_base.specs.declared.value.Value.TheVariants as value

-- a byte as two hexadecimal digits in lower case
abbrev pub hex_pair : ℕ → List ℕ
hex_pair byte = digit_glyph false (byte / 16) ∷ digit_glyph false (byte % 16) ∷ []

-- a byte as it stands in a quoted text: a quote or a backslash behind a backslash, a control byte in hexadecimal digits, any other as it is
abbrev pub escaped : ℕ → List ℕ
escaped byte =
    if byte == 34 || byte == 92 then codes "\\" ++ byte ∷ []
    else (if nat_lt byte 32 || byte == 127 then codes "\\x" ++ hex_pair byte else byte ∷ [])

-- a text in double quotes
abbrev pub quoted : List ℕ → List ℕ
quoted words = codes "\"" ++ flat_map escaped words ++ codes "\""

-- a rectangle: its x1, y1, x2 and y2 in square brackets
abbrev pub rect_text : Box → List ℕ
rect_text rect = codes "[" ++ signed_decimal rect.x1 ++ codes "," ++ signed_decimal rect.y1 ++ codes "," ++ signed_decimal rect.x2
    ++ codes "," ++ signed_decimal rect.y2 ++ codes "]"

-- a value without parts: a number in plain decimal, a text in quotes, a rectangle
abbrev pub leaf_text : Leaf → List ℕ
leaf_text (leaf.Num number) = signed_decimal number
leaf_text (leaf.Text words) = quoted words
leaf_text (leaf.Rect rect) = rect_text rect

-- a struct: its leaves in braces, with commas between them
abbrev pub group_text : List Leaf → List ℕ
group_text leaves = codes "{" ++ join_by leaf_text (codes ",") leaves ++ codes "}"

-- an element of a vector
abbrev pub element_text : Element → List ℕ
element_text (element.Leaf leaf) = leaf_text leaf
element_text (element.Group leaves) = group_text leaves

-- a field's value: a leaf, a vector's elements in round brackets, or a struct
abbrev pub value_text : Value → List ℕ
value_text (value.Leaf leaf) = leaf_text leaf
value_text (value.List elements) = codes "(" ++ join_by element_text (codes ",") elements ++ codes ")"
value_text (value.Group leaves) = group_text leaves

-- a row or a key: its values in braces, with commas between them
abbrev pub row_text : List Value → List ℕ
row_text row = codes "{" ++ join_by value_text (codes ",") row ++ codes "}"
