-- How values may be written. A value may be written in several ways: spaces and tabs may stand between its tokens, zeros may lead the
-- digits of its numbers, and the bytes of its texts may be escaped.
use Rattle.std.specs.Prelude.{◌≡◌, ◌≢◌, ℕ, ℤ, ◌<◌, ◌≤◌, ◌^◌, Bool, ◌&&◌, ◌⊎◌, List, [], ◌∷◌, ◌++◌, length, IsTrue, int_le}
use Rattle.std.specs.Str.Parse.{IsNumeral, digits_value}
use Rattle.rdb_base.specs.declared.value.Rect.{Rect}
use Rattle.rdb_base.specs.declared.value.Leaf.{Leaf}
use Rattle.rdb_base.specs.declared.value.Leaf.TheVariants as leaf
use Rattle.rdb_base.specs.declared.value.Element.{Element}
use Rattle.rdb_base.specs.declared.value.Element.TheVariants as element
use Rattle.rdb_base.specs.declared.value.Value.{Value}
use Rattle.rdb_base.specs.declared.value.Value.TheVariants as value
use Rattle.rdb_schema.specs.declared.schema.FieldType.{FieldType}
use Rattle.rdb_schema.specs.declared.schema.Schema.{Schema}
use Rattle.rdb_schema.specs.Indexes.{key_fields}
use Rattle.rdb_schema.specs.Proper.{HasEdges}
use Rattle.rdb_schema.specs.Values.{holds, row_holds, values_hold}
use Rattle.rdb_literals.specs.Spelling.{signed, with_sign, IsQuoted}

-- spaces and tabs
abbrev pub AreBlanks : List ℕ → Type 0
AreBlanks [] = Unit {0}
AreBlanks (byte ∷ bytes) = ((byte ≡ 32) ⊎ (byte ≡ 9)) × AreBlanks bytes

-- the text doesn't go on with a space or a tab
abbrev pub BeginsNoBlank : List ℕ → Type 0
BeginsNoBlank [] = Unit {0}
BeginsNoBlank (byte ∷ rest) = (byte ≢ 32) × (byte ≢ 9)

-- a number: digits of a value of at most 64 bits, and a `-` directly before them where it is negative. Zeros may lead, and `-0` is 0
abbrev pub IsNumberText : List ℕ → ℤ → Type 0
IsNumberText text number = (negative : Bool) × (digits : List ℕ) × (text ≡ signed negative digits) × IsNumeral 10 digits × (digits_value 10 digits < 2 ^ 64) × (number ≡ with_sign negative (digits_value 10 digits))

-- what follows an element of a list: the closing sign, or a comma and a further element, with blanks before each
-- (`,` is 44)
abbrev pub IsListEnd : {X : Type 0} → (List ℕ → X → Type 0) → ℕ → List ℕ → List X → Type 0
IsListEnd IsText close text [] = (blanks : List ℕ) × AreBlanks blanks × (text ≡ blanks ++ close ∷ [])
IsListEnd IsText close text (x ∷ xs) =
    (before after first more : List ℕ) × AreBlanks before × AreBlanks after × IsText first x × IsListEnd IsText close more xs
    × (text ≡ before ++ 44 ∷ (after ++ (first ++ more)))

-- elements between an opening and a closing sign, with commas between them and blanks round each
abbrev pub IsListText : {X : Type 0} → (List ℕ → X → Type 0) → ℕ → ℕ → List ℕ → List X → Type 0
IsListText IsText open_ close text [] = (blanks : List ℕ) × AreBlanks blanks × (text ≡ open_ ∷ (blanks ++ close ∷ []))
IsListText IsText open_ close text (x ∷ xs) =
    (blanks first more : List ℕ) × AreBlanks blanks × IsText first x × IsListEnd IsText close more xs × (text ≡ open_ ∷ (blanks ++ (first ++ more)))

-- the signs that close a list of elements: `)`, `]` and `}`
abbrev pub IsClosing : ℕ → Type 0
IsClosing sign = (sign ≡ 41) ⊎ (sign ≡ 93) ⊎ (sign ≡ 125)

-- the text begins with a sign that may begin a value: not with a blank, a comma or a closing sign
abbrev pub BeginsValue : List ℕ → Type 0
BeginsValue [] = ⊥
BeginsValue (byte ∷ rest) = (byte ≢ 32) × (byte ≢ 9) × (byte ≢ 44) × (byte ≢ 41) × (byte ≢ 93) × (byte ≢ 125)

-- each edge of a rectangle has 32 bits, and the first corner isn't beyond the second
abbrev pub HasCorners : Rect → Type 0
HasCorners rect = HasEdges rect × IsTrue (int_le rect.x1 rect.x2 && int_le rect.y1 rect.y2)

-- a rectangle: x1, y1, x2 and y2 in square brackets
-- (`[` is 91 and `]` is 93)
abbrev pub IsRectText : List ℕ → Rect → Type 0
IsRectText text rect = IsListText IsNumberText 91 93 text (rect.x1 ∷ rect.y1 ∷ rect.x2 ∷ rect.y2 ∷ []) × HasCorners rect

-- a value without parts
abbrev pub IsLeafText : List ℕ → Leaf → Type 0
IsLeafText text (leaf.Num number) = IsNumberText text number
IsLeafText text (leaf.Text words) = IsQuoted text words
IsLeafText text (leaf.Rect rect) = IsRectText text rect

-- an element of a vector: a leaf, or a struct's leaves in braces
-- (`{` is 123 and `}` is 125)
abbrev pub IsElementText : List ℕ → Element → Type 0
IsElementText text (element.Leaf l) = IsLeafText text l
IsElementText text (element.Group leaves) = IsListText IsLeafText 123 125 text leaves

-- a field's value: a leaf, a vector's elements in round brackets, or a struct's leaves in braces
-- (`(` is 40 and `)` is 41)
abbrev pub IsValueText : List ℕ → Value → Type 0
IsValueText text (value.Leaf l) = IsLeafText text l
IsValueText text (value.List elements) = IsListText IsElementText 40 41 text elements
IsValueText text (value.Group leaves) = IsListText IsLeafText 123 125 text leaves

-- a row or a key: its values in braces
abbrev pub IsRowText : List ℕ → List Value → Type 0
IsRowText text row = IsListText IsValueText 123 125 text row

-- a text of at most 255 bytes, in quotes
abbrev pub IsSpelledText : List ℕ → List ℕ → Type 0
IsSpelledText text words = IsQuoted text words × (length words ≤ 255)

-- a value of a type, as it may be written
abbrev pub IsSpelledValue : Schema → FieldType → List ℕ → Value → Type 0
IsSpelledValue schema ty text v = IsValueText text v × IsTrue (holds schema ty v)

-- a row of a class, as it may be written
abbrev pub IsSpelledRow : Schema → ℕ → List ℕ → List Value → Type 0
IsSpelledRow schema class text row = IsRowText text row × IsTrue (row_holds schema class row)

-- a key of an index, as it may be written: a value for each of the key's fields
abbrev pub IsSpelledKey : Schema → ℕ → ℕ → List ℕ → List Value → Type 0
IsSpelledKey schema class index text key = IsRowText text key × IsTrue (values_hold schema (key_fields schema class index) key)
