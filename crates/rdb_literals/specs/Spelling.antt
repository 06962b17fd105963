-- How the parts of values may be written: numbers, and texts in quotes. A value may be written in several ways.
use Rattle.std.specs.Prelude.{◌≡◌, ◌≢◌, ℕ, ℤ, pos, neg_ℤ, ◌+◌, ◌*◌, ◌<◌, Bool, true, false, ◌⊎◌, List, [], ◌∷◌, ◌++◌}
use Rattle.std.specs.Char.{digit_value, is_ascii_digit}
use Rattle.std.specs.Str.{IsUtf8}

-- the text doesn't go on with a digit
abbrev pub BeginsNoDigit : List ℕ → Type 0
BeginsNoDigit [] = Unit {0}
BeginsNoDigit (byte ∷ rest) = is_ascii_digit byte ≡ false

-- digits, with a `-` before them where the number is negative
abbrev pub signed : Bool → List ℕ → List ℕ
signed false digits = digits
signed true digits = 45 ∷ digits

-- the number of this size, or its negative
abbrev pub with_sign : Bool → ℕ → ℤ
with_sign false size = pos size
with_sign true size = neg_ℤ (pos size)

-- a byte of a text, as it may stand between quotes: itself, but for a quote and a backslash; one of these behind a
-- backslash; or, below 128, `\x` and two hexadecimal digits
-- (`"` is 34, `\` is 92 and `x` is 120)
abbrev pub IsPiece : List ℕ → ℕ → Type 0
IsPiece [] byte = ⊥
IsPiece (a ∷ []) byte = (a ≡ byte) × (a ≢ 34) × (a ≢ 92)
IsPiece (a ∷ b ∷ []) byte = (a ≡ 92) × (b ≡ byte) × ((b ≡ 34) ⊎ (b ≡ 92))
IsPiece (a ∷ b ∷ c ∷ []) byte = ⊥
IsPiece (a ∷ b ∷ c ∷ d ∷ []) byte = (a ≡ 92) × (b ≡ 120) × (digit_value c < 16) × (digit_value d < 16) × (byte ≡ 16 * digit_value c + digit_value d) × (byte < 128)
IsPiece (a ∷ b ∷ c ∷ d ∷ e ∷ more) byte = ⊥

-- the bytes of a text, each as it may stand between quotes
abbrev pub IsSpelled : List ℕ → List ℕ → Type 0
IsSpelled text [] = text ≡ []
IsSpelled text (byte ∷ bytes) = (piece : List ℕ) × (more : List ℕ) × (text ≡ piece ++ more) × IsPiece piece byte × IsSpelled more bytes

-- a text in double quotes
abbrev pub IsQuoted : List ℕ → List ℕ → Type 0
IsQuoted text words = (inner : List ℕ) × (text ≡ 34 ∷ (inner ++ 34 ∷ [])) × IsSpelled inner words × IsUtf8 words
