-- The lines of a text, and the words of a line.
use Rattle.std.specs.Prelude.{ℕ, Bool, ◌+◌, ◌≤◌, ◌==◌, ◌||◌, ◌&&◌, not, nat_le, nat_lt, List, [], ◌∷◌, length, take, drop, slice_index, if◌then◌else◌, Option, Some, None}
use Rattle.std.specs.List.{onto_first, position_or_len, list_all}
use Rattle.std.specs.Char.{is_ascii_digit, is_ascii_alphabetic}

-- the lines of a text, without their ends: a line feed, or a carriage return with a line feed directly after it; the last
-- line may have no end
unfoldable pub lines : List ℕ → List (List ℕ)
lines [] = []
lines (byte ∷ rest) =
    if byte == 10 then [] ∷ lines rest
    else (if byte == 13 && slice_index rest 0 == 10 then lines rest else onto_first byte (lines rest))

-- a line without the carriage return at its end
unfoldable pub without_return : List ℕ → List ℕ
without_return [] = []
without_return (byte ∷ []) = if byte == 13 then [] else byte ∷ []
without_return (byte ∷ next ∷ rest) = byte ∷ without_return (next ∷ rest)

-- spaces and tabs stand between words
abbrev pub is_blank : ℕ → Bool
is_blank byte = byte == 32 || byte == 9

-- a text from its first byte on that is no blank
unfoldable pub after_blanks : List ℕ → List ℕ
after_blanks text = drop (position_or_len (λ byte. not (is_blank byte)) text) text

-- the first word of a text: its first run of bytes without a blank; empty where there is none
unfoldable pub word : List ℕ → List ℕ
word text = take (position_or_len is_blank (after_blanks text)) (after_blanks text)

-- what stands behind the first word
unfoldable pub behind : List ℕ → List ℕ
behind text = drop (position_or_len is_blank (after_blanks text)) (after_blanks text)

-- whether no word is left
unfoldable pub is_end : List ℕ → Bool
is_end text = length (after_blanks text) == 0

-- whether a line's first byte that is no space is a `#`
unfoldable pub is_comment : List ℕ → Bool
is_comment line = slice_index line (position_or_len (λ byte. not (byte == 32)) line) == 35

-- letters and the underscore begin a name, and digits go on with it
abbrev pub begins_name : ℕ → Bool
begins_name byte = is_ascii_alphabetic byte || byte == 95

abbrev pub goes_on_with_name : ℕ → Bool
goes_on_with_name byte = begins_name byte || is_ascii_digit byte

-- whether a word is a name: at most 32 bytes of letters, digits and underscores, the first of them no digit
unfoldable pub is_name : List ℕ → Bool
is_name word = nat_le (length word) 32 && (begins_name (slice_index word 0) && list_all goes_on_with_name word)

-- the word, where it is a name
abbrev pub name_in : List ℕ → Option (List ℕ)
name_in word = if is_name word then Some word else None
