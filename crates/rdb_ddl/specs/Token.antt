-- The tokens of a text of bytes, and what stands between them.
use Rattle.std.specs.Prelude.{◌≡◌, ◌<◌, ℕ, zero, suc, ◌+◌, ◌*◌, ◌-◌, ◌≤◌, ◌==◌, ◌||◌, ◌&&◌, not, List, [], ◌∷◌, length, take, drop, take_while, fold, Option, Some, None, Result, Ok, Err, nat_lt, slice_index, if◌then◌else◌}
use Rattle.std.specs.Option.{option_map}
use Rattle.std.specs.Char.{is_ascii_digit}
use Rattle.std.specs.Str.{IsAscii}
use Rattle.std.specs.Str.Lossy.{utf8_valid_len}
use Rattle.rdb_schema.specs.Names.{begins_name, is_name_byte}
use Rattle.rdb_ddl.specs.declared.token.Sign.{Sign}
use Rattle.rdb_ddl.specs.declared.token.Sign.TheVariants as signs
use Rattle.rdb_ddl.specs.declared.token.Fault.{Fault}
use Rattle.rdb_ddl.specs.declared.token.Lexeme.{Lexeme as Found}
use Rattle.rdb_ddl.specs.declared.token.Token.{Token}
use Rattle.rdb_ddl.specs.declared.token.Token.TheVariants as tokens

-- a token, without where it lies in memory
pub data Word : Type 0 where
  Name : (bytes : List ℕ) → Word
  Number : (value : ℕ) → Word
  Mark : (sign : Sign) → Word
  End : Word
  Unknown : Word

abbrev pub view : Token → Word
view (tokens.Name name) = Name name.now
view (tokens.Number value) = Number value
view (tokens.Mark sign) = Mark sign
view tokens.End = End
view tokens.Unknown = Unknown

-- a token, how many bytes of the text stand from its first byte on, and the text after it
pub record Lexeme : Type 0 where
  pub word : Word
  pub left : ℕ
  pub rest : List ℕ

-- the number that decimal digits write
abbrev pub decimal : List ℕ → ℕ
decimal digits = fold (λ value digit. 10 * value + (digit - 48)) 0 digits

-- the number where it has 32 bits
abbrev pub number_of : List ℕ → Option ℕ
number_of digits = if nat_lt 4294967295 (decimal digits) then None else Some (decimal digits)

-- how many bytes stand before the first `*/`
abbrev pub before_close : List ℕ → Option ℕ
before_close [] = None
before_close (byte ∷ rest) = if byte == 42 && slice_index rest 0 == 47 then Some 0 else option_map suc (before_close rest)

-- a length, or a fault, of at most so many bytes
abbrev pub IsWithin : Result ℕ Fault → ℕ → Type 0
IsWithin (Ok len) most = len ≤ most
IsWithin (Err fault) most = fault.left ≤ most

-- a comment of so many bytes, which is at fault from the first byte on that is no UTF-8
abbrev pub comment_len : List ℕ → ℕ → Result ℕ Fault
comment_len text len =
    let valid = utf8_valid_len (take len text) in
    if nat_lt valid len then Err (record { left = length text - valid }) else Ok len

-- a comment that ends with `*/` begins with `/*`, and is at fault from its first byte on where it has no end
abbrev pub block_len : List ℕ → Option ℕ → Result ℕ Fault
block_len text None = Err (record { left = length text })
block_len text (Some inner) = comment_len text (inner + 4)

-- how many bytes at the front stand between tokens: a blank, a line end or a comment, and 0 where there is none
-- (a tab is 9, a line feed 10, a carriage return 13, `*` 42 and `/` 47)
unfoldable pub trivia_len : List ℕ → Result ℕ Fault
trivia_len text =
    let byte = slice_index text 0 in
    let next = slice_index text 1 in
    if (byte == 32 || byte == 9) || byte == 10 then Ok 1
    else (if byte == 13 && next == 10 then Ok 2
    else (if byte == 47 && next == 47 then comment_len text (length (take_while (λ b. not (b == 10)) text))
    else (if byte == 47 && next == 42 then block_len text (before_close (drop 2 text))
    else Ok 0)))

-- What stands after what has been found at the front: the whole text where that is nothing.
abbrev pub after_found : Result ℕ Fault → List ℕ → (ℕ → Result (List ℕ) Fault) → Result (List ℕ) Fault
after_found (Err fault) text pass = Err fault
after_found (Ok zero) text pass = Ok text
after_found (Ok (suc more)) text pass = pass more

-- what stands after all blanks, line ends and comments, where so many bytes of one of them are still to be passed
unfoldable pub after_passing : ℕ → List ℕ → Result (List ℕ) Fault
after_passing more [] = Ok []
after_passing (suc more) (byte ∷ rest) = after_passing more rest
after_passing zero (byte ∷ rest) = after_found (trivia_len (byte ∷ rest)) (byte ∷ rest) (λ more. after_passing more rest)

-- the text from its first token on
abbrev pub after_trivia : List ℕ → Result (List ℕ) Fault
after_trivia text = after_passing 0 text

-- what begins no token, and nothing after it
abbrev pub unknown_at : List ℕ → Lexeme
unknown_at text = record { word = Unknown; left = length text; rest = [] }

-- a token of so many bytes
abbrev pub token_of : Word → ℕ → List ℕ → Lexeme
token_of word len text = record { word = word; left = length text; rest = drop len text }

-- a name of at most 32 bytes
abbrev pub name_at : List ℕ → Lexeme
name_at text =
    let len = length (take_while is_name_byte text) in
    if nat_lt 32 len then unknown_at text else token_of (Name (take len text)) len text

abbrev pub number_at : Option ℕ → ℕ → List ℕ → Lexeme
number_at None len text = unknown_at text
number_at (Some value) len text = token_of (Number value) len text

-- `{` is 123, `}` 125, `<` 60, `>` 62, `[` 91, `]` 93, `,` 44 and `;` 59
abbrev pub sign_of : ℕ → Option Sign
sign_of byte =
    if byte == 123 then Some signs.OpenBrace
    else (if byte == 125 then Some signs.CloseBrace
    else (if byte == 60 then Some signs.Less
    else (if byte == 62 then Some signs.Greater
    else (if byte == 91 then Some signs.OpenBracket
    else (if byte == 93 then Some signs.CloseBracket
    else (if byte == 44 then Some signs.Comma
    else (if byte == 59 then Some signs.Semicolon
    else None)))))))

abbrev pub mark_at : Option Sign → List ℕ → Lexeme
mark_at None text = unknown_at text
mark_at (Some sign) text = token_of (Mark sign) 1 text

-- the token that a text begins with
unfoldable pub token_at : List ℕ → Lexeme
token_at [] = record { word = End; left = 0; rest = [] }
token_at (byte ∷ rest) =
    let text = byte ∷ rest in
    let len = length (take_while is_ascii_digit text) in
    if begins_name byte then name_at text
    else (if is_ascii_digit byte then number_at (number_of (take len text)) len text
    else mark_at (sign_of byte) text)

abbrev pub lexeme_after : Result (List ℕ) Fault → Lexeme
lexeme_after (Ok text) = token_at text
lexeme_after (Err fault) = record { word = Unknown; left = fault.left; rest = [] }

-- the first token of a text, after blanks, line ends and comments
abbrev pub lexeme_at : List ℕ → Lexeme
lexeme_at text = lexeme_after (after_trivia text)

abbrev pub view_lexeme : Found → Lexeme
view_lexeme lexeme = record { word = view lexeme.token; left = lexeme.left; rest = lexeme.rest.now }

-- What is true of each token, by how many bytes there are after it and from its first byte on: a name is 1 to 32
-- bytes of ASCII, a number has 32 bits, and nothing is read after the end or after what begins no token.
abbrev pub IsShaped : Word → ℕ → ℕ → Type 0
IsShaped (Name bytes) after left = IsAscii bytes × (0 < length bytes) × (length bytes ≤ 32) × (after + length bytes ≡ left)
IsShaped (Number value) after left = (value ≤ 4294967295) × (after < left)
IsShaped (Mark sign) after left = after + 1 ≡ left
IsShaped End after left = (after ≡ 0) × (left ≡ 0)
IsShaped Unknown after left = after ≡ 0

-- a token of a text of so many bytes
abbrev pub IsIn : Found → ℕ → Type 0
IsIn lexeme total = IsShaped (view lexeme.token) (length lexeme.rest.now) lexeme.left × (lexeme.left ≤ total)
