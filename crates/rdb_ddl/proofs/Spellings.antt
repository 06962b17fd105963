-- Which token a text begins with, by its spelling.
use Rattle.std.proofs.Common.{◌≡◌, ℕ, ◌+◌, ◌*◌, ◌-◌, ◌<◌, ◌≤◌, ◌^◌, ◌/◌, ◌%◌, Bool, true, false, cond, ltb, eqb, List, [], ◌∷◌, ◌++◌, length, take, Option, Some, None, Ok, refl, sym, ap, ◌∙◌, arith, length-append}
use Rattle.std.specs.Char.{is_ascii_digit}
use Rattle.std.specs.List.{AllPass, prefix_len, take_while}
use Rattle.std.specs.Fmt.{decimal as printed}
use Rattle.std.proofs.lemmas.Bool.Decides.{nat_tests, Decides-eqb}
use Rattle.std.proofs.lemmas.List.Sums.{fold_push}
use Rattle.std.proofs.lemmas.List.Elements.{All-push, All-head, All-tail, All-cons, All-nil}
use Rattle.std.proofs.lemmas.Fmt.{decimal_by_steps}
use Rattle.std.proofs.Math.Seq.{take-append_seam, drop-append_seam}
use Rattle.rdb_ddl.specs.declared.token.Sign.{Sign}
use Rattle.rdb_ddl.specs.declared.token.Sign.TheVariants as signs
use Rattle.rdb_ddl.specs.Token.{Word, Name, Number, Mark, decimal, number_of, trivia_len, after_passing, unknown_at, token_of, name_at, number_at, token_at, lexeme_at, lexeme_after}
use Rattle.rdb_schema.specs.Names.{begins_name, is_name_byte, IsWord}
use Rattle.rdb_ddl.proofs.Trivia.{after_trivia-none}

-- a text begins with a token, after which the rest stands
pub record Begins (text : List ℕ) (word : Word) (rest : List ℕ) : Type 0 where
  pub left : ℕ
  pub is : lexeme_at text ≡ record { word = word; left = left; rest = rest }
  pub shorter : length rest < length text

-- bytes that a test tells apart differ
differs : (p : ℕ → Bool) (byte other : ℕ) → p byte ≡ true → p other ≡ false → eqb byte other ≡ false
differs p byte other yes_ no_ = by_test (eqb byte other) refl where
  by_test : (b : Bool) → eqb byte other ≡ b → eqb byte other ≡ false
  by_test false t = t
  by_test true t =
      let same : byte ≡ other = (Decides-eqb byte other).0 t in
      let both : true ≡ false = sym yes_ ∙ ap p same ∙ no_ in
      absurd cc

-- what no blank and no comment begins with
stands_alone : (byte : ℕ) (rest : List ℕ) → eqb byte 32 ≡ false → eqb byte 9 ≡ false → eqb byte 10 ≡ false → eqb byte 13 ≡ false → eqb byte 47 ≡ false → trivia_len (byte ∷ rest) ≡ Ok 0
unfolding trivia_len
stands_alone byte rest a b c d e = rw (a, b, c, d, e) refl

begins_at_once : (p : ℕ → Bool) (byte : ℕ) (rest : List ℕ) → p byte ≡ true → p 32 ≡ false → p 9 ≡ false → p 10 ≡ false → p 13 ≡ false → p 47 ≡ false → lexeme_at (byte ∷ rest) ≡ token_at (byte ∷ rest)
begins_at_once p byte rest h a b c d e =
    ap lexeme_after (after_trivia-none (byte ∷ rest) (stands_alone byte rest (differs p byte 32 h a) (differs p byte 9 h b) (differs p byte 10 h c) (differs p byte 13 h d) (differs p byte 47 h e)))

-- what passes a test stands in front of what doesn't
prefix_of : (p : ℕ → Bool) (front : List ℕ) (byte : ℕ) (rest : List ℕ) → AllPass p front → p byte ≡ false → prefix_len p (front ++ byte ∷ rest) ≡ length front
prefix_of p [] byte rest all stop = ap (λ (t : Bool). cond t (1 + prefix_len p rest) 0) stop
prefix_of p (x ∷ front) byte rest all stop =
    let more = prefix_of p front byte rest (All-tail (λ (b : ℕ). p b ≡ true) x front all) stop in
    let here : prefix_len p (x ∷ front ++ byte ∷ rest) ≡ 1 + prefix_len p (front ++ byte ∷ rest) = ap (λ (t : Bool). cond t (1 + prefix_len p (front ++ byte ∷ rest)) 0) (All-head (λ (b : ℕ). p b ≡ true) x front all) in
    omega arith

front_len : (p : ℕ → Bool) (front : List ℕ) (byte : ℕ) (rest : List ℕ) → AllPass p front → p byte ≡ false → length (take_while p (front ++ byte ∷ rest)) ≡ length front
front_len p front byte rest all stop =
    ap length (ap (λ (len : ℕ). take len (front ++ byte ∷ rest)) (prefix_of p front byte rest all stop) ∙ take-append_seam front (byte ∷ rest))

within : (most len : ℕ) → len ≤ most → ltb most len ≡ false
within most len le = grind (arith, nat_tests)

name_is : (name : List ℕ) (byte : ℕ) (rest : List ℕ) → IsWord name → is_name_byte byte ≡ false → name_at (name ++ byte ∷ rest) ≡ record { word = Name name; left = length (name ++ byte ∷ rest); rest = byte ∷ rest }
name_is name byte rest word stop =
    let text = name ++ byte ∷ rest in
    ap (λ (len : ℕ). cond (ltb 32 len) (unknown_at text) (token_of (Name (take len text)) len text)) (front_len is_name_byte name byte rest word.goes_on stop)
    ∙ ap (λ (past : Bool). cond past (unknown_at text) (token_of (Name (take (length name) text)) (length name) text)) (within 32 (length name) word.short)
    ∙ (λ i. record { word = Name (take-append_seam name (byte ∷ rest) i); left = length text; rest = drop-append_seam name (byte ∷ rest) i })

named : (byte : ℕ) (rest : List ℕ) → begins_name byte ≡ true → token_at (byte ∷ rest) ≡ name_at (byte ∷ rest)
unfolding token_at
named byte rest h = rw h refl

-- a name, and what doesn't go on with it
pub begins_word : (name : List ℕ) (byte : ℕ) (rest : List ℕ) → IsWord name → is_name_byte byte ≡ false → Begins (name ++ byte ∷ rest) (Name name) (byte ∷ rest)
begins_word [] byte rest word stop = absurd (none word.begins) where
  none : false ≡ true → ⊥
  none e = cc
begins_word (first ∷ name) byte rest word stop = record {
  left = length (first ∷ name ++ byte ∷ rest);
  is = begins_at_once begins_name first (name ++ byte ∷ rest) word.begins refl refl refl refl refl ∙ named first (name ++ byte ∷ rest) word.begins ∙ name_is (first ∷ name) byte rest word stop;
  shorter = simp length-append (omega arith);
}

-- the digits that are printed write their number
record Writes (value : ℕ) (digits : List ℕ) : Type 0 where
  digits_alone : AllPass is_ascii_digit digits
  value_is : decimal digits ≡ value
  some : 0 < length digits

is_digit : (value : ℕ) → value < 10 → is_ascii_digit (48 + value) ≡ true
is_digit value small = grind (arith, nat_tests)

writes_one : (value : ℕ) → value < 10 → Writes value ((48 + value) ∷ [])
writes_one value small = record { digits_alone = All-cons (λ (b : ℕ). is_ascii_digit b ≡ true) (48 + value) [] (is_digit value small) (All-nil (λ (b : ℕ). is_ascii_digit b ≡ true)); value_is = omega arith; some = omega arith }

writes_more : (value : ℕ) (digits : List ℕ) → 10 ≤ value → Writes (value / 10) digits → Writes value (digits ++ ((48 + value % 10) ∷ []))
writes_more value digits large front =
    let last : value % 10 < 10 = omega arith in
    let whole : decimal (digits ++ ((48 + value % 10) ∷ [])) ≡ 10 * decimal digits + ((48 + value % 10) - 48) = fold_push (λ value digit. 10 * value + (digit - 48)) 0 digits (48 + value % 10) in
    let before : decimal digits ≡ value / 10 = front.value_is in
    record {
      digits_alone = All-push (λ byte. is_ascii_digit byte ≡ true) digits (48 + value % 10) front.digits_alone (is_digit (value % 10) last);
      value_is = omega arith;
      some = simp length-append (omega arith);
    }

writes : (value : ℕ) → value < 2 ^ 64 → Writes value (printed value)
writes value small = decimal_by_steps Writes writes_one writes_more value small

digit_no_letter : (byte : ℕ) → is_ascii_digit byte ≡ true → begins_name byte ≡ false
digit_no_letter byte h = grind (arith, nat_tests)

counted : (byte : ℕ) (rest : List ℕ) → begins_name byte ≡ false → is_ascii_digit byte ≡ true → let text = byte ∷ rest in let len = length (take_while is_ascii_digit text) in token_at text ≡ number_at (number_of (take len text)) len text
unfolding token_at
counted byte rest no_letter digit = rw (no_letter, digit) refl

number_is : (value : ℕ) (digits : List ℕ) (byte : ℕ) (rest : List ℕ) → Writes value digits → value ≤ 4294967295 → is_ascii_digit byte ≡ false → let text = digits ++ byte ∷ rest in let len = length (take_while is_ascii_digit text) in number_at (number_of (take len text)) len text ≡ record { word = Number value; left = length text; rest = byte ∷ rest }
number_is value digits byte rest w small stop =
    let text = digits ++ byte ∷ rest in
    let number : number_of digits ≡ Some value =
    ap (λ (n : ℕ). cond (ltb 4294967295 n) None (Some n)) w.value_is ∙ ap (λ (past : Bool). cond past None (Some value)) (within 4294967295 value small) in
    ap (λ (len : ℕ). number_at (number_of (take len text)) len text) (front_len is_ascii_digit digits byte rest w.digits_alone stop)
    ∙ ap (λ (front : List ℕ). number_at (number_of front) (length digits) text) (take-append_seam digits (byte ∷ rest))
    ∙ ap (λ (n : Option ℕ). number_at n (length digits) text) number
    ∙ (λ i. record { word = Number value; left = length text; rest = drop-append_seam digits (byte ∷ rest) i })

begins_digits : (value : ℕ) (digits : List ℕ) (byte : ℕ) (rest : List ℕ) → Writes value digits → value ≤ 4294967295 → is_ascii_digit byte ≡ false → Begins (digits ++ byte ∷ rest) (Number value) (byte ∷ rest)
begins_digits value [] byte rest w small stop = absurd (none w.some) where
  none : 0 < 0 → ⊥
  none e = omega arith
begins_digits value (first ∷ digits) byte rest w small stop =
    let here : is_ascii_digit first ≡ true = All-head (λ (b : ℕ). is_ascii_digit b ≡ true) first digits w.digits_alone in
    record {
      left = length (first ∷ digits ++ byte ∷ rest);
      is = begins_at_once is_ascii_digit first (digits ++ byte ∷ rest) here refl refl refl refl refl ∙ counted first (digits ++ byte ∷ rest) (digit_no_letter first here) here ∙ number_is value (first ∷ digits) byte rest w small stop;
      shorter = simp length-append (omega arith);
    }

-- a number as it is printed, and what doesn't go on with it
pub begins_number : (value byte : ℕ) (rest : List ℕ) → value ≤ 4294967295 → is_ascii_digit byte ≡ false → Begins (printed value ++ byte ∷ rest) (Number value) (byte ∷ rest)
begins_number value byte rest small stop = begins_digits value (printed value) byte rest (writes value (omega arith)) small stop

-- the byte of a sign
abbrev pub byte_of : Sign → ℕ
byte_of signs.OpenBrace = 123
byte_of signs.CloseBrace = 125
byte_of signs.Less = 60
byte_of signs.Greater = 62
byte_of signs.OpenBracket = 91
byte_of signs.CloseBracket = 93
byte_of signs.Comma = 44
byte_of signs.Semicolon = 59

sign_at : (sign : Sign) (rest : List ℕ) → lexeme_at (byte_of sign ∷ rest) ≡ record { word = Mark sign; left = length (byte_of sign ∷ rest); rest = rest }
unfolding token_at trivia_len after_passing
sign_at signs.OpenBrace rest = refl
sign_at signs.CloseBrace rest = refl
sign_at signs.Less rest = refl
sign_at signs.Greater rest = refl
sign_at signs.OpenBracket rest = refl
sign_at signs.CloseBracket rest = refl
sign_at signs.Comma rest = refl
sign_at signs.Semicolon rest = refl

pub begins_sign : (sign : Sign) (rest : List ℕ) → Begins (byte_of sign ∷ rest) (Mark sign) rest
begins_sign sign rest = record { left = length (byte_of sign ∷ rest); is = sign_at sign rest; shorter = omega arith }

-- spaces and line feeds mean nothing
pub after_space : (text : List ℕ) → lexeme_at (32 ∷ text) ≡ lexeme_at text
unfolding trivia_len after_passing
after_space text = refl

pub after_feed : (text : List ℕ) → lexeme_at (10 ∷ text) ≡ lexeme_at text
unfolding trivia_len after_passing
after_feed text = refl
